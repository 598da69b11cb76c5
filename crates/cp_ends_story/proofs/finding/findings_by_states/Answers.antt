use Rattle.std.proofs.Common.{subst, sym}
use Rattle.std.proofs.lemmas.Result.{IfOk-weaker}
use Rattle.std.specs.Prelude.{Option}
use Rattle.cp_waits.specs.Named.{TellAsked}
use Rattle.cp_waits.specs.declared.waiting.Waits.{Waits}
use Rattle.cp_ends_story.proofs.Found.{depth_of}
use Rattle.cp_ends_story.proofs.finding.findings_by_states.Goals as goal

pub returns : goal.returns
returns g c =
    let s = c.args.subject in
    let r = s.program.now in
    let found = c.in_ok-search.search.found in
    let answer = c.in_ok-search.ensures.answer s.some_state in
    let depth = depth_of r s.limits.discipline s.limits.steps s.most answer.findings found.stopped answer.answer in
    IfOk-weaker c.list_found.result _ _
    (λ x h. record {
      found = found;
      answer = answer;
      depth = depth.0;
      within = depth.1;
      listed = h.0 r answer.findings depth.0 answer.holds depth.1;
      waits = subst (λ (w : Option Waits). TellAsked r s.limits.discipline s.limits.steps s.waits found w) (sym h.1) c.in_ok-search.ensures.waits;
    })
    c.list_found.ensures
