use Rattle.std.proofs.lemmas.Result.{IfOk-weaker}
use Rattle.cp_ends_story.proofs.finding.findings_at_once.Goals as goal

pub returns : goal.returns
returns g c =
    let found = c.in_ok-found.found in
    let answer = c.in_ok-found.ensures in
    IfOk-weaker c.list_found_at_once.result _ _
    (λ x h. record {
      found = found;
      answer = answer;
      ends = h.0 c.args.subject.program.now answer.states answer.kept (λ k d lt. (let word = answer.ends k d lt in (word.0, word.1)));
      waits = h.1;
    })
    c.list_found_at_once.ensures
