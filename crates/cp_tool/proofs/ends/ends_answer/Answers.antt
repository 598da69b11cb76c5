use Rattle.std.proofs.Common.{Bool, subst}
use Rattle.std.proofs.lemmas.Result.{IfOk-weaker}
use Rattle.cp_ends.specs.Whole.{IsAnswer}
use Rattle.cp_machine.specs.declared.discipline.Discipline.{Discipline}
use Rattle.cp_waits.specs.Named.{TellAsked}
use Rattle.cp_tool.specs.Analysis.{tells_waits}
use Rattle.cp_tool.proofs.Finding.{told}
use Rattle.cp_tool.proofs.ends.ends_answer.Goals as goal

pub returns : goal.returns
returns g c =
    let o = c.args.options.now in
    let r = c.args.job.now.program.now in
    let l = c.args.job.now.limits in
    let x = c.in_ok-found.found in
    let a = subst (λ (g : Discipline). IsAnswer r g o.steps o.states x.found) c.requires.discipline (subst (λ n. IsAnswer r l.discipline n o.states x.found) c.requires.steps (c.in_ok-found.ensures.answer o.some_state)) in
    let tells = subst (λ (b : Bool). TellAsked r l.discipline l.steps b x.found x.waits) c.tells_waits-waits.ensures c.in_ok-found.ensures.waits in
    let asked = subst (λ (g : Discipline). TellAsked r g o.steps (tells_waits o.analysis) x.found x.waits) c.requires.discipline (subst (λ n. TellAsked r l.discipline n (tells_waits o.analysis) x.found x.waits) c.requires.steps tells) in
    IfOk-weaker c.report_of.result _ _ (λ answer h t read ok is. told o t r x.found read ok is answer.verdict answer.text a (λ y to d. h t read ok is o y to asked d)) c.report_of.ensures
