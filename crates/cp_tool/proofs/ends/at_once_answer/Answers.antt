use Rattle.std.proofs.Common.{◌∙◌, ap, subst}
use Rattle.cp_machine.specs.declared.discipline.Discipline.{Discipline}
use Rattle.cp_resolved.proofs.Resolving.{read_names}
use Rattle.cp_walk.specs.Text.{Spellings}
use Rattle.cp_at_once.specs.Told.{at_once_text}
use Rattle.cp_at_once.specs.Whole.{IsAnswer}
use Rattle.cp_at_once.proofs.Telling.{findings_of}
use Rattle.cp_tool.proofs.ends.at_once_answer.Goals as goal

pub returns : goal.returns
returns g c = λ t read ok is.
    (let o = c.args.options.now in
    let r = c.args.job.now.program.now in
    let l = c.args.job.now.limits in
    let found = c.in_ok-found.found in
    let a = subst (λ (g : Discipline). IsAnswer r g o.steps o.states found) c.requires.discipline (subst (λ n. IsAnswer r l.discipline n o.states found) c.requires.steps c.in_ok-found.ensures) in
    let f = findings_of r o.discipline o.steps o.states found a in
    let text = c.in_ok-at_once_report.ensures r f.0 f.1 ∙ ap (λ (names : Spellings). at_once_text names f.0 found.is_whole) (read_names t r ∣ read ∣₁ ok is.laid) in
    (f.0, found.is_whole, f.2, c.verdict_at_once.ensures, text))
