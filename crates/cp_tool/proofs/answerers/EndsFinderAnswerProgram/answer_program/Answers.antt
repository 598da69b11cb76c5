use Rattle.std.proofs.lemmas.Result.{IfOk-weaker}
use Rattle.cp_meaning_laws.proofs.Accepting.{keeps_exclusion}
use Rattle.cp_machine_laws.specs.Named.{named_discipline}
use Rattle.cp_tool.proofs.answerers.EndsFinderAnswerProgram.answer_program.Goals as goal

pub returns : goal.returns
returns g c =
    let o = c.args.options.now in
    IfOk-weaker c.find_ends.result _ _ (λ a h t read ok is. ((c.args.program.now, is, h t read ok is), keeps_exclusion t ok (named_discipline o.discipline))) c.find_ends.ensures
