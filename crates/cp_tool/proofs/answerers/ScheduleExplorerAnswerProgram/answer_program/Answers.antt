use Rattle.std.proofs.lemmas.Result.{IfOk-weaker}
use Rattle.cp_tool.proofs.Meaning.{explored}
use Rattle.cp_tool.proofs.answerers.ScheduleExplorerAnswerProgram.answer_program.Goals as goal

pub returns : goal.returns
returns g c = IfOk-weaker c.explore_program.result _ _ (λ a h t read ok is. explored t c.args.program.now c.args.options.now a.verdict a.text ∣ read ∣₁ ok is h) c.explore_program.ensures
