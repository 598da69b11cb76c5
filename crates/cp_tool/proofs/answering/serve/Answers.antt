use Rattle.std.proofs.Common.{◌≡◌, take, IfSome, subst, sym}
use Rattle.cp_tool.proofs.Telling.{tells}
use Rattle.cp_tool.proofs.answering.serve.Goals as goal

pub returns-in-Ok-answer_to-clause-told : goal.returns-in-Ok-answer_to-clause-told
returns-in-Ok-answer_to-clause-told g c =
    let read = c.deref.result.now in
    let known = g.R.Source.remaining c.args.source.now in
    tells (g.A.AnswerProgram.answers c.args.options.now) known read _ _ c.in-Ok-answer_to.answer.verdict c.in-Ok-answer_to.answer.text c.write_answer.result
    (subst (λ r. IfSome known (λ bytes. r ≡ take 65536 bytes)) (sym c.deref.ensures.value) c.in-Ok.ensures.bytes)
    c.in-Ok-answer_to.ensures c.write_answer.ensures.written
