use Rattle.std.proofs.Common.{◌≡◌, take, IfSome, subst, sym}
use Rattle.cpx_show.proofs.Telling.{tells}
use Rattle.cpx_show.proofs.answering.serve.Goals as goal

pub returns-in-Ok-answer_source-clause-told : goal.returns-in-Ok-answer_source-clause-told
returns-in-Ok-answer_source-clause-told g c =
    let read = c.deref.result.now in
    let known = g.R.Source.remaining c.args.source.now in
    tells c.args.asked.now known read _ _ c.in-Ok-answer_source.answer.verdict _ c.write_answer.result
    (subst (λ r. IfSome known (λ bytes. r ≡ take 65536 bytes)) (sym c.deref.ensures.value) c.in-Ok.ensures.bytes)
    c.in-Ok-answer_source.ensures c.write_answer.ensures.written
