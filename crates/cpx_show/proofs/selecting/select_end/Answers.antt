use Rattle.std.proofs.lemmas.Result.{IfOk-weaker}
use Rattle.cpx_show.proofs.selecting.select_end.Goals as goal

pub returns : goal.returns
returns g c = IfOk-weaker c.select_numbered.result _ _ (λ s h. (c.ends_subject.result, c.ends_subject.ensures, c.in_ok-numbered.numbered, c.in_ok-numbered.ensures, h)) c.select_numbered.ensures
