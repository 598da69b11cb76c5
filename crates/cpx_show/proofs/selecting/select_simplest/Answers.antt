use Rattle.std.proofs.lemmas.Result.{IfOk-weaker}
use Rattle.cpx_show.proofs.selecting.select_simplest.Goals as goal

pub returns : goal.returns
returns g c = IfOk-weaker c.select_of_outcome.result _ _ (λ s h. (c.job.result, c.job.ensures, c.in_ok-first.first, c.in_ok-first.ensures, h)) c.select_of_outcome.ensures
