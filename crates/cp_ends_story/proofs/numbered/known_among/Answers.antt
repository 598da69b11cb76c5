use Rattle.std.proofs.Common.{List, Some, subst, sym}
use Rattle.std.proofs.lemmas.Result.{IfOk-weaker}
use Rattle.cp_waits.specs.declared.waiting.Waiting.{Waiting}
use Rattle.cp_waits.specs.declared.waiting.Waits.{Waits}
use Rattle.cp_ends_story.specs.Numbered.{IsWait, IsWaitAmong}
use Rattle.cp_ends_story.proofs.numbered.known_among.Goals as goal

pub returns-in-Known : goal.returns-in-Known
returns-in-Known c =
    IfOk-weaker c.wait_among.result _ _
    (λ s h. subst (λ (w : Waits). IsWaitAmong (Some w) c.args.number s) (sym c.in-Known.is) (subst (λ (ws : List Waiting). IsWait ws c.args.number s) c.deref.ensures.value h))
    c.wait_among.ensures
