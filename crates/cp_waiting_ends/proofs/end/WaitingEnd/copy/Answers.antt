use Rattle.std.proofs.Common.{◌∙◌, ◌++◌, ap}
use Rattle.cp_waiting_ends.proofs.Waits.{made, waits_as}
use Rattle.cp_waiting_ends.proofs.end.WaitingEnd.copy.Goals as goal

pub returns : goal.returns
returns c =
    waits_as _ _ _ _ (c.in_ok-extend_from_slice.ensures.items ∙ ap (λ l. l ++ c.deref.result.now) c.new-who.ensures.items ∙ c.deref.ensures.value) (ap (made c.args.self.now.key.outcome.kind) (c.in_ok-output.ensures ∙ c.as_slice.ensures))
