use Rattle.cp_waiting_ends.proofs.Waits.{waits_as}
use Rattle.cp_waiting_ends.proofs.end.WaitingEnd.of.Goals as goal

pub returns : goal.returns
returns c = waits_as _ _ _ _ c.in_ok-who.ensures c.in_ok-outcome.ensures
