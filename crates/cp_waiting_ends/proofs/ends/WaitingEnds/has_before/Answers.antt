use Rattle.std.proofs.Common.{sym}
use Rattle.cp_waiting_ends.proofs.Waits.{found_end}
use Rattle.cp_waiting_ends.proofs.ends.WaitingEnds.has_before.Goals as goal

pub returns-in-Some : goal.returns-in-Some
returns-in-Some c = λ h. found_end c.args.self.now.known.entries c.args.end.now c.in-Some.known.now (sym c.in-Some.ensures.value)
