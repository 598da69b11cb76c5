use Rattle.std.proofs.Common.{refl}
use Rattle.cp_waiting_ends.proofs.Waits.{known_end}
use Rattle.cp_waiting_ends.proofs.ends.WaitingEnds.has.Goals as goal

pub returns : goal.returns
returns c = λ h. known_end c.args.self.now.known.entries c.args.end.now _ c.contains_key.result refl c.contains_key.ensures h
