use Rattle.std.proofs.Common.{◌≡◌, map}
use Rattle.cp_slots.specs.Tables.{Tables}
use Rattle.cp_machine.specs.Machine.{Machine, monitor_of}
use Rattle.cp_parts.specs.Taken.{AreGuardsTaken, CanTake}
use Rattle.cp_parts.proofs.store.PartStore.take_guards.Given as goal

abbrev pub invariant-loop-at : goal.invariant-loop-at
invariant-loop-at l = (r : Tables) (m n : Machine) → CanTake r l.self l.table l.row l.known m n → map monitor_of l.initial.guards ≡ n.monitors → AreGuardsTaken m n l.guards l.at
