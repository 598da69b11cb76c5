use Rattle.std.proofs.Common.{◌≡◌, map, take}
use Rattle.cp_machine.specs.Machine.{thread_of}
use Rattle.cp_parts.specs.Coded.{waiting_code}
use Rattle.cp_parts.specs.Placed.{places_of}
use Rattle.cp_parts.proofs.coding.waiting_numbers.Given as goal

abbrev pub invariant-loop-at : goal.invariant-loop-at
invariant-loop-at l = l.numbers.items ≡ waiting_code (places_of l.table) l.place (map thread_of (take l.at l.processes))
