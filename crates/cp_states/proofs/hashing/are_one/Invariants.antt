use Rattle.std.proofs.Common.{◌≡◌, take}
use Rattle.cp_states.proofs.hashing.are_one.Given as goal

abbrev pub invariant-loop-at : goal.invariant-loop-at
invariant-loop-at g l = take l.at l.list ≡ take l.at l.other
