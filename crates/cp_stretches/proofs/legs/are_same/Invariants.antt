use Rattle.std.proofs.Common.{◌≡◌, take}
use Rattle.cp_stretches.proofs.legs.are_same.Given as goal

abbrev pub invariant-loop-at : goal.invariant-loop-at
invariant-loop-at l = take l.at l.places ≡ take l.at l.others
