use Rattle.std.proofs.Common.{◌≡◌, take}
use Rattle.cp_parts.proofs.decoding.line_of.Given as goal

abbrev pub invariant-loop-at : goal.invariant-loop-at
invariant-loop-at l = l.line.items ≡ take l.at l.list
