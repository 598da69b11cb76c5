use Rattle.std.proofs.Common.{arith}
use Rattle.std.proofs.lemmas.Int.{ints, to_z-of_z}
use Rattle.cp_symbols.proofs.kinds.CellRange.count.Goals as goal

pub returns-then-distance-ge0 : goal.returns-then-distance-ge0
returns-then-distance-ge0 c = grind (arith, ints, to_z-of_z)
