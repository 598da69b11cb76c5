use Rattle.std.proofs.Common.{length}
use Rattle.cp_walk.proofs.numbers.+is_same_output.Given as goal

abbrev pub decreases-is_same_output : goal.decreases-is_same_output
decreases-is_same_output l = length l.mine.now
