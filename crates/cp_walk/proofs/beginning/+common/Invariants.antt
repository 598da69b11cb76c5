use Rattle.std.proofs.Common.{length}
use Rattle.cp_walk.proofs.beginning.+common.Given as goal

abbrev pub decreases-common : goal.decreases-common
decreases-common l = length l.word.now
