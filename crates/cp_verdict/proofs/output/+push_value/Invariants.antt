use Rattle.std.proofs.Common.{length}
use Rattle.cp_verdict.proofs.output.+push_value.Given as goal

abbrev pub decreases-push_value : goal.decreases-push_value
decreases-push_value l = length l.counts.now
