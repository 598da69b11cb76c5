use Rattle.std.proofs.Common.{◌≡◌}
use Rattle.cp_tool.proofs.dealing.spread.Given as goal

abbrev pub invariant-loop-depth : goal.invariant-loop-depth
invariant-loop-depth g l = l.cutting.job ≡ l.initial.cutting.job
