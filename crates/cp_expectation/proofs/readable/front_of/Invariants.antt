use Rattle.std.proofs.Common.{◌<◌, ◌≤◌, ℕ, take, length}
use Rattle.std.specs.Str.{IsUtf8}
use Rattle.cp_expectation.proofs.readable.front_of.Given as goal

abbrev pub invariant-loop-len : goal.invariant-loop-len
invariant-loop-len l = (k : ℕ) → 1 ≤ k → k < l.len → k ≤ length l.bytes → ¬ (IsUtf8 (take k l.bytes))
