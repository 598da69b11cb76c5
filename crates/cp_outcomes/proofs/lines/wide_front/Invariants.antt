use Rattle.std.proofs.Common.{ℕ, ◌<◌, ◌≤◌, length, take}
use Rattle.std.specs.Str.{IsUtf8}
use Rattle.cp_outcomes.proofs.lines.wide_front.Given as goal

abbrev pub invariant-loop-length : goal.invariant-loop-length
invariant-loop-length l = (k : ℕ) → 2 ≤ k → k < l.length → k ≤ length l.bytes → IsUtf8 (take k l.bytes) → ⊥
