use Rattle.std.proofs.Common.{◌<◌, ℕ}
use Rattle.cp_waits.specs.Lines.{IsUnservedOn}
use Rattle.cp_waits.proofs.waiting.never_keeps.Given as goal

abbrev pub invariant-loop-process : goal.invariant-loop-process
invariant-loop-process l = (p : ℕ) → p < l.process → IsUnservedOn l.graph l.keeping p → ⊥
