use Rattle.std.proofs.Common.{ℕ, List, ◌++◌, length, string_bytes}
use Rattle.cp_outcomes.specs.Lines.{IsLineShown}
use Rattle.cp_outcomes.proofs.lines.line_of.Given as goal

abbrev pub invariant-loop-rest : goal.invariant-loop-rest
invariant-loop-rest l = (text : List ℕ) → IsLineShown l.rest text → IsLineShown l.line (string_bytes l.text ++ text)

abbrev pub decreases-loop-rest : goal.decreases-loop-rest
decreases-loop-rest l = length l.rest
