use Rattle.std.proofs.Common.{ℕ, List, ◌++◌, length, map, string_bytes}
use Rattle.cp_outcomes.specs.Lines.{AreLinesShown}
use Rattle.cp_outcomes.proofs.lines.lines_of.Given as goal

abbrev pub invariant-loop-end : goal.invariant-loop-end
invariant-loop-end l = (texts : List (List ℕ)) → AreLinesShown l.rest texts → AreLinesShown l.source (map string_bytes l.lines.items ++ texts)

abbrev pub decreases-loop-end : goal.decreases-loop-end
decreases-loop-end l = length l.rest
