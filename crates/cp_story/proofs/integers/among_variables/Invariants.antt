use Rattle.std.proofs.Common.{◌≡◌, drop, map}
use Rattle.cp_legend.specs.Names.{variable_seen}
use Rattle.cp_story.specs.Integers.{among_variables}
use Rattle.cp_story.proofs.integers.among_variables.Given as goal

-- what is left leads where all lead
abbrev pub invariant-loop-variable : goal.invariant-loop-variable
invariant-loop-variable l = among_variables l.known (map variable_seen l.variables) ≡ among_variables l.known (map variable_seen (drop l.variable-index l.variables))
