use Rattle.std.proofs.Common.{◌≡◌, drop, map}
use Rattle.cp_legend.specs.Names.{variable_seen}
use Rattle.cp_story.specs.Annotations.{variable_with}
use Rattle.cp_story.proofs.told_variables.variable_with.Given as goal

-- what is left leads where all lead
abbrev pub invariant-loop-variable : goal.invariant-loop-variable
invariant-loop-variable l = variable_with l.slot (map variable_seen l.variables) ≡ variable_with l.slot (map variable_seen (drop l.variable-index l.variables))
