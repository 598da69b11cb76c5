use Rattle.std.proofs.Common.{◌≡◌, drop, map}
use Rattle.std.specs.List.{list_any}
use Rattle.cp_legend.specs.Names.{variables_seen}
use Rattle.cp_story.specs.Integers.{among_variables}
use Rattle.cp_story.proofs.integers.among_permanents.Given as goal

-- what is left leads where all lead
abbrev pub invariant-loop-variables : goal.invariant-loop-variables
invariant-loop-variables l = list_any (among_variables l.known) (map variables_seen l.systems) ≡ list_any (among_variables l.known) (map variables_seen (drop l.variables-index l.systems))
