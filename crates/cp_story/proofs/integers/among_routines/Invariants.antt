use Rattle.std.proofs.Common.{◌≡◌, drop, map}
use Rattle.std.specs.List.{list_any}
use Rattle.cp_legend.specs.Names.{routine_names_seen}
use Rattle.cp_story.specs.Integers.{in_routine}
use Rattle.cp_story.proofs.integers.among_routines.Given as goal

-- what is left leads where all lead
abbrev pub invariant-loop-routine : goal.invariant-loop-routine
invariant-loop-routine l = list_any (in_routine l.known) (map routine_names_seen l.routines) ≡ list_any (in_routine l.known) (map routine_names_seen (drop l.routine-index l.routines))
