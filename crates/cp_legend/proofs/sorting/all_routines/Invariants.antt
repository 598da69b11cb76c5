use Rattle.std.proofs.Common.{◌≡◌, ◌++◌, drop, map}
use Rattle.cp_symbols.specs.Symbols.{routine_seen}
use Rattle.cp_legend.specs.Names.{routine_names_seen, routines_from, source_seen}
use Rattle.cp_legend.proofs.sorting.all_routines.Given as goal

-- what is left leads where all lead
abbrev pub invariant-loop-number : goal.invariant-loop-number
invariant-loop-number l = routines_from (source_seen l.symbols) 0 (map routine_seen l.symbols.routines.items) ≡ map routine_names_seen l.all.items ++ routines_from (source_seen l.symbols) l.number (map routine_seen (drop l.number l.routine-items))
