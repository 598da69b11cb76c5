use Rattle.std.proofs.Common.{◌≡◌, map}
use Rattle.cp_legend.specs.Names.{system_seen, at_each, system_of, source_seen}
use Rattle.cp_legend.proofs.sorting.all_systems.Given as goal

-- those that are gathered
abbrev pub invariant-loop-number : goal.invariant-loop-number
invariant-loop-number l = map system_seen l.all.items ≡ at_each (system_of (source_seen l.symbols)) l.number
