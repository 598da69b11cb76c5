use Rattle.std.proofs.Common.{◌≡◌, map}
use Rattle.cp_legend.specs.Names.{variables_seen, at_each, permanents_of, source_seen}
use Rattle.cp_legend.proofs.sorting.all_permanents.Given as goal

-- those that are gathered
abbrev pub invariant-loop-number : goal.invariant-loop-number
invariant-loop-number l = map variables_seen l.all.items ≡ at_each (permanents_of (source_seen l.symbols)) l.number
