use Rattle.std.proofs.Common.{◌≡◌, drop, map}
use Rattle.cp_symbols.specs.Symbols.{symbol_seen}
use Rattle.cp_legend.specs.Names.{type_name}
use Rattle.cp_legend.proofs.sorting.type_name.Given as goal

-- what is left leads where all lead
abbrev pub invariant-loop-symbol : goal.invariant-loop-symbol
invariant-loop-symbol l = type_name (map symbol_seen l.declared) l.number ≡ type_name (map symbol_seen (drop l.symbol-index l.declared)) l.number
