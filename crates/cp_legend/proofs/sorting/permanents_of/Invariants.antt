use Rattle.std.proofs.Common.{◌≡◌, map, take}
use Rattle.std.specs.Prelude.{flat_map}
use Rattle.cp_symbols.specs.Symbols.{symbol_seen}
use Rattle.cp_legend.specs.Names.{variable_seen, permanent_named, source_seen}
use Rattle.cp_legend.proofs.sorting.permanents_of.Given as goal

-- those that are gathered
abbrev pub invariant-loop-symbol : goal.invariant-loop-symbol
invariant-loop-symbol l = map variable_seen l.variables.items ≡ flat_map (permanent_named (source_seen l.symbols) l.number) (map symbol_seen (take l.symbol-index l.symbols.declared.items))
