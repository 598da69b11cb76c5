use Rattle.std.proofs.Common.{◌≡◌, map, take}
use Rattle.std.specs.Prelude.{flat_map}
use Rattle.cp_symbols.specs.Symbols.{symbol_seen}
use Rattle.cp_legend.specs.Names.{parameter_named}
use Rattle.cp_legend.proofs.sorting.parameters_of.Given as goal

-- those that are gathered
abbrev pub invariant-loop-symbol : goal.invariant-loop-symbol
invariant-loop-symbol l = l.parameters.items ≡ flat_map (parameter_named l.number) (map symbol_seen (take l.symbol-index l.symbols.declared.items))
