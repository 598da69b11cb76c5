use Rattle.std.proofs.Common.{◌≡◌, map, take}
use Rattle.std.specs.Prelude.{flat_map}
use Rattle.cp_symbols.specs.Symbols.{symbol_seen}
use Rattle.cp_legend.specs.Names.{part_seen, parts_named, source_seen}
use Rattle.cp_legend.proofs.parts.parts_of.Given as goal

-- those that are gathered
abbrev pub invariant-loop-symbol : goal.invariant-loop-symbol
invariant-loop-symbol l = map part_seen l.parts.items ≡ flat_map (parts_named (source_seen l.symbols) l.number) (map symbol_seen (take l.symbol-index l.symbols.declared.items))
