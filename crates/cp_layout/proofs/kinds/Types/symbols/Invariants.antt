use Rattle.std.proofs.Common.{◌≡◌, map, take}
use Rattle.cp_layout.specs.Kinds.{compound_seen}
use Rattle.cp_symbols.specs.Symbols.{type_symbol_seen}
use Rattle.cp_layout.proofs.kinds.Types.symbols.Given as goal

-- those that are gathered
abbrev pub invariant-loop-compound : goal.invariant-loop-compound
invariant-loop-compound l = map type_symbol_seen l.types.items ≡ map compound_seen (take l.compound-index l.self.compounds.items)
