use Rattle.std.proofs.Common.{◌≡◌, map, take}
use Rattle.cp_layout.specs.Layers.{noted_seen}
use Rattle.cp_symbols.specs.Symbols.{symbol_seen}
use Rattle.cp_layout.proofs.symbols.symbols_of.Given as goal

-- those that are gathered
abbrev pub invariant-loop-name : goal.invariant-loop-name
invariant-loop-name l = map symbol_seen l.symbols.items ≡ map noted_seen (take l.name-index l.noted)
