use Rattle.std.proofs.Common.{◌≡◌, map, take}
use Rattle.cp_layout.specs.Layers.{system_seen}
use Rattle.cp_layout.specs.Symbols.{symbol_of_system}
use Rattle.cp_layout.proofs.surroundings.Surroundings.system_symbols.Given as goal

-- those that are gathered
abbrev pub invariant-loop-system : goal.invariant-loop-system
invariant-loop-system l = l.symbols.items ≡ map symbol_of_system (map system_seen (take l.system-index l.self.systems.items))
