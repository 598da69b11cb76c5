use Rattle.std.proofs.Common.{◌≡◌, map, take}
use Rattle.cp_layout.specs.Layers.{heading_seen}
use Rattle.cp_symbols.specs.Symbols.{routine_seen}
use Rattle.cp_layout.specs.Symbols.{name_of_routine}
use Rattle.cp_layout.proofs.surroundings.Surroundings.routine_symbols.Given as goal

-- those that are gathered
abbrev pub invariant-loop-heading : goal.invariant-loop-heading
invariant-loop-heading l = map routine_seen l.symbols.items ≡ map name_of_routine (map heading_seen (take l.heading-index l.self.headings.items))
