use Rattle.std.proofs.Common.{◌≡◌, drop, map}
use Rattle.std.specs.Prelude.{option_map}
use Rattle.cp_legend.specs.Names.{component_seen}
use Rattle.cp_legend.specs.Places.{owner, owner_from}
use Rattle.cp_legend.proofs.legend.Legend.owner.Given as goal

-- what is left leads where all lead
abbrev pub invariant-loop-component : goal.invariant-loop-component
invariant-loop-component l = owner (map component_seen l.self.components.items) l.cell ≡ owner_from (option_map (λ c. component_seen c.now) l.found) (map component_seen (drop l.component-index l.self.components.items)) l.cell
