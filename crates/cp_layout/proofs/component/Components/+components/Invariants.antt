use Rattle.std.proofs.Common.{◌≡◌, ◌+◌, ◌*◌, map, drop}
use Rattle.cp_layout.specs.Kinds.{types_seen}
use Rattle.cp_layout.specs.Layers.{system_seen}
use Rattle.cp_layout.specs.LaidComponents.{listing_seen, add_below, add_contained, again_and_again}
use Rattle.cp_layout.proofs.component.Components.+components.Given as goal

-- a type contains components of earlier types alone
abbrev pub decreases-add : goal.decreases-add
decreases-add l = 5 * l.number + 4

abbrev pub decreases-add_owned : goal.decreases-add_owned
decreases-add_owned l = 5 * l.number + 3

abbrev pub decreases-add_contained : goal.decreases-add_contained
decreases-add_contained l = 5 * l.bound + 2

abbrev pub decreases-add_each : goal.decreases-add_each
decreases-add_each l = 5 * l.bound + 1

abbrev pub decreases-add_below : goal.decreases-add_below
decreases-add_below l = 5 * l.bound

-- what is left leads where all lead
abbrev pub invariant-add_contained-loop-components : goal.invariant-add_contained-loop-components
invariant-add_contained-loop-components l =
    add_contained (add_below (types_seen l.types) (map system_seen l.systems) l.bound) l.contained (listing_seen l.initial.self)
    ≡ add_contained (add_below (types_seen l.types) (map system_seen l.systems) l.bound) (drop l.components-index l.contained) (listing_seen l.self)

abbrev pub invariant-add_each-loop : goal.invariant-add_each-loop
invariant-add_each-loop l = listing_seen l.self ≡ again_and_again l.counter (add_below (types_seen l.types) (map system_seen l.systems) l.bound l.components.system) (listing_seen l.initial.self)
