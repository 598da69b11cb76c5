use Rattle.std.proofs.Common.{◌≡◌, map, length}
use Rattle.cp_layout.specs.Layers.{layer_seen, pending_seen, add_items}
use Rattle.cp_layout.proofs.layer.Layouter.add_items.Given as goal

-- what is left leads where all lead
abbrev pub invariant-loop-item : goal.invariant-loop-item
invariant-loop-item l = add_items (layer_seen l.fn.self) (map pending_seen l.fn.pending.items) l.fn.next ≡ add_items (layer_seen l.self) (map pending_seen l.left.items) l.first

abbrev pub decreases-loop-item : goal.decreases-loop-item
decreases-loop-item l = length l.left.items
