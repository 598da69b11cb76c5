use Rattle.std.proofs.Common.{◌≡◌, map, drop}
use Rattle.cp_tree.specs.View.{routine_view}
use Rattle.cp_layout.specs.Layers.{layer_seen}
use Rattle.cp_layout.specs.LaidDeclarations.{routines}
use Rattle.cp_layout.proofs.layer.Layouter.routines.Given as goal

-- what is left leads where all lead
abbrev pub invariant-loop-node : goal.invariant-loop-node
invariant-loop-node l = routines (layer_seen l.fn.self) (map routine_view l.nodes) ≡ routines (layer_seen l.self) (map routine_view (drop l.node-index l.nodes))
