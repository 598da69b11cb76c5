use Rattle.std.proofs.Common.{◌≡◌, [], map, drop}
use Rattle.cp_tree.specs.View.{parameter_group_view}
use Rattle.cp_layout.specs.Layers.{layer_seen}
use Rattle.cp_layout.specs.LaidDeclarations.{parameter_groups}
use Rattle.cp_layout.proofs.layer.Layouter.parameter_groups.Given as goal

-- what is left leads where all lead
abbrev pub invariant-loop-group : goal.invariant-loop-group
invariant-loop-group l = parameter_groups (layer_seen l.fn.self) [] (map parameter_group_view l.groups) ≡ parameter_groups (layer_seen l.self) l.parameters.items (map parameter_group_view (drop l.group-index l.groups))
