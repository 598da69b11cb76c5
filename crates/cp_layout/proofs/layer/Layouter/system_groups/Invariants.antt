use Rattle.cp_layout.proofs.Words.{◌≡◌, [], map, drop, group_view, layer_seen}
use Rattle.cp_layout.specs.LaidDeclarations.{system_groups}
use Rattle.cp_layout.proofs.layer.Layouter.system_groups.Given as goal

-- what is left leads where all lead
abbrev pub invariant-loop-group : goal.invariant-loop-group
invariant-loop-group l = system_groups (layer_seen l.fn.self) [] (map group_view l.groups) ≡ system_groups (layer_seen l.self) l.parameters.items (map group_view (drop l.group-index l.groups))
