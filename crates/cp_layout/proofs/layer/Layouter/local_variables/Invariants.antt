use Rattle.cp_layout.proofs.Words.{◌≡◌, map, drop, variable_group_view, layer_seen}
use Rattle.cp_layout.specs.LaidDeclarations.{local_variables}
use Rattle.cp_layout.proofs.layer.Layouter.local_variables.Given as goal

-- what is left leads where all lead
abbrev pub invariant-loop-group : goal.invariant-loop-group
invariant-loop-group l = local_variables (layer_seen l.fn.self) (map variable_group_view l.groups) ≡ local_variables (layer_seen l.self) (map variable_group_view (drop l.group-index l.groups))
