use Rattle.std.proofs.Common.{◌≡◌, drop}
use Rattle.cp_tree.specs.View.{field_groups_view, field_groups_of}
use Rattle.cp_layout.specs.Kinds.{fields_seen, no_fields}
use Rattle.cp_layout.specs.Layers.{layer_seen}
use Rattle.cp_layout.specs.LaidTypes as spec
use Rattle.cp_layout.proofs.layer.Layouter.+types.Given as goal

-- what is left leads where all lead
abbrev pub invariant-field_groups-loop-group : goal.invariant-field_groups-loop-group
invariant-field_groups-loop-group l = spec.field_groups (layer_seen l.fn.self) no_fields (field_groups_of (field_groups_view l.groups)) ≡ spec.field_groups (layer_seen l.self) (fields_seen l.fields) (field_groups_of (field_groups_view (drop l.group-index l.groups)))
