use Rattle.cp_check.proofs.Words.{◌≡◌, drop, scope_of, scopes_of}
use Rattle.cp_tree.specs.View.{field_groups_of, field_groups_view}
use Rattle.cp_check.specs.Types as spec
use Rattle.cp_check.proofs.types.+types.Given as goal

-- what is left leads where all lead
abbrev pub invariant-field_groups-loop-node : goal.invariant-field_groups-loop-node
invariant-field_groups-loop-node l = spec.groups_typed (scope_of l.fn.fields) (scopes_of l.fn.table) (field_groups_of (field_groups_view l.nodes)) ≡ spec.groups_typed (scope_of l.fields) (scopes_of l.table) (field_groups_of (field_groups_view (drop l.node-index l.nodes)))
