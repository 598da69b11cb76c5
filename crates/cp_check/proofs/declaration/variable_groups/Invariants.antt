use Rattle.cp_check.proofs.Words.{◌≡◌, drop, map, scopes_of}
use Rattle.cp_tree.specs.View.{variable_group_view}
use Rattle.cp_check.specs.Declarations as spec
use Rattle.cp_check.proofs.declaration.variable_groups.Given as goal

-- what is left leads where all lead
abbrev pub invariant-loop-node : goal.invariant-loop-node
invariant-loop-node l = spec.variable_steps l.spot (scopes_of l.fn.table) (map variable_group_view l.nodes) ≡ spec.variable_steps l.spot (scopes_of l.table) (map variable_group_view (drop l.node-index l.nodes))
