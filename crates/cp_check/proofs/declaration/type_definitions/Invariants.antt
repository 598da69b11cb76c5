use Rattle.cp_check.proofs.Words.{◌≡◌, drop, map, scopes_of}
use Rattle.cp_tree.specs.View.{type_definition_view}
use Rattle.cp_check.specs.Declarations as spec
use Rattle.cp_check.proofs.declaration.type_definitions.Given as goal

-- what is left leads where all lead
abbrev pub invariant-loop-node : goal.invariant-loop-node
invariant-loop-node l = spec.type_steps (scopes_of l.fn.table) (map type_definition_view l.nodes) ≡ spec.type_steps (scopes_of l.table) (map type_definition_view (drop l.node-index l.nodes))
