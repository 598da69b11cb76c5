use Rattle.cp_check.proofs.Words.{◌≡◌, drop, map, scopes_of}
use Rattle.cp_tree.specs.View.{constant_definition_view}
use Rattle.cp_check.specs.Declarations as spec
use Rattle.cp_check.proofs.declaration.constant_definitions.Given as goal

-- what is left leads where all lead
abbrev pub invariant-loop-node : goal.invariant-loop-node
invariant-loop-node l = spec.constant_steps (scopes_of l.fn.table) (map constant_definition_view l.nodes) ≡ spec.constant_steps (scopes_of l.table) (map constant_definition_view (drop l.node-index l.nodes))
