use Rattle.cp_check.proofs.Words.{◌≡◌, drop, map, scopes_of}
use Rattle.cp_tree.specs.View.{system_definition_view}
use Rattle.cp_check.specs.Systems as spec
use Rattle.cp_check.proofs.system.definitions.Given as goal

-- what is left leads where all lead
abbrev pub invariant-loop-node : goal.invariant-loop-node
invariant-loop-node l = spec.definition_steps (scopes_of l.fn.table) (map system_definition_view l.nodes) ≡ spec.definition_steps (scopes_of l.table) (map system_definition_view (drop l.node-index l.nodes))
