use Rattle.cp_check.proofs.Words.{◌≡◌, drop, map, scopes_of}
use Rattle.cp_tree.specs.View.{parameter_group_view}
use Rattle.cp_check.specs.Headings as spec
use Rattle.cp_check.proofs.heading.parameters.Given as goal

-- what is left leads where all lead
abbrev pub invariant-loop-node : goal.invariant-loop-node
invariant-loop-node l = spec.parameter_steps (scopes_of l.fn.table) (map parameter_group_view l.nodes) ≡ spec.parameter_steps (scopes_of l.table) (map parameter_group_view (drop l.node-index l.nodes))
