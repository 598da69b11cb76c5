use Rattle.cp_check.proofs.Words.{◌≡◌, drop, map, scopes_of, group_view}
use Rattle.cp_check.specs.Headings as spec
use Rattle.cp_check.proofs.heading.groups.Given as goal

-- what is left leads where all lead
abbrev pub invariant-loop-node : goal.invariant-loop-node
invariant-loop-node l = spec.group_steps (scopes_of l.fn.table) (map group_view l.nodes) ≡ spec.group_steps (scopes_of l.table) (map group_view (drop l.node-index l.nodes))
