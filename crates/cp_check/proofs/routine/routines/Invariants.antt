use Rattle.cp_check.proofs.Words.{◌≡◌, drop, map, scopes_of}
use Rattle.cp_tree.specs.View.{routine_view}
use Rattle.cp_check.specs.Routines as spec
use Rattle.cp_check.proofs.routine.routines.Given as goal

-- what is left leads where all lead
abbrev pub invariant-loop-node : goal.invariant-loop-node
invariant-loop-node l = spec.routine_steps l.owner (scopes_of l.fn.table) (map routine_view l.nodes) ≡ spec.routine_steps l.owner (scopes_of l.table) (map routine_view (drop l.node-index l.nodes))
