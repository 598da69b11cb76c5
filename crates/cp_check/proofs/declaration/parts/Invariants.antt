use Rattle.cp_check.proofs.Words.{◌≡◌, drop, map, scopes_of}
use Rattle.cp_tree.specs.View.{part_view}
use Rattle.cp_check.specs.Declarations as spec
use Rattle.cp_check.proofs.declaration.parts.Given as goal

-- what is left leads where all lead
abbrev pub invariant-loop-node : goal.invariant-loop-node
invariant-loop-node l = spec.part_steps l.spot (scopes_of l.fn.table) (map part_view l.nodes) ≡ spec.part_steps l.spot (scopes_of l.table) (map part_view (drop l.node-index l.nodes))
