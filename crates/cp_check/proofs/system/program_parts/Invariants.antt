use Rattle.cp_check.proofs.Words.{◌≡◌, drop, map, scopes_of}
use Rattle.cp_tree.specs.View.{program_part_view}
use Rattle.cp_check.specs.Systems as spec
use Rattle.cp_check.proofs.system.program_parts.Given as goal

-- what is left leads where all lead
abbrev pub invariant-loop-node : goal.invariant-loop-node
invariant-loop-node l = spec.program_part_steps (scopes_of l.fn.table) (map program_part_view l.nodes) ≡ spec.program_part_steps (scopes_of l.table) (map program_part_view (drop l.node-index l.nodes))
