use Rattle.cp_check.proofs.Words.{◌≡◌, drop, map, Ok, no_use, scopes_of, start_view}
use Rattle.cp_check.specs.Statements as spec
use Rattle.cp_check.proofs.statement.starts.Given as goal

-- what is left leads where all lead
abbrev pub invariant-loop-node : goal.invariant-loop-node
invariant-loop-node l = spec.starts (scopes_of l.table) l.context (Ok no_use) (map start_view l.nodes) ≡ spec.starts (scopes_of l.table) l.context (Ok l.total) (map start_view (drop l.node-index l.nodes))
