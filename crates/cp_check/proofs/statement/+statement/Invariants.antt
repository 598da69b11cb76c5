use Rattle.cp_check.proofs.Words.{◌≡◌, [], drop, Ok, no_use, scopes_of, statements_view, statements_of, arms_view, arms_of}
use Rattle.cp_check.specs.Statements as spec
use Rattle.cp_check.proofs.statement.+statement.Given as goal

-- what is left leads where all lead
abbrev pub invariant-statements-loop-node : goal.invariant-statements-loop-node
invariant-statements-loop-node l = spec.statements (scopes_of l.table) l.context (Ok no_use) (statements_of (statements_view l.nodes)) ≡ spec.statements (scopes_of l.table) l.context (Ok l.total) (statements_of (statements_view (drop l.node-index l.nodes)))

abbrev pub invariant-arms-loop-node : goal.invariant-arms-loop-node
invariant-arms-loop-node l = spec.arms (scopes_of l.table) l.context (Ok ([], no_use)) (arms_of (arms_view l.nodes)) ≡ spec.arms (scopes_of l.table) l.context (Ok (l.all.items, l.total)) (arms_of (arms_view (drop l.node-index l.nodes)))
