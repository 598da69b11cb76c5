use Rattle.cp_check.proofs.Words.{◌≡◌, drop, Ok, no_use, scopes_of}
use Rattle.cp_tree.specs.View.{expressions_view}
use Rattle.cp_check.specs.Statements as spec
use Rattle.cp_check.proofs.statement.assertions.Given as goal

-- what is left leads where all lead
abbrev pub invariant-loop-node : goal.invariant-loop-node
invariant-loop-node l = spec.assertions (scopes_of l.table) l.context (Ok no_use) (expressions_view l.nodes) ≡ spec.assertions (scopes_of l.table) l.context (Ok l.total) (expressions_view (drop l.node-index l.nodes))
