use Rattle.cp_check.proofs.Words.{◌≡◌, drop, Ok, Some, scopes_of}
use Rattle.cp_tree.specs.View.{expressions_view, expressions_of, terms_view, terms_of, factors_view, factors_of, selectors_view, selectors_of}
use Rattle.cp_check.specs.Expressions as spec
use Rattle.cp_check.proofs.Fronts.{with_front}
use Rattle.cp_check.proofs.expression.+expression.Given as goal

-- what is left leads where all lead
abbrev pub invariant-selectors-loop-node : goal.invariant-selectors-loop-node
invariant-selectors-loop-node l = spec.selectors (scopes_of l.table) l.context (Ok l.fn.start) (selectors_of (selectors_view l.nodes)) ≡ spec.selectors (scopes_of l.table) l.context (Ok l.whole) (selectors_of (selectors_view (drop l.node-index l.nodes)))

abbrev pub invariant-more_factors-loop-operation : goal.invariant-more_factors-loop-operation
invariant-more_factors-loop-operation l = spec.more_factors (scopes_of l.table) l.context l.at (Ok (Some l.fn.first)) (factors_of (factors_view l.nodes)) ≡ spec.more_factors (scopes_of l.table) l.context l.at (Ok l.total) (factors_of (factors_view (drop l.operation-index l.nodes)))

abbrev pub invariant-more_terms-loop-operation : goal.invariant-more_terms-loop-operation
invariant-more_terms-loop-operation l = spec.more_terms (scopes_of l.table) l.context l.at (Ok l.fn.first) (terms_of (terms_view l.nodes)) ≡ spec.more_terms (scopes_of l.table) l.context l.at (Ok l.total) (terms_of (terms_view (drop l.operation-index l.nodes)))

abbrev pub invariant-arguments-loop-place : goal.invariant-arguments-loop-place
invariant-arguments-loop-place l = spec.arguments (scopes_of l.table) l.context l.parameters 0 (expressions_of (expressions_view l.nodes)) ≡ with_front l.operands.items (spec.arguments (scopes_of l.table) l.context l.parameters l.place (expressions_of (expressions_view (drop l.place l.nodes))))
