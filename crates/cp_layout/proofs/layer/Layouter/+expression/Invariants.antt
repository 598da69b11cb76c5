use Rattle.cp_layout.proofs.Words.{◌≡◌, drop, map, value_seen, designated_seen, layer_seen}
use Rattle.cp_tree.specs.View.{expressions_view, expressions_of, terms_view, terms_of, factors_view, factors_of, selectors_view, selectors_of}
use Rattle.cp_slots.specs.Code as code
use Rattle.cp_slots.specs.Code.{set_seen, argument_seen}
use Rattle.cp_layout.specs.LaidExpressions as spec
use Rattle.cp_layout.proofs.Laid.{with_front}
use Rattle.cp_layout.proofs.layer.Layouter.+expression.Given as goal

-- what is left leads where all lead
abbrev pub invariant-selectors-loop-node : goal.invariant-selectors-loop-node
invariant-selectors-loop-node l = spec.selectors (layer_seen l.fn.self) (designated_seen l.fn.start) (selectors_of (selectors_view l.nodes)) ≡ spec.selectors (layer_seen l.self) (designated_seen l.whole) (selectors_of (selectors_view (drop l.node-index l.nodes)))

abbrev pub invariant-elements-loop-node : goal.invariant-elements-loop-node
invariant-elements-loop-node l = spec.elements (layer_seen l.fn.self) code.empty_set (expressions_of (expressions_view l.nodes)) ≡ spec.elements (layer_seen l.self) (set_seen l.whole) (expressions_of (expressions_view (drop l.node-index l.nodes)))

abbrev pub invariant-more_factors-loop-operation : goal.invariant-more_factors-loop-operation
invariant-more_factors-loop-operation l = spec.more_factors (layer_seen l.fn.self) (value_seen l.fn.first) (factors_of (factors_view l.nodes)) ≡ spec.more_factors (layer_seen l.self) (value_seen l.total) (factors_of (factors_view (drop l.operation-index l.nodes)))

abbrev pub invariant-more_terms-loop-operation : goal.invariant-more_terms-loop-operation
invariant-more_terms-loop-operation l = spec.more_terms (layer_seen l.fn.self) (value_seen l.fn.first) (terms_of (terms_view l.nodes)) ≡ spec.more_terms (layer_seen l.self) (value_seen l.total) (terms_of (terms_view (drop l.operation-index l.nodes)))

abbrev pub invariant-all_arguments-loop-place : goal.invariant-all_arguments-loop-place
invariant-all_arguments-loop-place l = spec.arguments_from (layer_seen l.fn.self) l.routine 0 (expressions_of (expressions_view l.nodes)) ≡ with_front (map argument_seen l.arguments.items) (spec.arguments_from (layer_seen l.self) l.routine l.place (expressions_of (expressions_view (drop l.place l.nodes))))
