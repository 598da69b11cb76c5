use Rattle.std.proofs.Common.{◌∙◌, ◌+◌, ap, drop, map, subst, sym}
use Rattle.cp_tree.specs.declared.expression.Sum as tree_sum
use Rattle.cp_tree.specs.View.{expressions_view, expressions_of, terms_view, terms_of, factors_view, factors_of}
use Rattle.cp_slots.specs.Code as code
use Rattle.cp_slots.specs.Code.{argument_seen, expression_seen, set_seen}
use Rattle.cp_layout.specs.Values.{value_seen, designated_seen}
use Rattle.cp_layout.specs.Layers.{layer_seen, Lays}
use Rattle.cp_layout.specs.LaidExpressions as spec
use Rattle.cp_layout.proofs.Around.{field_laid, element_laid}
use Rattle.cp_layout.proofs.Laid.{arguments_none, arguments_step, elements_none, elements_step, factors_none, factors_step, selectors_none, selectors_step, sum_laid, term_laid, terms_none, terms_step, with_front}
use Rattle.cp_layout.proofs.layer.Layouter.+expression.Goals as goal

pub part_of-returns-in-Field : goal.part_of-returns-in-Field
part_of-returns-in-Field t c = field_laid c.args.node.now (designated_seen c.args.whole) c.args.self.now c.in-Field.name c.in-Field.is (designated_seen c.field.result) c.field.ensures

pub part_of-returns-in_ok-expression-in-Index : goal.part_of-returns-in_ok-expression-in-Index
part_of-returns-in_ok-expression-in-Index t c =
    element_laid c.args.node.now (designated_seen c.args.whole) (layer_seen c.args.self.now) c.expression.new.self c.in-Index.index (value_seen c.in_ok-expression-in-Index.field-0) (expression_seen c.ordinal-index.result) c.element.result c.in-Index.is
    c.in_ok-expression-in-Index.ensures c.ordinal-index.ensures c.element.ensures

-- ---- what is left leads where all lead, after one more ..

pub selectors-loop-node-preserved : goal.selectors-loop-node-preserved
selectors-loop-node-preserved t c =
    c.loop-node.invariant
    ∙ selectors_step (layer_seen c.loop-node.self) (designated_seen c.loop-node.whole) c.args.nodes.now c.loop-node.node-index c.node-item.result c.loop-node-test.true c.node-item.is (designated_seen c.in_ok-whole.whole) (layer_seen c.part_of.new.self)
    c.in_ok-whole.ensures

pub elements-loop-node-preserved : goal.elements-loop-node-preserved
elements-loop-node-preserved t c =
    c.loop-node.invariant
    ∙ elements_step (layer_seen c.loop-node.self) (set_seen c.loop-node.whole) c.args.nodes.now c.loop-node.node-index c.node-item.result c.loop-node-test.true c.node-item.is (value_seen c.in_ok-expression.field-0) (layer_seen c.expression.new.self)
    c.in_ok-expression.ensures
    ∙ ap (λ s. spec.elements (layer_seen c.expression.new.self) s (expressions_of (expressions_view (drop (c.loop-node.node-index + 1) c.args.nodes.now))))
    (ap (code.with_element (set_seen c.loop-node.whole)) (sym c.ordinal-element.ensures) ∙ sym c.in_ok-whole.ensures)

pub all_arguments-loop-place-preserved : goal.all_arguments-loop-place-preserved
all_arguments-loop-place-preserved t c =
    c.loop-place.invariant
    ∙ arguments_step (layer_seen c.loop-place.self) c.args.routine (map argument_seen c.loop-place.arguments.items) c.args.nodes.now c.loop-place.place c.index-nodes-place.result c.loop-place-test.true c.index-nodes-place.is (value_seen c.in_ok-value.value)
    (layer_seen c.expression.new.self) c.in_ok-value.ensures
    ∙ ap (λ front. with_front front (spec.arguments_from (layer_seen c.expression.new.self) c.args.routine (c.loop-place.place + 1) (expressions_of (expressions_view (drop (c.loop-place.place + 1) c.args.nodes.now)))))
    (sym c.in_ok-add_argument.ensures)

pub more_factors-loop-operation-preserved : goal.more_factors-loop-operation-preserved
more_factors-loop-operation-preserved t c =
    c.loop-operation.invariant
    ∙ factors_step (layer_seen c.loop-operation.self) (value_seen c.loop-operation.total) c.args.nodes.now c.loop-operation.operation-index c.loop-operation-item.result c.loop-operation-test.true c.loop-operation-item.is (value_seen c.in_ok-next.next)
    (layer_seen c.factor.new.self) c.in_ok-next.ensures
    ∙ ap (λ v. spec.more_factors (layer_seen c.factor.new.self) v (factors_of (factors_view (drop (c.loop-operation.operation-index + 1) c.args.nodes.now)))) (sym c.in_ok-total.ensures)

pub more_terms-loop-operation-preserved : goal.more_terms-loop-operation-preserved
more_terms-loop-operation-preserved t c =
    c.loop-operation.invariant
    ∙ terms_step (layer_seen c.loop-operation.self) (value_seen c.loop-operation.total) c.args.nodes.now c.loop-operation.operation-index c.loop-operation-item.result c.loop-operation-test.true c.loop-operation-item.is (value_seen c.in_ok-next.next)
    (layer_seen c.term.new.self) c.in_ok-next.ensures
    ∙ ap (λ v. spec.more_terms (layer_seen c.term.new.self) v (terms_of (terms_view (drop (c.loop-operation.operation-index + 1) c.args.nodes.now)))) (sym c.in_ok-total.ensures)

-- ---- .. and where none is left

pub selectors-returns : goal.selectors-returns
selectors-returns t c = c.loop-node.invariant ∙ selectors_none (layer_seen c.loop-node.self) (designated_seen c.loop-node.whole) c.args.nodes.now c.loop-node.node-index c.loop-node-test.false

pub elements-returns : goal.elements-returns
elements-returns t c = c.loop-node.invariant ∙ elements_none (layer_seen c.loop-node.self) (set_seen c.loop-node.whole) c.args.nodes.now c.loop-node.node-index c.loop-node-test.false

pub all_arguments-returns : goal.all_arguments-returns
all_arguments-returns t c =
    c.loop-place.invariant ∙ arguments_none (layer_seen c.loop-place.self) c.args.routine (map argument_seen c.loop-place.arguments.items) c.args.nodes.now c.loop-place.place c.loop-place-test.false

pub more_factors-returns : goal.more_factors-returns
more_factors-returns t c = c.loop-operation.invariant ∙ factors_none (layer_seen c.loop-operation.self) (value_seen c.loop-operation.total) c.args.nodes.now c.loop-operation.operation-index c.loop-operation-test.false

pub more_terms-returns : goal.more_terms-returns
more_terms-returns t c = c.loop-operation.invariant ∙ terms_none (layer_seen c.loop-operation.self) (value_seen c.loop-operation.total) c.args.nodes.now c.loop-operation.operation-index c.loop-operation-test.false

-- ---- a term and a sum, by what their first part leads to

pub term-returns : goal.term-returns
term-returns t c =
    subst (λ r. Lays value_seen r (layer_seen c.more_factors.new.self) c.more_factors.result)
    (sym (term_laid (layer_seen c.args.self.now) c.args.node.now (value_seen c.in_ok-first.first) (layer_seen c.factor.new.self) c.in_ok-first.ensures
    ∙ ap (λ xs. spec.more_factors (layer_seen c.factor.new.self) (value_seen c.in_ok-first.first) (factors_of (factors_view xs))) (sym c.deref.ensures.value)))
    c.more_factors.ensures

pub sum-returns : goal.sum-returns
sum-returns t c =
    subst (λ r. Lays value_seen r (layer_seen c.more_terms.new.self) c.more_terms.result)
    (sym (sum_laid (layer_seen c.args.self.now) c.args.node.now (value_seen c.in_ok-first.first) (layer_seen c.term.new.self) c.in_ok-first.ensures
    ∙ ap (λ v. spec.more_terms (layer_seen c.term.new.self) v (terms_of (terms_view (tree_sum.out-Sum c.args.node.now).more.items))) (sym c.in_ok-first-2.ensures)
    ∙ ap (λ xs. spec.more_terms (layer_seen c.term.new.self) (value_seen c.in_ok-first-2.first) (terms_of (terms_view xs))) (sym c.deref.ensures.value)))
    c.more_terms.ensures
