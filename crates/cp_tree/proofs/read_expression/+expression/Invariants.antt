use Rattle.std.proofs.Common.{◌≡◌, ◌+◌, ◌-◌, ◌*◌, []}
use Rattle.cp_text.specs.declared.token.Mark.TheVariants as mark
use Rattle.cp_tree.specs.Reading.{many_from, many_after, behind}
use Rattle.cp_tree.specs.ReadingExpressions.{expression, factor_at, next_term, next_factor, selector_with}
use Rattle.cp_tree.specs.View.{expressions_view, factors_view, terms_view, selectors_view}
use Rattle.cp_tree.proofs.read_expression.+expression.Given as goal

abbrev pub decreases-expression : goal.decreases-expression
decreases-expression l = 16 * l.budget

abbrev pub decreases-deeper_factor : goal.decreases-deeper_factor
decreases-deeper_factor l = 16 * l.budget

abbrev pub decreases-factor_after_not : goal.decreases-factor_after_not
decreases-factor_after_not l = 16 * l.budget + 1

abbrev pub decreases-expression_inside : goal.decreases-expression_inside
decreases-expression_inside l = 16 * l.budget + 1

abbrev pub decreases-expressions : goal.decreases-expressions
decreases-expressions l = 16 * l.budget + 1

abbrev pub decreases-selector : goal.decreases-selector
decreases-selector l = 16 * l.budget + 1

abbrev pub decreases-arguments : goal.decreases-arguments
decreases-arguments l = 16 * l.budget + 2

abbrev pub decreases-elements : goal.decreases-elements
decreases-elements l = 16 * l.budget + 2

abbrev pub decreases-selectors : goal.decreases-selectors
decreases-selectors l = 16 * l.budget + 2

abbrev pub decreases-designator : goal.decreases-designator
decreases-designator l = 16 * l.budget + 3

abbrev pub decreases-factor : goal.decreases-factor
decreases-factor l = 16 * l.budget + 4

abbrev pub decreases-multiplied_factors : goal.decreases-multiplied_factors
decreases-multiplied_factors l = 16 * l.budget + 5

abbrev pub decreases-term : goal.decreases-term
decreases-term l = 16 * l.budget + 6

abbrev pub decreases-added_terms : goal.decreases-added_terms
decreases-added_terms l = 16 * l.budget + 7

abbrev pub decreases-sum : goal.decreases-sum
decreases-sum l = 16 * l.budget + 8

abbrev pub decreases-expression_within : goal.decreases-expression_within
decreases-expression_within l = 16 * l.budget + 9

abbrev pub invariant-added_terms-loop-turn : goal.invariant-added_terms-loop-turn
invariant-added_terms-loop-turn l = many_after [] (next_term (factor_at l.budget)) l.initial.cursor
    ≡ many_from (next_term (factor_at l.budget)) (l._turn-end - l._turn) (terms_view l.found.items) l.cursor

abbrev pub invariant-multiplied_factors-loop-turn : goal.invariant-multiplied_factors-loop-turn
invariant-multiplied_factors-loop-turn l = many_after [] (next_factor (factor_at l.budget)) l.initial.cursor
    ≡ many_from (next_factor (factor_at l.budget)) (l._turn-end - l._turn) (factors_view l.found.items) l.cursor

abbrev pub invariant-expressions-loop-turn : goal.invariant-expressions-loop-turn
invariant-expressions-loop-turn l = many_after (expressions_view l.initial.found.items) (behind mark.Comma (expression l.budget)) l.initial.cursor
    ≡ many_from (behind mark.Comma (expression l.budget)) (l._turn-end - l._turn) (expressions_view l.found.items) l.cursor

abbrev pub invariant-selectors-loop-turn : goal.invariant-selectors-loop-turn
invariant-selectors-loop-turn l = many_after [] (selector_with (expression l.budget)) l.initial.cursor
    ≡ many_from (selector_with (expression l.budget)) (l._turn-end - l._turn) (selectors_view l.found.items) l.cursor
