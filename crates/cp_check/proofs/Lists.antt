-- Lists of syntax that are not empty.
use Rattle.cp_check.proofs.Words.{◌≡◌, ◌≤◌, false, List, [], ◌∷◌, length, refl, arith, Addition, Multiplication}
use Rattle.cp_tree.specs.declared.expression.Expression as tree_expression
use Rattle.cp_tree.specs.declared.expression.Term as tree_term
use Rattle.cp_tree.specs.declared.expression.Factor as tree_factor
use Rattle.cp_tree.specs.View.{expressions_of, expressions_view, factors_of, factors_view, terms_of, terms_view}
use Rattle.cp_check.specs.Expressions.{has_none, has_no_factors, has_no_terms}

pub some_expressions : (xs : List tree_expression.Expression) → 1 ≤ length xs → has_none (expressions_of (expressions_view xs)) ≡ false
some_expressions [] h = absurd (omega (arith, h))
some_expressions (x ∷ xs) h = refl

pub some_factors : (xs : List (Multiplication × tree_factor.Factor)) → 1 ≤ length xs → has_no_factors (factors_of (factors_view xs)) ≡ false
some_factors [] h = absurd (omega (arith, h))
some_factors (x ∷ xs) h = refl

pub some_terms : (xs : List (Addition × tree_term.Term)) → 1 ≤ length xs → has_no_terms (terms_of (terms_view xs)) ≡ false
some_terms [] h = absurd (omega (arith, h))
some_terms (x ∷ xs) h = refl
