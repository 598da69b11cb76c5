-- What is read of an expression is spelled so.
use Rattle.std.proofs.Common.{◌≡◌, ℕ, zero, suc, ◌+◌, true, false, cond, List, [], ◌∷◌, Option, Some, None, refl, sym, ap, subst, ◌∙◌, arith}
use Rattle.cp_text.specs.declared.token.Kind.{Kind}
use Rattle.cp_text.specs.declared.token.Kind.TheVariants as kind
use Rattle.cp_text.specs.declared.token.Mark.{Mark}
use Rattle.cp_text.specs.declared.token.Mark.TheVariants as mark
use Rattle.cp_tree.specs.declared.expression.Relation.{Relation}
use Rattle.cp_tree.specs.declared.expression.Relation.TheVariants as relations
use Rattle.cp_tree.specs.declared.expression.Addition.{Addition}
use Rattle.cp_tree.specs.declared.expression.Addition.TheVariants as additions
use Rattle.cp_tree.specs.declared.expression.Multiplication.{Multiplication}
use Rattle.cp_tree.specs.declared.expression.Multiplication.TheVariants as multiplications
use Rattle.cp_tree.specs.Input.{Input, Outcome, Parser, ◌>>=◌, pure, sees, after, advance, first, first_mark, next, expect}
use Rattle.cp_tree.specs.Input as Input
use Rattle.cp_tree.specs.Syntax.{Expression, Sum, sum, Term, term, Factor, named, group, negated, set_of, Designator, designator, Selector, field, index}
use Rattle.cp_tree.specs.View.{expressions_of, selectors_of, factors_of, terms_of, expression_of}
use Rattle.cp_tree.specs.Reading.{many, sign, identifier}
use Rattle.cp_tree.specs.ReadingExpressions.{relation, relation_of, addition, addition_of, multiplication, multiplication_of, multiplied_factor, next_factor, term_with, added_term, next_term, sum_with, right_side, expression_with, expressions_with, arguments_with, elements_with, selector_by, selector_with, designator_with, factor_by, factor_with, expression, deeper}
use Rattle.cp_tree.specs.Spelling.{relation_mark, addition_mark, multiplication_mark, put_expression, put_sum, put_terms, put_term, put_factors, put_factor, put_arguments, put_expressions, put_more_expressions, put_designator, put_selectors, put_selector}
use Rattle.cp_tree.specs.SpellingIndexed.{Begins, IsIndexedExpression, IsIndexedSum, AreIndexedTerms, IsIndexedTerm, AreIndexedFactors, IsIndexedFactor, AreIndexedArguments, AreIndexedExpressions, AreIndexedMoreExpressions, IsIndexedDesignator, AreIndexedSelectors, IsIndexedSelector}
use Rattle.cp_tree.specs.SpellingLevel.{expression_depth, sum_depth, terms_depth, term_depth, factors_depth, factor_depth, expressions_depth, designator_depth, selectors_depth, selector_depth}
use Rattle.cp_tree.proofs.Shapes.{Shape, mark_shape, pair_of, behind_of}
use Rattle.cp_tree.proofs.Steps.{Found, found_then, found_after, found_map, At, begins, took_onto, Taken, Takes, takes_deep, Passed, sees_passes, expect_takes, found_one, found_two, found_three}
use Rattle.cp_tree.proofs.FoundLists.{made_of, made_after, IsBuilt, IsBuiltLed, IsItem, MayTake, IsTaken, taken_found, operator_of, operated_takes, many_takes, separated_takes}
use Rattle.cp_tree.proofs.FoundConstants.{identifier_shape, identifier_takes, sign_shape, sign_takes}

-- ---- operators

relation_spelled : (o : Option Mark) (r : Relation) → relation_of o ≡ Some r → o ≡ Some (relation_mark r)
relation_spelled (Some mark.Equal) relations.Equal e = refl
relation_spelled (Some mark.NotEqual) relations.NotEqual e = refl
relation_spelled (Some mark.Less) relations.Less e = refl
relation_spelled (Some mark.Greater) relations.Greater e = refl
relation_spelled (Some mark.AtMost) relations.AtMost e = refl
relation_spelled (Some mark.AtLeast) relations.AtLeast e = refl
relation_spelled (Some mark.In) relations.In e = refl
relation_spelled _ r e = absurd cc

addition_spelled : (o : Option Mark) (a : Addition) → addition_of o ≡ Some a → o ≡ Some (addition_mark a)
addition_spelled (Some mark.Plus) additions.Plus e = refl
addition_spelled (Some mark.Minus) additions.Minus e = refl
addition_spelled (Some mark.Or) additions.Or e = refl
addition_spelled _ a e = absurd cc

multiplication_spelled : (o : Option Mark) (m : Multiplication) → multiplication_of o ≡ Some m → o ≡ Some (multiplication_mark m)
multiplication_spelled (Some mark.Times) multiplications.Times e = refl
multiplication_spelled (Some mark.Div) multiplications.Div e = refl
multiplication_spelled (Some mark.Mod) multiplications.Mod e = refl
multiplication_spelled (Some mark.And) multiplications.And e = refl
multiplication_spelled _ m e = absurd cc

relation_found : (total : ℕ) (i : Input) → At total i → Found total (IsTaken total relation_mark i) (relation i)
unfolding relation
relation_found total i placed = taken_found total relation_mark relation_of relation_spelled i placed

addition_found : (total : ℕ) (i : Input) → At total i → Found total (IsTaken total addition_mark i) (addition i)
unfolding addition
addition_found total i placed = taken_found total addition_mark addition_of addition_spelled i placed

multiplication_found : (total : ℕ) (i : Input) → At total i → Found total (IsTaken total multiplication_mark i) (multiplication i)
unfolding multiplication
multiplication_found total i placed = taken_found total multiplication_mark multiplication_of multiplication_spelled i placed

-- ---- shapes

abbrev pub expression_shape : ℕ → Shape Expression
expression_shape total = record { put = put_expression; indexed = IsIndexedExpression total; depth = expression_depth }

abbrev pub sum_shape : ℕ → Shape Sum
sum_shape total = record { put = put_sum; indexed = IsIndexedSum total; depth = sum_depth }

abbrev pub terms_shape : ℕ → Shape (List (Addition × Term))
terms_shape total = record { put = λ xs. put_terms (terms_of xs); indexed = λ xs. AreIndexedTerms total (terms_of xs); depth = λ xs. terms_depth (terms_of xs) }

abbrev pub term_shape : ℕ → Shape Term
term_shape total = record { put = put_term; indexed = IsIndexedTerm total; depth = term_depth }

abbrev pub factors_shape : ℕ → Shape (List (Multiplication × Factor))
factors_shape total = record { put = λ xs. put_factors (factors_of xs); indexed = λ xs. AreIndexedFactors total (factors_of xs); depth = λ xs. factors_depth (factors_of xs) }

abbrev pub factor_shape : ℕ → Shape Factor
factor_shape total = record { put = put_factor; indexed = IsIndexedFactor total; depth = factor_depth }

-- a factor after `not`
abbrev pub deeper_shape : ℕ → Shape Factor
deeper_shape total = record { put = put_factor; indexed = IsIndexedFactor total; depth = λ f. suc (factor_depth f) }

abbrev pub more_expressions_shape : ℕ → Shape (List Expression)
more_expressions_shape total = record { put = λ xs. put_more_expressions (expressions_of xs); indexed = λ xs. AreIndexedMoreExpressions total (expressions_of xs); depth = λ xs. expressions_depth (expressions_of xs) }

abbrev pub IsSome : {A : Type 0} → List A → Type 0
IsSome [] = ⊥
IsSome (x ∷ xs) = Unit {0}

-- at least one
abbrev pub expressions_shape : ℕ → Shape (List Expression)
expressions_shape total = record { put = λ xs. put_expressions (expressions_of xs); indexed = λ xs ks. IsSome xs × AreIndexedExpressions total (expressions_of xs) ks; depth = λ xs. expressions_depth (expressions_of xs) }

abbrev pub arguments_shape : ℕ → Shape (List Expression)
arguments_shape total = record { put = λ xs. put_arguments (expressions_of xs); indexed = λ xs. AreIndexedArguments total (expressions_of xs); depth = λ xs. expressions_depth (expressions_of xs) }

-- the elements of a constructor, and its closing bracket
abbrev pub elements_shape : ℕ → Shape (List Expression)
elements_shape total = record { put = λ xs ks. put_expressions (expressions_of xs) (kind.Mark mark.CloseBracket ∷ ks); indexed = λ xs ks. AreIndexedExpressions total (expressions_of xs) (kind.Mark mark.CloseBracket ∷ ks); depth = λ xs. expressions_depth (expressions_of xs) }

abbrev pub designator_shape : ℕ → Shape Designator
designator_shape total = record { put = put_designator; indexed = IsIndexedDesignator total; depth = designator_depth }

abbrev pub selectors_shape : ℕ → Shape (List Selector)
selectors_shape total = record { put = λ xs. put_selectors (selectors_of xs); indexed = λ xs. AreIndexedSelectors total (selectors_of xs); depth = λ xs. selectors_depth (selectors_of xs) }

abbrev pub selector_shape : ℕ → Shape Selector
selector_shape total = record { put = put_selector; indexed = IsIndexedSelector total; depth = selector_depth }

factors_built : (total : ℕ) → IsBuilt (operator_of multiplication_mark (factor_shape total)) (factors_shape total)
factors_built total = record { listed = record { no_put = λ ks. refl; more_put = λ x xs ks. refl; no_depth = refl; more_depth = λ x xs. refl }; no_indexed = λ ks. tt; more_indexed = λ x xs ks p q. (p, q) }

terms_built : (total : ℕ) → IsBuilt (operator_of addition_mark (term_shape total)) (terms_shape total)
terms_built total = record { listed = record { no_put = λ ks. refl; more_put = λ x xs ks. refl; no_depth = refl; more_depth = λ x xs. refl }; no_indexed = λ ks. tt; more_indexed = λ x xs ks p q. (p, q) }

selectors_built : (total : ℕ) → IsBuilt (selector_shape total) (selectors_shape total)
selectors_built total = record { listed = record { no_put = λ ks. refl; more_put = λ x xs ks. refl; no_depth = refl; more_depth = λ x xs. refl }; no_indexed = λ ks. tt; more_indexed = λ x xs ks p q. (p, q) }

expressions_built : (total : ℕ) → IsBuilt (behind_of mark.Comma (expression_shape total)) (more_expressions_shape total)
expressions_built total = record { listed = record { no_put = λ ks. refl; more_put = λ x xs ks. refl; no_depth = refl; more_depth = λ x xs. refl }; no_indexed = λ ks. tt; more_indexed = λ x xs ks p q. (p, q) }

expressions_led : (total : ℕ) → IsBuiltLed (expression_shape total) (more_expressions_shape total) (expressions_shape total)
expressions_led total = record { led = record { led_put = λ x xs ks. refl; led_depth = λ x xs. refl }; led_indexed = λ x xs ks p q. (tt, (p, q)) }

-- ---- terms, sums and what stands on a side of a relation

module _ (total b : ℕ) (factor : Parser Factor) (law : Takes total b (factor_shape total) factor) where
  next_factor_takes : MayTake total b (operator_of multiplication_mark (factor_shape total)) (next_factor factor)
  unfolding next_factor
  next_factor_takes i placed = operated_takes total b multiplication_mark (factor_shape total) multiplication factor (multiplied_factor factor) (multiplication_found total) law (λ k. refl) (λ a k. refl) i placed

  pub term_takes : Takes total b (term_shape total) (term_with factor)
  unfolding term_with
  term_takes i placed =
      found_two total b (Taken total b (term_shape total) i) (factor_shape total) (factors_shape total) factor (many (next_factor factor)) (λ f fs. term i.at f (factors_of fs)) law
      (many_takes total b (operator_of multiplication_mark (factor_shape total)) (factors_shape total) (factors_built total) (next_factor factor) next_factor_takes) i placed (λ f fs j t.
      made_of total b _ _ _ i j _ _ placed t refl (λ p h. (p, h.0, h.1)) (λ d. d))

  next_term_takes : MayTake total b (operator_of addition_mark (term_shape total)) (next_term factor)
  unfolding next_term
  next_term_takes i placed = operated_takes total b addition_mark (term_shape total) addition (term_with factor) (added_term factor) (addition_found total) term_takes (λ k. refl) (λ a k. refl) i placed

  pub sum_takes : Takes total b (sum_shape total) (sum_with factor)
  unfolding sum_with
  sum_takes i placed =
      found_three total b (Taken total b (sum_shape total) i) sign_shape (term_shape total) (terms_shape total) sign (term_with factor) (many (next_term factor)) (λ o t ts. sum i.at o t (terms_of ts)) (sign_takes total b) term_takes
      (many_takes total b (operator_of addition_mark (term_shape total)) (terms_shape total) (terms_built total) (next_term factor) next_term_takes) i placed (λ o f fs j t.
      made_of total b _ _ _ i j _ _ placed t refl (λ p h. (p, h.1.0, h.1.1)) (λ d. omega arith))

  -- an expression, one level up
  right_takes : MayTake total b (operator_of relation_mark (sum_shape total)) (relation >>= right_side factor)
  right_takes i placed = operated_takes total b relation_mark (sum_shape total) relation (sum_with factor) (right_side factor) (relation_found total) sum_takes (λ k. refl) (λ a k. refl) i placed

  expression_made : (i k j : Input) (left : Sum) (o : Option (Relation × Sum)) → At total i → Taken total b (sum_shape total) i left k → IsItem (Taken total b (operator_of relation_mark (sum_shape total))) k o j
      → Taken total (suc b) (expression_shape total) i (expression_of i.at left o) j
  expression_made i k j left None placed p q =
      let one = p.0 in
      let here : Taken total (suc b) (expression_shape total) i (expression_of i.at left None) k =
      (record { spelled = one.spelled; indexed = (begins total i _ placed one.spelled, one.indexed); shallow = omega (arith, one.shallow) }, p.1) in
      subst (λ (l : Input). Taken total (suc b) (expression_shape total) i (expression_of i.at left None) l) (sym q) here
  expression_made i k j left (Some r) placed p q =
      let right = q.0 in
      let one = took_onto b (sum_shape total) i.rest left k.rest (kind.Mark (relation_mark r.0) ∷ put_sum r.1 j.rest) p.0 right.spelled in
      (record { spelled = one.spelled; indexed = (begins total i _ placed one.spelled, one.indexed, right.indexed); shallow = omega (arith, one.shallow, right.shallow) }, q.1)

  pub expression_with_takes : Takes total (suc b) (expression_shape total) (expression_with factor)
  unfolding expression_with
  expression_with_takes i placed =
      found_then total (Taken total b (sum_shape total) i) (Taken total (suc b) (expression_shape total) i) (sum_with factor i) (λ left. relation >>= (λ r. right_side factor r >>= (λ right. pure (expression_of i.at left right)))) (sum_takes i placed) (λ left k p.
      found_after total (IsItem (Taken total b (operator_of relation_mark (sum_shape total))) k) (Taken total (suc b) (expression_shape total) i) (relation k) (right_side factor) (λ right. pure (expression_of i.at left right)) (right_takes k p.1) (λ o j q.
      expression_made i k j left o placed p q))

-- ---- factors, where expressions and factors after `not` may have the number's levels

module _ (total b : ℕ) (expression : Parser Expression) (law : Takes total b (expression_shape total) expression) where
  pub expressions_take : Takes total b (expressions_shape total) (expressions_with expression)
  unfolding expressions_with
  expressions_take = separated_takes total b mark.Comma (expression_shape total) (more_expressions_shape total) (expressions_shape total) (expressions_built total) (expressions_led total) expression law

  arguments_made : (i k j : Input) (es : List Expression) → Passed total mark.OpenParenthesis i k → Taken total b (pair_of (expressions_shape total) (mark_shape mark.CloseParenthesis)) k (es, tt) j → Taken total b (arguments_shape total) i es j
  arguments_made i k j [] q t = absurd (t.0.indexed.0.0)
  arguments_made i k j (e ∷ es) q t =
      let all = t.0 in
      let shallow = all.shallow in
      (record { spelled = q.rest ∙ ap (λ (ks : List Kind). kind.Mark mark.OpenParenthesis ∷ ks) all.spelled; indexed = all.indexed.0.1; shallow = omega (arith, shallow) }, t.1)

  pub arguments_take : Takes total b (arguments_shape total) (arguments_with expression)
  unfolding arguments_with after
  arguments_take i placed =
      let inside : Parser (List Expression) = expressions_with expression >>= (λ es. expect mark.CloseParenthesis >>= (λ u. pure es)) in
      let Q = Taken total b (arguments_shape total) i in
      elim (sees mark.OpenParenthesis i) as (λ c. sees mark.OpenParenthesis i ≡ c → Found total Q ((cond c inside (pure [])) (cond c (advance i) i))) [
        | true ↦ λ e.
            let q = sees_passes total mark.OpenParenthesis i placed e in
            found_two total b Q (expressions_shape total) (mark_shape mark.CloseParenthesis) (expressions_with expression) (expect mark.CloseParenthesis) (λ es u. es) expressions_take (expect_takes total b mark.CloseParenthesis) (advance i) q.placed (λ es u j t.
            arguments_made i (advance i) j es q t)
        | false ↦ λ e. (record { spelled = refl; indexed = tt; shallow = omega arith }, placed)
      ] refl

  pub elements_take : Takes total b (elements_shape total) (elements_with expression)
  unfolding elements_with after
  elements_take i placed =
      let inside : Parser (List Expression) = expressions_with expression >>= (λ es. expect mark.CloseBracket >>= (λ u. pure es)) in
      let Q = Taken total b (elements_shape total) i in
      elim (sees mark.CloseBracket i) as (λ c. sees mark.CloseBracket i ≡ c → Found total Q ((cond c (pure []) inside) (cond c (advance i) i))) [
        | true ↦ λ e. let q = sees_passes total mark.CloseBracket i placed e in (record { spelled = q.rest; indexed = tt; shallow = omega arith }, q.placed)
        | false ↦ λ e. found_two total b Q (expressions_shape total) (mark_shape mark.CloseBracket) (expressions_with expression) (expect mark.CloseBracket) (λ es u. es) expressions_take (expect_takes total b mark.CloseBracket) i placed (λ es u j t.
            made_of total b _ _ _ i j _ _ placed t refl (λ p h. h.0.1) (λ d. omega arith))
      ] refl

  selector_by_takes : (at : ℕ) (ks : List Kind) → Begins total at ks → let i : Input = record { at = at; rest = ks } in Found total (IsItem (Taken total b (selector_shape total)) i) (selector_by expression (first_mark ks) i)
  unfolding advance
  selector_by_takes at (kind.Mark mark.Period ∷ ks) placed =
      let i : Input = record { at = at; rest = kind.Mark mark.Period ∷ ks } in
      let k : Input = record { at = at + 1; rest = ks } in
      found_one total b (IsItem (Taken total b (selector_shape total)) i) (identifier_shape total) identifier (λ n. Some (field n)) (identifier_takes total b) k (omega arith) (λ n j t.
      made_after total b _ mark.Period _ _ i k j _ _ placed (record { rest = refl; placed = omega arith }) t refl (λ p h. h) (λ d. omega arith))
  selector_by_takes at (kind.Mark mark.OpenBracket ∷ ks) placed =
      let i : Input = record { at = at; rest = kind.Mark mark.OpenBracket ∷ ks } in
      let k : Input = record { at = at + 1; rest = ks } in
      found_two total b (IsItem (Taken total b (selector_shape total)) i) (expression_shape total) (mark_shape mark.CloseBracket) expression (expect mark.CloseBracket) (λ e u. Some (index e)) law (expect_takes total b mark.CloseBracket) k (omega arith) (λ e u j t.
      made_after total b _ mark.OpenBracket _ _ i k j _ _ placed (record { rest = refl; placed = omega arith }) t refl (λ p h. h.0) (λ d. omega arith))
  selector_by_takes at _ placed = refl

  selector_takes : MayTake total b (selector_shape total) (selector_with expression)
  unfolding selector_with Input.mark
  selector_takes i placed = selector_by_takes i.at i.rest placed

  pub designator_takes : Takes total b (designator_shape total) (designator_with expression)
  unfolding designator_with
  designator_takes i placed =
      found_two total b (Taken total b (designator_shape total) i) (identifier_shape total) (selectors_shape total) identifier (many (selector_with expression)) (λ n ss. designator n (selectors_of ss)) (identifier_takes total b)
      (many_takes total b (selector_shape total) (selectors_shape total) (selectors_built total) (selector_with expression) selector_takes) i placed (λ n ss j t.
      made_of total b _ _ _ i j _ _ placed t refl (λ p h. (h.0, h.1)) (λ d. omega arith))

  module _ (deeper : Parser Factor) (below : Takes total b (deeper_shape total) deeper) where
    factor_by_takes : (at : ℕ) (ks : List Kind) → Begins total at ks → let i : Input = record { at = at; rest = ks } in Found total (Taken total b (factor_shape total) i) (factor_by expression deeper at (first ks) i)
    unfolding advance
    factor_by_takes at (kind.Number n ∷ ks) placed = (record { spelled = refl; indexed = placed; shallow = omega arith }, omega arith)
    factor_by_takes at (kind.Character n ∷ ks) placed = (record { spelled = refl; indexed = placed; shallow = omega arith }, omega arith)
    factor_by_takes at (kind.Name n ∷ ks) placed =
        let i : Input = record { at = at; rest = kind.Name n ∷ ks } in
        found_two total b (Taken total b (factor_shape total) i) (designator_shape total) (arguments_shape total) (designator_with expression) (arguments_with expression) (λ d es. named at d (expressions_of es)) designator_takes arguments_take i placed (λ d es j t.
        made_of total b _ _ _ i j _ _ placed t refl (λ p h. (p, h.0, h.1)) (λ d. d))
    factor_by_takes at (kind.Mark mark.OpenParenthesis ∷ ks) placed =
        let i : Input = record { at = at; rest = kind.Mark mark.OpenParenthesis ∷ ks } in
        let k : Input = record { at = at + 1; rest = ks } in
        found_two total b (Taken total b (factor_shape total) i) (expression_shape total) (mark_shape mark.CloseParenthesis) expression (expect mark.CloseParenthesis) (λ e u. group at e) law (expect_takes total b mark.CloseParenthesis) k (omega arith) (λ e u j t.
        made_after total b _ mark.OpenParenthesis _ _ i k j _ _ placed (record { rest = refl; placed = omega arith }) t refl (λ p h. (p, h.0)) (λ d. omega arith))
    factor_by_takes at (kind.Mark mark.OpenBracket ∷ ks) placed =
        let i : Input = record { at = at; rest = kind.Mark mark.OpenBracket ∷ ks } in
        let k : Input = record { at = at + 1; rest = ks } in
        found_one total b (Taken total b (factor_shape total) i) (elements_shape total) (elements_with expression) (λ es. set_of at (expressions_of es)) elements_take k (omega arith) (λ es j t.
        made_after total b _ mark.OpenBracket _ _ i k j _ _ placed (record { rest = refl; placed = omega arith }) t refl (λ p h. (p, h)) (λ d. d))
    factor_by_takes at (kind.Mark mark.Not ∷ ks) placed =
        let i : Input = record { at = at; rest = kind.Mark mark.Not ∷ ks } in
        let k : Input = record { at = at + 1; rest = ks } in
        found_one total b (Taken total b (factor_shape total) i) (deeper_shape total) deeper (λ f. negated at f) below k (omega arith) (λ f j t.
        made_after total b _ mark.Not _ _ i k j _ _ placed (record { rest = refl; placed = omega arith }) t refl (λ p h. (p, h)) (λ d. d))
    factor_by_takes at _ placed = omega arith

    pub factor_with_takes : Takes total b (factor_shape total) (factor_with expression deeper)
    unfolding factor_with next
    factor_with_takes i placed = factor_by_takes i.at i.rest placed

-- ---- the recursion

factor_raised : (total b : ℕ) (i : Input) (r : Outcome Factor) → Found total (Taken total b (factor_shape total) i) r → Found total (Taken total (suc b) (deeper_shape total) i) r
factor_raised total b i r h = found_map total (Taken total b (factor_shape total) i) (Taken total (suc b) (deeper_shape total) i) r h (λ f j p. let one = p.0 in (record { spelled = one.spelled; indexed = one.indexed; shallow = omega (arith, one.shallow) }, p.1))

mutual
  unfolding expression deeper

  pub expression_takes : (total b : ℕ) → Takes total b (expression_shape total) (expression b)
  expression_takes total zero i placed = takes_deep total zero (expression_shape total) i placed
  expression_takes total (suc b) i placed = expression_with_takes total b (factor_with (expression b) (deeper b)) (factor_with_takes total b (expression b) (expression_takes total b) (deeper b) (deeper_takes total b)) i placed

  pub deeper_takes : (total b : ℕ) → Takes total b (deeper_shape total) (deeper b)
  deeper_takes total zero i placed = takes_deep total zero (deeper_shape total) i placed
  deeper_takes total (suc b) i placed = factor_raised total b i (factor_with (expression b) (deeper b) i) (factor_with_takes total b (expression b) (expression_takes total b) (deeper b) (deeper_takes total b) i placed)
