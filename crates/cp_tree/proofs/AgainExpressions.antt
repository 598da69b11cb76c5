-- The tokens of an expression are read as that expression, whatever follows it.
use Rattle.std.proofs.Common.{◌≡◌, ℕ, zero, suc, ◌+◌, ◌<◌, ◌≤◌, max, false, List, [], ◌∷◌, length, Option, Some, None, Ok, refl, sym, ap, subst, arith}
use Rattle.cp_text.specs.declared.token.Kind.{Kind}
use Rattle.cp_text.specs.declared.token.Kind.TheVariants as kind
use Rattle.cp_text.specs.declared.token.Mark.{Mark}
use Rattle.cp_text.specs.declared.token.Mark.TheVariants as mark
use Rattle.cp_tree.specs.declared.constant.Identifier.{Identifier}
use Rattle.cp_tree.specs.declared.constant.Sign.{Sign}
use Rattle.cp_tree.specs.declared.constant.Sign.TheVariants as signs
use Rattle.cp_tree.specs.declared.expression.Relation.{Relation}
use Rattle.cp_tree.specs.declared.expression.Relation.TheVariants as relations
use Rattle.cp_tree.specs.declared.expression.Addition.{Addition}
use Rattle.cp_tree.specs.declared.expression.Addition.TheVariants as additions
use Rattle.cp_tree.specs.declared.expression.Multiplication.{Multiplication}
use Rattle.cp_tree.specs.declared.expression.Multiplication.TheVariants as multiplications
use Rattle.cp_tree.specs.Input as Input
use Rattle.cp_tree.specs.Input.{Input, Outcome, Parser, ◌>>=◌, pure, same, is_mark, first, first_mark, next, advance, expect}
use Rattle.cp_tree.specs.Syntax.{Expression, alone, related, Sum, sum, Terms, no_terms, more_terms, Term, term, Factors, no_factors, more_factors, Factor, number, character, named, group, negated, set_of, Expressions, no_expressions, more_expressions, Designator, designator, Selectors, no_selectors, more_selectors, Selector, field, index}
use Rattle.cp_tree.specs.View.{expressions_of, selectors_of, factors_of, terms_of, expression_of}
use Rattle.cp_tree.specs.Reading.{many, sign, sign_of, identifier}
use Rattle.cp_tree.specs.ReadingExpressions.{relation, relation_of, addition, addition_of, multiplication, multiplication_of, multiplied_factor, next_factor, term_with, added_term, next_term, sum_with, right_side, expression_with, expressions_with, arguments_with, elements_with, selector_by, selector_with, designator_with, factor_with, expression, deeper}
use Rattle.cp_tree.specs.Spelling.{relation_mark, addition_mark, multiplication_mark, put_expression, put_sum, put_terms, put_term, put_factor, put_arguments, put_expressions, put_more_expressions, put_selector}
use Rattle.cp_tree.specs.SpellingIndexed.{Begins}
use Rattle.cp_tree.specs.SpellingLevel.{expression_depth, sum_depth, factor_depth, expressions_depth}
use Rattle.cp_tree.proofs.Shapes.{Shape, mark_shape, behind_of, IsListed}
use Rattle.cp_tree.proofs.FoundLists.{operator_of}
use Rattle.cp_tree.proofs.FoundConstants.{identifier_shape}
use Rattle.cp_tree.proofs.FoundExpressions.{expression_shape, sum_shape, terms_shape, term_shape, factors_shape, factor_shape, deeper_shape, more_expressions_shape, expressions_shape, arguments_shape, elements_shape, designator_shape, selectors_shape, selector_shape}
use Rattle.cp_tree.proofs.Grows.{grows_expression, grows_term, grows_factor}
use Rattle.cp_tree.proofs.Lands.{on, Lands, lands_then, lands_map, lands_after, LandsOn, LandsAll, before, expect_lands, eaten, not_eaten, class, Stops, land_one, land_two, land_three}
use Rattle.cp_tree.proofs.LandsLists.{IsApart, IsApartLed, LandsItem, EndsOn, follows, many_lands, separated_lands, operated_lands, operated_ends, taken_ends}
use Rattle.cp_tree.proofs.AgainConstants.{NoComma, identifier_lands, sign_before, sign_lands}

-- ---- the lists of the syntax, as lists

abbrev pub expressions_list : Expressions → List Expression
expressions_list no_expressions = []
expressions_list (more_expressions e es) = e ∷ expressions_list es

pub expressions_back : (es : Expressions) → expressions_of (expressions_list es) ≡ es
expressions_back no_expressions = refl
expressions_back (more_expressions e es) = ap (more_expressions e) (expressions_back es)

abbrev selectors_list : Selectors → List Selector
selectors_list no_selectors = []
selectors_list (more_selectors s ss) = s ∷ selectors_list ss

selectors_back : (ss : Selectors) → selectors_of (selectors_list ss) ≡ ss
selectors_back no_selectors = refl
selectors_back (more_selectors s ss) = ap (more_selectors s) (selectors_back ss)

abbrev factors_list : Factors → List (Multiplication × Factor)
factors_list no_factors = []
factors_list (more_factors m f fs) = (m, f) ∷ factors_list fs

factors_back : (fs : Factors) → factors_of (factors_list fs) ≡ fs
factors_back no_factors = refl
factors_back (more_factors m f fs) = ap (more_factors m f) (factors_back fs)

abbrev terms_list : Terms → List (Addition × Term)
terms_list no_terms = []
terms_list (more_terms a t ts) = (a, t) ∷ terms_list ts

terms_back : (ts : Terms) → terms_of (terms_list ts) ≡ ts
terms_back no_terms = refl
terms_back (more_terms a t ts) = ap (more_terms a t) (terms_back ts)

-- ---- operators

addition_lands : (total : ℕ) (a : Addition) (n : ℕ) (ks : List Kind) → Begins total n (kind.Mark (addition_mark a) ∷ ks) → Lands total ⊥ (Some a) ks (addition (on n (kind.Mark (addition_mark a) ∷ ks)))
unfolding addition Input.mark advance
addition_lands total additions.Plus n ks placed = (refl, refl, omega arith)
addition_lands total _ n ks placed = (refl, refl, omega arith)

multiplication_lands : (total : ℕ) (m : Multiplication) (n : ℕ) (ks : List Kind) → Begins total n (kind.Mark (multiplication_mark m) ∷ ks) → Lands total ⊥ (Some m) ks (multiplication (on n (kind.Mark (multiplication_mark m) ∷ ks)))
unfolding multiplication Input.mark advance
multiplication_lands total multiplications.Times n ks placed = (refl, refl, omega arith)
multiplication_lands total _ n ks placed = (refl, refl, omega arith)

relation_lands : (total : ℕ) (r : Relation) (n : ℕ) (ks : List Kind) → Begins total n (kind.Mark (relation_mark r) ∷ ks) → Lands total ⊥ (Some r) ks (relation (on n (kind.Mark (relation_mark r) ∷ ks)))
unfolding relation Input.mark advance
relation_lands total relations.Equal n ks placed = (refl, refl, omega arith)
relation_lands total _ n ks placed = (refl, refl, omega arith)

unseen_multiplication : (o : Option Mark) → class o ≤ 2 → multiplication_of o ≡ None
unseen_multiplication (Some mark.Times) h = absurd (omega arith)
unseen_multiplication _ h = first_of (cc, grind arith)

unseen_addition : (o : Option Mark) → class o ≤ 1 → addition_of o ≡ None
unseen_addition (Some mark.Plus) h = absurd (omega arith)
unseen_addition _ h = first_of (cc, grind arith)

unseen_relation : (o : Option Mark) → class o ≤ 0 → relation_of o ≡ None
unseen_relation (Some mark.Equal) h = absurd (omega arith)
unseen_relation _ h = first_of (cc, grind arith)

unseen_parenthesis : (o : Option Mark) → class o ≤ 3 → is_mark mark.OpenParenthesis o ≡ false
unfolding same
unseen_parenthesis (Some mark.OpenParenthesis) h = absurd (omega arith)
unseen_parenthesis _ h = refl

multiplication_ends : (total : ℕ) (ks : List Kind) → Stops 2 ks → EndsOn total multiplication ks
unfolding multiplication Input.mark
multiplication_ends total ks stops n placed = taken_ends total (multiplication_of (first_mark ks)) ks (unseen_multiplication (first_mark ks) stops) n placed

addition_ends : (total : ℕ) (ks : List Kind) → Stops 1 ks → EndsOn total addition ks
unfolding addition Input.mark
addition_ends total ks stops n placed = taken_ends total (addition_of (first_mark ks)) ks (unseen_addition (first_mark ks) stops) n placed

relation_ends : (total : ℕ) (ks : List Kind) → Stops 0 ks → EndsOn total relation ks
unfolding relation Input.mark
relation_ends total ks stops n placed = taken_ends total (relation_of (first_mark ks)) ks (unseen_relation (first_mark ks) stops) n placed

addition_class : (a : Addition) → class (Some (addition_mark a)) ≤ 2
addition_class additions.Plus = omega arith
addition_class _ = omega arith

multiplication_class : (m : Multiplication) → class (Some (multiplication_mark m)) ≤ 3
multiplication_class multiplications.Times = omega arith
multiplication_class _ = omega arith

relation_class : (r : Relation) → class (Some (relation_mark r)) ≤ 1
relation_class relations.Equal = omega arith
relation_class _ = omega arith

-- ---- shapes, with what may follow

abbrev pub expression_before : ℕ → Shape Expression
expression_before total = before (expression_shape total) (Stops 0)

abbrev sum_before : ℕ → Shape Sum
sum_before total = before (sum_shape total) (Stops 1)

abbrev terms_before : ℕ → Shape (List (Addition × Term))
terms_before total = before (terms_shape total) (Stops 1)

abbrev term_before : ℕ → Shape Term
term_before total = before (term_shape total) (Stops 2)

abbrev factors_before : ℕ → Shape (List (Multiplication × Factor))
factors_before total = before (factors_shape total) (Stops 2)

abbrev factor_before : ℕ → Shape Factor
factor_before total = before (factor_shape total) (Stops 3)

abbrev deeper_before : ℕ → Shape Factor
deeper_before total = before (deeper_shape total) (Stops 3)

-- what follows a list of expressions
abbrev Closes : List Kind → Type 0
Closes ks = Stops 0 ks × NoComma ks

abbrev more_expressions_before : ℕ → Shape (List Expression)
more_expressions_before total = before (more_expressions_shape total) Closes

abbrev expressions_before : ℕ → Shape (List Expression)
expressions_before total = before (expressions_shape total) Closes

abbrev pub arguments_before : ℕ → Shape (List Expression)
arguments_before total = before (arguments_shape total) (Stops 3)

abbrev pub designator_before : ℕ → Shape Designator
designator_before total = before (designator_shape total) (Stops 4)

abbrev selectors_before : ℕ → Shape (List Selector)
selectors_before total = before (selectors_shape total) (Stops 4)

factors_listed : (total : ℕ) → IsListed (operator_of multiplication_mark (factor_before total)) (factors_before total)
factors_listed total = record { no_put = λ ks. refl; more_put = λ x xs ks. refl; no_depth = refl; more_depth = λ x xs. refl }

factors_apart : (total : ℕ) → IsApart (operator_of multiplication_mark (factor_before total)) (factors_before total)
factors_apart total = record {
  listed = factors_listed total;
  first_indexed = λ x xs ks h. (h.0.0, follows (operator_of multiplication_mark (factor_before total)) (factors_before total) (factors_listed total) (Stops 3) (λ x ks. multiplication_class x.0) xs ks (omega (arith, h.1)));
  rest_indexed = λ x xs ks h. (h.0.1, h.1);
}

terms_listed : (total : ℕ) → IsListed (operator_of addition_mark (term_before total)) (terms_before total)
terms_listed total = record { no_put = λ ks. refl; more_put = λ x xs ks. refl; no_depth = refl; more_depth = λ x xs. refl }

terms_apart : (total : ℕ) → IsApart (operator_of addition_mark (term_before total)) (terms_before total)
terms_apart total = record {
  listed = terms_listed total;
  first_indexed = λ x xs ks h. (h.0.0, follows (operator_of addition_mark (term_before total)) (terms_before total) (terms_listed total) (Stops 2) (λ x ks. addition_class x.0) xs ks (omega (arith, h.1)));
  rest_indexed = λ x xs ks h. (h.0.1, h.1);
}

expressions_listed : (total : ℕ) → IsListed (behind_of mark.Comma (expression_before total)) (more_expressions_before total)
expressions_listed total = record { no_put = λ ks. refl; more_put = λ x xs ks. refl; no_depth = refl; more_depth = λ x xs. refl }

expressions_follow : (total : ℕ) (xs : List Expression) (ks : List Kind) → Stops 0 ks → Stops 0 (put_more_expressions (expressions_of xs) ks)
expressions_follow total xs ks h = follows (behind_of mark.Comma (expression_before total)) (more_expressions_before total) (expressions_listed total) (Stops 0) (λ x ks. omega arith) xs ks h

expressions_apart : (total : ℕ) → IsApart (behind_of mark.Comma (expression_before total)) (more_expressions_before total)
expressions_apart total = record {
  listed = expressions_listed total;
  first_indexed = λ x xs ks h. (h.0.0, expressions_follow total xs ks h.1.0);
  rest_indexed = λ x xs ks h. (h.0.1, h.1);
}

expressions_apart_led : (total : ℕ) → IsApartLed (expression_before total) (more_expressions_before total) (expressions_before total)
expressions_apart_led total = record {
  led = record { led_put = λ x xs ks. refl; led_depth = λ x xs. refl };
  none_indexed = λ ks h. h.0.0;
  head_indexed = λ x xs ks h. (h.0.1.0, expressions_follow total xs ks h.1.0);
  more_indexed = λ x xs ks h. (h.0.1.1, h.1);
}

selectors_listed : (total : ℕ) → IsListed (selector_shape total) (selectors_before total)
selectors_listed total = record { no_put = λ ks. refl; more_put = λ x xs ks. refl; no_depth = refl; more_depth = λ x xs. refl }

selectors_apart : (total : ℕ) → IsApart (selector_shape total) (selectors_before total)
selectors_apart total = record { listed = selectors_listed total; first_indexed = λ x xs ks h. h.0.0; rest_indexed = λ x xs ks h. (h.0.1, h.1) }

-- ---- where parts begin

no_sign : (t : Term) (ks : List Kind) → sign_of (first_mark (put_term t ks)) ≡ None
no_sign (term at (named k (designator i ss) es) fs) ks = refl
no_sign _ ks = refl

term_open : (t : Term) (ks : List Kind) → is_mark mark.CloseBracket (first_mark (put_term t ks)) ≡ false
unfolding same
term_open (term at (named k (designator i ss) es) fs) ks = refl
term_open _ ks = refl

sum_open : (s : Sum) (ks : List Kind) → is_mark mark.CloseBracket (first_mark (put_sum s ks)) ≡ false
unfolding same
sum_open (sum at None t ts) ks = term_open t (put_terms ts ks)
sum_open (sum at (Some signs.Plus) t ts) ks = refl
sum_open (sum at (Some signs.Minus) t ts) ks = refl

-- An expression does not begin with the bracket that would close a constructor.
expression_open : (e : Expression) (ks : List Kind) → is_mark mark.CloseBracket (first_mark (put_expression e ks)) ≡ false
expression_open (alone at s) ks = sum_open s ks
expression_open (related at s r t) ks = sum_open s (kind.Mark (relation_mark r) ∷ put_sum t ks)

parenthesis_closes : (ks : List Kind) → Closes (kind.Mark mark.CloseParenthesis ∷ ks)
unfolding same
parenthesis_closes ks = (omega arith, refl)

bracket_closes : (ks : List Kind) → Closes (kind.Mark mark.CloseBracket ∷ ks)
unfolding same
bracket_closes ks = (omega arith, refl)

-- ---- terms, sums and expressions

module _ (total b : ℕ) (factor : Parser Factor) (law : LandsAll total b (factor_before total) factor) where
  next_factor_lands : (x : Multiplication × Factor) → LandsItem total b (operator_of multiplication_mark (factor_before total)) (next_factor factor) x
  unfolding next_factor
  next_factor_lands x n ks placed indexed = operated_lands total b multiplication_mark (factor_before total) multiplication factor (multiplied_factor factor) x.0 x.1 (multiplication_lands total x.0) (law x.1) (λ k. refl) n ks placed indexed

  next_factor_ends : (ks : List Kind) → Stops 2 ks → EndsOn total (next_factor factor) ks
  unfolding next_factor
  next_factor_ends ks stops n placed = operated_ends total multiplication (multiplied_factor factor) ks (multiplication_ends total ks stops) (λ k. refl) n placed

  factors_land : LandsAll total b (factors_before total) (many (next_factor factor))
  factors_land = many_lands total b (operator_of multiplication_mark (factor_before total)) (factors_before total) (factors_apart total) (next_factor factor) next_factor_lands (λ ks h. next_factor_ends ks h.1) (λ x ks. omega (arith, grows_factor x.1 ks))

  term_of_list : (at : ℕ) (f : Factor) (fs : List (Multiplication × Factor)) → LandsOn total b (term_before total) (term_with factor) (term at f (factors_of fs))
  unfolding term_with
  term_of_list at f fs n ks placed indexed =
      let same_at : n ≡ at = omega (arith, indexed.0.0) in
      let stops = follows (operator_of multiplication_mark (factor_before total)) (factors_before total) (factors_listed total) (Stops 3) (λ x ks. multiplication_class x.0) fs ks (omega (arith, indexed.1)) in
      land_two total b (b < max (factor_depth f) ((factors_before total).depth fs)) (term at f (factors_of fs)) (factor_before total) (factors_before total) factor (many (next_factor factor)) (λ f fs. term n f (factors_of fs)) f fs (law f) (factors_land fs)
      n ks placed ((indexed.0.1, stops), (indexed.0.2, indexed.1)) (λ d. d) (ap (λ a. term a f (factors_of fs)) same_at)

  term_lands : LandsAll total b (term_before total) (term_with factor)
  term_lands (term at f fs) = subst (λ (fs : Factors). LandsOn total b (term_before total) (term_with factor) (term at f fs)) (factors_back fs) (term_of_list at f (factors_list fs))

  next_term_lands : (x : Addition × Term) → LandsItem total b (operator_of addition_mark (term_before total)) (next_term factor) x
  unfolding next_term
  next_term_lands x n ks placed indexed = operated_lands total b addition_mark (term_before total) addition (term_with factor) (added_term factor) x.0 x.1 (addition_lands total x.0) (term_lands x.1) (λ k. refl) n ks placed indexed

  next_term_ends : (ks : List Kind) → Stops 1 ks → EndsOn total (next_term factor) ks
  unfolding next_term
  next_term_ends ks stops n placed = operated_ends total addition (added_term factor) ks (addition_ends total ks stops) (λ k. refl) n placed

  terms_land : LandsAll total b (terms_before total) (many (next_term factor))
  terms_land = many_lands total b (operator_of addition_mark (term_before total)) (terms_before total) (terms_apart total) (next_term factor) next_term_lands (λ ks h. next_term_ends ks h.1) (λ x ks. omega (arith, grows_term x.1 ks))

  sum_of_list : (at : ℕ) (o : Option Sign) (t : Term) (ts : List (Addition × Term)) → LandsOn total b (sum_before total) (sum_with factor) (sum at o t (terms_of ts))
  unfolding sum_with
  sum_of_list at o t ts n ks placed indexed =
      let same_at : n ≡ at = omega (arith, indexed.0.0) in
      let stops = follows (operator_of addition_mark (term_before total)) (terms_before total) (terms_listed total) (Stops 2) (λ x ks. addition_class x.0) ts ks (omega (arith, indexed.1)) in
      land_three total b (b < sum_depth (sum at o t (terms_of ts))) (sum at o t (terms_of ts)) sign_before (term_before total) (terms_before total) sign (term_with factor) (many (next_term factor)) (λ o t ts. sum n o t (terms_of ts)) o t ts (sign_lands total b o) (term_lands t) (terms_land ts)
      n ks placed (λ e. no_sign t (put_terms (terms_of ts) ks), ((indexed.0.1, stops), (indexed.0.2, indexed.1))) (λ d. omega arith) (ap (λ a. sum a o t (terms_of ts)) same_at)

  sum_lands : LandsAll total b (sum_before total) (sum_with factor)
  sum_lands (sum at o t ts) = subst (λ (ts : Terms). LandsOn total b (sum_before total) (sum_with factor) (sum at o t ts)) (terms_back ts) (sum_of_list at o t (terms_list ts))

  -- an expression, one level up
  pub expression_with_lands : LandsAll total (suc b) (expression_before total) (expression_with factor)
  unfolding expression_with
  expression_with_lands (alone at s) n ks placed indexed =
      let same_at : n ≡ at = omega (arith, indexed.0.0) in
      let D = suc b < suc (sum_depth s) in
      lands_then total (b < sum_depth s) D (sum_with factor (on n (put_sum s ks))) (λ left. relation >>= (λ r. right_side factor r >>= (λ right. pure (expression_of n left right)))) s ks (alone at s) ks
      (sum_lands s n ks placed (indexed.0.1, omega (arith, indexed.1))) (λ d. omega arith) (λ k here.
      lands_after total ⊥ D (relation (on k ks)) (right_side factor) (λ right. pure (expression_of n s right)) None ks (alone at s) ks
      (operated_ends total relation (right_side factor) ks (relation_ends total ks indexed.1) (λ k. refl) k here) (λ d. absurd d) (λ l q.
      (ap (λ a. alone a s) same_at, refl, q)))
  expression_with_lands (related at s r t) n ks placed indexed =
      let same_at : n ≡ at = omega (arith, indexed.0.0) in
      let D = suc b < suc (max (sum_depth s) (sum_depth t)) in
      let rest = kind.Mark (relation_mark r) ∷ put_sum t ks in
      let e = related at s r t in
      lands_then total (b < sum_depth s) D (sum_with factor (on n (put_sum s rest))) (λ left. relation >>= (λ r. right_side factor r >>= (λ right. pure (expression_of n left right)))) s rest e ks
      (sum_lands s n rest placed (indexed.0.1, relation_class r)) (λ d. omega arith) (λ k here.
      lands_after total (b < sum_depth t) D (relation (on k rest)) (right_side factor) (λ right. pure (expression_of n s right)) (Some (r, t)) ks e ks
      (operated_lands total b relation_mark (sum_before total) relation (sum_with factor) (right_side factor) r t (relation_lands total r) (sum_lands t) (λ k. refl) k ks here (indexed.0.2, omega (arith, indexed.1))) (λ d. omega arith) (λ l q.
      (ap (λ a. related a s r t) same_at, refl, q)))

-- ---- factors

module _ (total b : ℕ) (expression : Parser Expression) (law : LandsAll total b (expression_before total) expression) where
  expressions_land : LandsAll total b (expressions_before total) (expressions_with expression)
  unfolding expressions_with
  expressions_land = separated_lands total b mark.Comma (expression_before total) (more_expressions_before total) (expressions_before total) (expressions_apart total) (expressions_apart_led total) expression law (λ ks h. h.1.1) grows_expression

  pub arguments_land : LandsAll total b (arguments_before total) (arguments_with expression)
  unfolding arguments_with
  arguments_land [] n ks placed indexed =
      let inside : Parser (List Expression) = expressions_with expression >>= (λ es. expect mark.CloseParenthesis >>= (λ u. pure es)) in
      not_eaten total (b < 0) mark.OpenParenthesis inside (pure []) n ks [] ks (unseen_parenthesis (first_mark ks) indexed.1) (refl, refl, placed)
  arguments_land (e ∷ es) n ks placed indexed =
      let inside : Parser (List Expression) = expressions_with expression >>= (λ es. expect mark.CloseParenthesis >>= (λ u. pure es)) in
      let all = e ∷ es in
      let D = b < expressions_depth (expressions_of all) in
      let close = kind.Mark mark.CloseParenthesis ∷ ks in
      eaten total D mark.OpenParenthesis inside (pure []) n (put_expressions (expressions_of all) close) all ks placed (λ k here.
      land_two total b D all (expressions_before total) (mark_shape mark.CloseParenthesis) (expressions_with expression) (expect mark.CloseParenthesis) (λ es u. es) all tt (expressions_land all) (expect_lands total b mark.CloseParenthesis tt)
      k ks here (((tt, indexed.0), parenthesis_closes ks), tt) (λ d. omega arith) refl)

  elements_land : LandsAll total b (elements_shape total) (elements_with expression)
  unfolding elements_with
  elements_land [] n ks placed indexed =
      let inside : Parser (List Expression) = expressions_with expression >>= (λ es. expect mark.CloseBracket >>= (λ u. pure es)) in
      eaten total (b < 0) mark.CloseBracket (pure []) inside n ks [] ks placed (λ k here. (refl, refl, here))
  elements_land (e ∷ es) n ks placed indexed =
      let inside : Parser (List Expression) = expressions_with expression >>= (λ es. expect mark.CloseBracket >>= (λ u. pure es)) in
      let all = e ∷ es in
      let D = b < expressions_depth (expressions_of all) in
      let close = kind.Mark mark.CloseBracket ∷ ks in
      not_eaten total D mark.CloseBracket (pure []) inside n (put_expressions (expressions_of all) close) all ks (expression_open e (put_more_expressions (expressions_of es) close))
      (land_two total b D all (expressions_before total) (mark_shape mark.CloseBracket) (expressions_with expression) (expect mark.CloseBracket) (λ es u. es) all tt (expressions_land all) (expect_lands total b mark.CloseBracket tt)
      n ks placed (((tt, indexed), bracket_closes ks), tt) (λ d. omega arith) refl)

  selector_lands : (s : Selector) → LandsItem total b (selector_shape total) (selector_with expression) s
  unfolding selector_with Input.mark advance
  selector_lands (field i) n ks placed indexed =
      land_one total b (b < 0) (Some (field i)) (identifier_shape total) identifier (λ i. Some (field i)) i (identifier_lands total b i) (n + 1) ks (omega arith) indexed (λ d. d) refl
  selector_lands (index e) n ks placed indexed =
      land_two total b (b < expression_depth e) (Some (index e)) (expression_before total) (mark_shape mark.CloseBracket) expression (expect mark.CloseBracket) (λ e u. Some (index e)) e tt (law e) (expect_lands total b mark.CloseBracket tt)
      (n + 1) ks (omega arith) ((indexed, omega arith), tt) (λ d. omega arith) refl

  no_selector : (o : Option Mark) (i : Input) → class o ≤ 4 → selector_by expression o i ≡ Ok (None, i)
  no_selector (Some mark.Period) i h = absurd (omega arith)
  no_selector _ i h = first_of (cc, grind arith)

  selector_ends : (ks : List Kind) → Stops 4 ks → EndsOn total (selector_with expression) ks
  unfolding selector_with Input.mark
  selector_ends ks stops n placed = subst (λ (r : Outcome (Option Selector)). Lands total ⊥ None ks r) (sym (no_selector (first_mark ks) (on n ks) stops)) (refl, refl, placed)

  selector_more : (s : Selector) (ks : List Kind) → length ks < length (put_selector s ks)
  selector_more (field i) ks = omega arith
  selector_more (index e) ks = omega (arith, grows_expression e (kind.Mark mark.CloseBracket ∷ ks))

  designator_of_list : (i : Identifier) (ss : List Selector) → LandsOn total b (designator_before total) (designator_with expression) (designator i (selectors_of ss))
  unfolding designator_with
  designator_of_list i ss n ks placed indexed =
      let d = designator i (selectors_of ss) in
      land_two total b (b < (designator_before total).depth d) d (identifier_shape total) (selectors_before total) identifier (many (selector_with expression)) (λ i ss. designator i (selectors_of ss)) i ss (identifier_lands total b i)
      (many_lands total b (selector_shape total) (selectors_before total) (selectors_apart total) (selector_with expression) selector_lands (λ ks h. selector_ends ks h.1) selector_more ss)
      n ks placed (indexed.0.0, (indexed.0.1, indexed.1)) (λ d. omega arith) refl

  pub designator_lands : LandsAll total b (designator_before total) (designator_with expression)
  designator_lands (designator i ss) = subst (λ (ss : Selectors). LandsOn total b (designator_before total) (designator_with expression) (designator i ss)) (selectors_back ss) (designator_of_list i (selectors_list ss))

  -- what follows a designator with arguments
  pub arguments_follow : (es : List Expression) (ks : List Kind) → Stops 3 ks → Stops 4 (put_arguments (expressions_of es) ks)
  arguments_follow [] ks h = omega (arith, h)
  arguments_follow (e ∷ es) ks h = omega arith

  module _ (deeper : Parser Factor) (below : LandsAll total b (deeper_before total) deeper) where
    named_lands : (at : ℕ) (d : Designator) (es : List Expression) → LandsOn total b (factor_before total) (factor_with expression deeper) (named at d (expressions_of es))
    unfolding factor_with next
    named_lands at (designator i ss) es n ks placed indexed =
        let same_at : n ≡ at = omega (arith, indexed.0.0) in
        let d = designator i ss in
        let f = named at d (expressions_of es) in
        land_two total b (b < factor_depth f) f (designator_before total) (arguments_before total) (designator_with expression) (arguments_with expression) (λ d es. named n d (expressions_of es)) d es (designator_lands d) (arguments_land es)
        n ks placed ((indexed.0.1, arguments_follow es ks indexed.1), (indexed.0.2, indexed.1)) (λ d. d) (ap (λ a. named a d (expressions_of es)) same_at)

    set_lands : (at : ℕ) (es : List Expression) → LandsOn total b (factor_before total) (factor_with expression deeper) (set_of at (expressions_of es))
    unfolding factor_with next advance
    set_lands at es n ks placed indexed =
        let same_at : n ≡ at = omega (arith, indexed.0.0) in
        let f = set_of at (expressions_of es) in
        land_one total b (b < factor_depth f) f (elements_shape total) (elements_with expression) (λ es. set_of n (expressions_of es)) es (elements_land es) (n + 1) ks (omega arith) indexed.0.1 (λ d. d) (ap (λ a. set_of a (expressions_of es)) same_at)

    pub factor_lands : LandsAll total b (factor_before total) (factor_with expression deeper)
    unfolding factor_with next advance
    factor_lands (number at m) n ks placed indexed = let same_at : n ≡ at = omega (arith, indexed.0) in (ap (λ a. number a m) same_at, refl, omega arith)
    factor_lands (character at m) n ks placed indexed = let same_at : n ≡ at = omega (arith, indexed.0) in (ap (λ a. character a m) same_at, refl, omega arith)
    factor_lands (named at d es) n ks placed indexed = subst (λ (es : Expressions). LandsOn total b (factor_before total) (factor_with expression deeper) (named at d es)) (expressions_back es) (named_lands at d (expressions_list es)) n ks placed indexed
    factor_lands (group at e) n ks placed indexed =
        let same_at : n ≡ at = omega (arith, indexed.0.0) in
        land_two total b (b < expression_depth e) (group at e) (expression_before total) (mark_shape mark.CloseParenthesis) expression (expect mark.CloseParenthesis) (λ e u. group n e) e tt (law e) (expect_lands total b mark.CloseParenthesis tt)
        (n + 1) ks (omega arith) ((indexed.0.1, omega arith), tt) (λ d. omega arith) (ap (λ a. group a e) same_at)
    factor_lands (negated at f) n ks placed indexed =
        let same_at : n ≡ at = omega (arith, indexed.0.0) in
        land_one total b (b < suc (factor_depth f)) (negated at f) (deeper_before total) deeper (λ f. negated n f) f (below f) (n + 1) ks (omega arith) (indexed.0.1, indexed.1) (λ d. d) (ap (λ a. negated a f) same_at)
    factor_lands (set_of at es) n ks placed indexed = subst (λ (es : Expressions). LandsOn total b (factor_before total) (factor_with expression deeper) (set_of at es)) (expressions_back es) (set_lands at (expressions_list es)) n ks placed indexed

-- ---- the recursion

at_least_one : (e : Expression) → 0 < expression_depth e
at_least_one (alone at s) = omega arith
at_least_one (related at s r t) = omega arith

mutual
  unfolding expression deeper

  pub expression_lands : (total b : ℕ) → LandsAll total b (expression_before total) (expression b)
  expression_lands total zero e n ks placed indexed = at_least_one e
  expression_lands total (suc b) e n ks placed indexed = expression_with_lands total b (factor_with (expression b) (deeper b)) (factor_lands total b (expression b) (expression_lands total b) (deeper b) (deeper_lands total b)) e n ks placed indexed

  deeper_lands : (total b : ℕ) → LandsAll total b (deeper_before total) (deeper b)
  deeper_lands total zero f n ks placed indexed = omega arith
  deeper_lands total (suc b) f n ks placed indexed = lands_map total (b < factor_depth f) (suc b < suc (factor_depth f)) (factor_with (expression b) (deeper b) (on n (put_factor f ks))) f ks (factor_lands total b (expression b) (expression_lands total b) (deeper b) (deeper_lands total b) f n ks placed indexed) (λ d. omega arith)
