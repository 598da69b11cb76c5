-- The results of the calls of a statement have their cells, and so have those of the calls inside each of these.
use Rattle.cp_machine_laws.proofs.Words.{◌≡◌, ◌∙◌, ℕ, Bool, true, false, List, [], ◌∷◌, ◌++◌, Option, Some, None, ap, sym, temporary, Ty, Item, function_call, RoutineMeaning}
use Rattle.cp_machine_laws.proofs.Words.{result_type, result_called, routine_called, Here, Ground, ResultGoes, CallItem, CallsAre, IsKept, AreKept}
use Rattle.cp_tree.specs.Syntax.{Expression, alone, related, Sum, sum, Terms, no_terms, more_terms, Term, term, Factors, no_factors, more_factors, Factor, named, group, negated, set_of, Expressions, no_expressions, more_expressions, Designator, designator, Selectors, no_selectors, more_selectors, Selector, field, index}
use Rattle.cp_meaning.specs.Lifting.{is_call, own_call, expression_calls, sum_calls, terms_calls, term_calls, factors_calls, factor_calls, expressions_calls, designator_calls, selectors_calls, selector_calls}

-- ---- lists of calls

pub kept_left : (h : Here) (xs ys : List Item) → AreKept h (xs ++ ys) → AreKept h xs
kept_left h [] ys k = tt
kept_left h (function_call at d es ∷ xs) ys k = (k.0, kept_left h xs ys k.1)
kept_left h _ ys k = absurd k

pub kept_right : (h : Here) (xs ys : List Item) → AreKept h (xs ++ ys) → AreKept h ys
kept_right h [] ys k = k
kept_right h (function_call at d es ∷ xs) ys k = kept_right h xs ys k.1
kept_right h _ ys k = absurd k

-- ---- the calls that stand before a statement

call_kept : (g : Ground) (h : Here) (n at : ℕ) (d : Designator) (es : Expressions) (next : Option ℕ) → CallItem g h n at d es (Some (temporary at)) next → IsKept h at d
call_kept g h n at d es next c = go c.called.routine c.called.called (h.layouts.meanings c.number).result (ap (λ (r : RoutineMeaning). r.result) c.called.same) c.taken
  where
    go : (r : RoutineMeaning) → routine_called h.program h.scope d ≡ Some r → (o : Option Ty) → r.result ≡ o → ResultGoes h (Some (temporary at)) o → IsKept h at d
    go r e None k t = absurd t
    go r e (Some u) k t = t ∙ sym (ap (λ w. Some (result_called w)) e ∙ ap (λ w. Some (result_type w)) k)

pub calls_kept : (g : Ground) (h : Here) (first last : Option ℕ) (xs : List Item) → CallsAre g h first xs last → AreKept h xs
calls_kept g h first last [] c = tt
calls_kept g h first last (function_call at d es ∷ xs) c = (call_kept g h c.0 at d es c.1 c.3, calls_kept g h c.1 last xs c.4)
calls_kept g h first last _ c = absurd c

-- ---- the calls inside calls

abbrev pub InnerKept : Here → List Item → Type 0
InnerKept h [] = Unit {0}
InnerKept h (function_call at d es ∷ items) = AreKept h (designator_calls h.scope d ++ expressions_calls h.scope es) × InnerKept h items
InnerKept h (i ∷ items) = ⊥

pub inner_both : (h : Here) (xs ys : List Item) → InnerKept h xs → InnerKept h ys → InnerKept h (xs ++ ys)
inner_both h [] ys k j = j
inner_both h (function_call at d es ∷ xs) ys k j = (k.0, inner_both h xs ys k.1 j)
inner_both h _ ys k j = absurd k

own_inner : (h : Here) (b : Bool) (at : ℕ) (d : Designator) (es : Expressions) → AreKept h (designator_calls h.scope d ++ expressions_calls h.scope es) → InnerKept h (own_call b at d es)
own_inner h true at d es k = (k, tt)
own_inner h false at d es k = tt

mutual
  pub expression_inner : (h : Here) (e : Expression) → AreKept h (expression_calls h.scope e) → InnerKept h (expression_calls h.scope e)
  expression_inner h (alone at a) k = sum_inner h a k
  expression_inner h (related at a q b) k =
      inner_both h (sum_calls h.scope a) (sum_calls h.scope b) (sum_inner h a (kept_left h (sum_calls h.scope a) (sum_calls h.scope b) k)) (sum_inner h b (kept_right h (sum_calls h.scope a) (sum_calls h.scope b) k))

  sum_inner : (h : Here) (a : Sum) → AreKept h (sum_calls h.scope a) → InnerKept h (sum_calls h.scope a)
  sum_inner h (sum at o t ts) k =
      inner_both h (term_calls h.scope t) (terms_calls h.scope ts) (term_inner h t (kept_left h (term_calls h.scope t) (terms_calls h.scope ts) k)) (terms_inner h ts (kept_right h (term_calls h.scope t) (terms_calls h.scope ts) k))

  terms_inner : (h : Here) (ts : Terms) → AreKept h (terms_calls h.scope ts) → InnerKept h (terms_calls h.scope ts)
  terms_inner h no_terms k = tt
  terms_inner h (more_terms op t ts) k =
      inner_both h (term_calls h.scope t) (terms_calls h.scope ts) (term_inner h t (kept_left h (term_calls h.scope t) (terms_calls h.scope ts) k)) (terms_inner h ts (kept_right h (term_calls h.scope t) (terms_calls h.scope ts) k))

  term_inner : (h : Here) (t : Term) → AreKept h (term_calls h.scope t) → InnerKept h (term_calls h.scope t)
  term_inner h (term at f fs) k =
      inner_both h (factor_calls h.scope f) (factors_calls h.scope fs) (factor_inner h f (kept_left h (factor_calls h.scope f) (factors_calls h.scope fs) k)) (factors_inner h fs (kept_right h (factor_calls h.scope f) (factors_calls h.scope fs) k))

  factors_inner : (h : Here) (fs : Factors) → AreKept h (factors_calls h.scope fs) → InnerKept h (factors_calls h.scope fs)
  factors_inner h no_factors k = tt
  factors_inner h (more_factors op f fs) k =
      inner_both h (factor_calls h.scope f) (factors_calls h.scope fs) (factor_inner h f (kept_left h (factor_calls h.scope f) (factors_calls h.scope fs) k)) (factors_inner h fs (kept_right h (factor_calls h.scope f) (factors_calls h.scope fs) k))

  factor_inner : (h : Here) (f : Factor) → AreKept h (factor_calls h.scope f) → InnerKept h (factor_calls h.scope f)
  factor_inner h (named at d es) k =
      let both = kept_left h (designator_calls h.scope d ++ expressions_calls h.scope es) (own_call (is_call h.scope d) at d es) k in
      inner_both h (designator_calls h.scope d ++ expressions_calls h.scope es) (own_call (is_call h.scope d) at d es)
      (inner_both h (designator_calls h.scope d) (expressions_calls h.scope es) (designator_inner h d (kept_left h (designator_calls h.scope d) (expressions_calls h.scope es) both)) (expressions_inner h es (kept_right h (designator_calls h.scope d) (expressions_calls h.scope es) both)))
      (own_inner h (is_call h.scope d) at d es both)
  factor_inner h (group at e) k = expression_inner h e k
  factor_inner h (negated at f) k = factor_inner h f k
  factor_inner h (set_of at es) k = expressions_inner h es k
  factor_inner h _ k = tt

  pub expressions_inner : (h : Here) (es : Expressions) → AreKept h (expressions_calls h.scope es) → InnerKept h (expressions_calls h.scope es)
  expressions_inner h no_expressions k = tt
  expressions_inner h (more_expressions e es) k =
      inner_both h (expression_calls h.scope e) (expressions_calls h.scope es) (expression_inner h e (kept_left h (expression_calls h.scope e) (expressions_calls h.scope es) k)) (expressions_inner h es (kept_right h (expression_calls h.scope e) (expressions_calls h.scope es) k))

  pub designator_inner : (h : Here) (d : Designator) → AreKept h (designator_calls h.scope d) → InnerKept h (designator_calls h.scope d)
  designator_inner h (designator i ss) k = selectors_inner h ss k

  selectors_inner : (h : Here) (ss : Selectors) → AreKept h (selectors_calls h.scope ss) → InnerKept h (selectors_calls h.scope ss)
  selectors_inner h no_selectors k = tt
  selectors_inner h (more_selectors c cs) k =
      inner_both h (selector_calls h.scope c) (selectors_calls h.scope cs) (selector_inner h c (kept_left h (selector_calls h.scope c) (selectors_calls h.scope cs) k)) (selectors_inner h cs (kept_right h (selector_calls h.scope c) (selectors_calls h.scope cs) k))

  selector_inner : (h : Here) (c : Selector) → AreKept h (selector_calls h.scope c) → InnerKept h (selector_calls h.scope c)
  selector_inner h (field i) k = tt
  selector_inner h (index e) k = expression_inner h e k
