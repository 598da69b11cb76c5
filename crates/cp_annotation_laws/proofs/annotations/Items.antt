-- What is still to be done without annotations.
use Rattle.std.proofs.Common.{◌≡◌, ◌∙◌, inl, ℕ, Bool, true, false, if◌then◌else◌, List, [], ◌∷◌, ◌++◌, Option, Some, None, ap, sym, refl, subst}
use Rattle.std.proofs.lemmas.List.{append_assoc}
use Rattle.std.proofs.lemmas.Slice.Eq.{bytes_eq-Decides}
use Rattle.cp_tree.specs.Syntax.{Expression, alone, related, Sum, sum, Terms, no_terms, more_terms, Term, term, Factors, no_factors, more_factors, Factor, number, character, named, group, negated, set_of, Expressions, no_expressions, more_expressions, Designator, designator, Selectors, no_selectors, more_selectors, Selector, field, index, Start, Statement, empty, assign, invoke, block, if_then, if_else, case_of, while_do, repeat_until, for_do, cycle, init, asserted, nameless, Statements, no_statements, more_statements}
use Rattle.cp_meaning.specs.Names.{same_name}
use Rattle.cp_meaning.specs.Scopes.{Meaning, Scope, find, constant_meaning, type_meaning, local_variable, permanent_variable, routine_meaning, standard_meaning}
use Rattle.cp_meaning.specs.State.{Item, statement_item, function_call, start_item, until, successor, return, init_end, end, Call, callers, entry_routine}
use Rattle.cp_meaning.specs.Calls.{last_checks}
use Rattle.cp_meaning.specs.Lifting.{is_call, own_call, expression_calls, sum_calls, terms_calls, term_calls, factors_calls, factor_calls, expressions_calls, designator_calls, selectors_calls, selector_calls, start_items, has_invariants, check_statement, check_items, waits_meant, first_name, checks_before, items_of, items_of_all, until_items}
use Rattle.cp_meaning.specs.LocalRules.{after_return}
use Rattle.cp_meaning.proofs.Frames.{Frame, ItemsFit}
use Rattle.cp_machine_laws.specs.Bodies.{AllStand, listed}
use Rattle.cp_machine_laws.proofs.reached.BodyItems.{statement_stands}
use Rattle.cp_resolved.specs.Small.{Each}
use Rattle.cp_annotation_laws.specs.Plain.{plain_statement, plain_statements}
use Rattle.cp_annotation_laws.proofs.annotations.Scopes.{IsSpoken, plain_scope, plain_found, find_plain, no_invariants}
use Rattle.cp_annotation_laws.proofs.annotations.Spoken.{SpokenExpression, SpokenSum, SpokenTerms, SpokenTerm, SpokenFactors, SpokenFactor, SpokenExpressions, SpokenDesignator, SpokenSelectors, SpokenSelector, SpokenStart, IsFine, AreFine}
use Rattle.cp_annotation_laws.proofs.annotations.Values.{is_call_plain}

-- ---- the items of a process that is in no check; the scopes are those of its open calls

abbrev pub is_check : Designator → Bool
is_check d = same_name nameless (first_name d)

abbrev pub plain_one : Scope → Statement → List Item
plain_one s (asserted at k e t) = items_of (plain_scope s) (plain_statement t)
plain_one s (invoke at d es) = if is_check d then [] else statement_item (invoke at d es) ∷ []
plain_one s t = statement_item (plain_statement t) ∷ []

abbrev pub top : List Scope → Scope
top [] = []
top (s ∷ ss) = s

abbrev pub under : List Scope → List Scope
under [] = []
under (s ∷ ss) = ss

abbrev pub bare_items : List Scope → List Item → List Item
bare_items ss [] = []
bare_items ss (statement_item t ∷ items) = plain_one (top ss) t ++ bare_items ss items
bare_items ss (function_call at d es ∷ items) = function_call at d es ∷ bare_items ss items
bare_items ss (start_item t ∷ items) = start_item t ∷ bare_items ss items
bare_items ss (until ts e ∷ items) = until (plain_statements ts) e ∷ bare_items ss items
bare_items ss (successor at i z d b t ∷ items) = successor at i z d b (plain_statement t) ∷ bare_items ss items
bare_items ss (return o ∷ items) = return o ∷ bare_items (under ss) items
bare_items ss (init_end m ∷ items) = init_end m ∷ bare_items (under ss) items
bare_items ss (end ∷ items) = end ∷ bare_items ss items

abbrev pub scopes_of : List Call → List Scope
scopes_of [] = []
scopes_of (c ∷ cs) = c.scope ∷ scopes_of cs

pub scopes_callers : (cs : List Call) → scopes_of (callers cs) ≡ under (scopes_of cs)
scopes_callers [] = refl
scopes_callers (c ∷ cs) = refl

-- ---- lists of items that become others in the innermost call

module _ (s : Scope) (ss : List Scope) where
  pub record Become (xs ys : List Item) : Type 0 where
    pub on : (items : List Item) → bare_items (s ∷ ss) (xs ++ items) ≡ ys ++ bare_items (s ∷ ss) items

  pub become_both : (xs xs' ys ys' : List Item) → Become xs ys → Become xs' ys' → Become (xs ++ xs') (ys ++ ys')
  become_both xs xs' ys ys' h k =
      record {
        on = λ items.
            ap (bare_items (s ∷ ss)) (append_assoc xs xs' items)
            ∙ (h.on (xs' ++ items)
            ∙ (ap (λ zs. ys ++ zs) (k.on items)
            ∙ sym (append_assoc ys ys' (bare_items (s ∷ ss) items))));
      }

  become_none : Become [] []
  become_none = record { on = λ items. refl }

  become_call : (at : ℕ) (d : Designator) (es : Expressions) (a b : Bool) → a ≡ b → Become (own_call b at d es) (own_call a at d es)
  become_call at d es a b e = subst (λ (x : Bool). Become (own_call b at d es) (own_call x at d es)) (sym e) (go b)
    where
      go : (x : Bool) → Become (own_call x at d es) (own_call x at d es)
      go true = record { on = λ items. refl }
      go false = record { on = λ items. refl }

  -- ---- function calls

  mutual
    pub expression_becomes : (e : Expression) → SpokenExpression e → Become (expression_calls s e) (expression_calls (plain_scope s) e)
    expression_becomes (alone at a) h = sum_becomes a h
    expression_becomes (related at a r b) h = become_both _ _ _ _ (sum_becomes a h.0) (sum_becomes b h.1)

    sum_becomes : (a : Sum) → SpokenSum a → Become (sum_calls s a) (sum_calls (plain_scope s) a)
    sum_becomes (sum at o t ts) h = become_both _ _ _ _ (term_becomes t h.0) (terms_become ts h.1)

    terms_become : (ts : Terms) → SpokenTerms ts → Become (terms_calls s ts) (terms_calls (plain_scope s) ts)
    terms_become no_terms h = become_none
    terms_become (more_terms op t ts) h = become_both _ _ _ _ (term_becomes t h.0) (terms_become ts h.1)

    term_becomes : (t : Term) → SpokenTerm t → Become (term_calls s t) (term_calls (plain_scope s) t)
    term_becomes (term at f fs) h = become_both _ _ _ _ (factor_becomes f h.0) (factors_become fs h.1)

    factors_become : (fs : Factors) → SpokenFactors fs → Become (factors_calls s fs) (factors_calls (plain_scope s) fs)
    factors_become no_factors h = become_none
    factors_become (more_factors op f fs) h = become_both _ _ _ _ (factor_becomes f h.0) (factors_become fs h.1)

    factor_becomes : (f : Factor) → SpokenFactor f → Become (factor_calls s f) (factor_calls (plain_scope s) f)
    factor_becomes (number at n) h = become_none
    factor_becomes (character at c) h = become_none
    factor_becomes (named at d es) h =
        become_both _ _ _ _ (become_both _ _ _ _ (designator_becomes d h.0) (expressions_become es h.1))
        (become_call at d es (is_call (plain_scope s) d) (is_call s d) (is_call_plain s d h.0))
    factor_becomes (group at e) h = expression_becomes e h
    factor_becomes (negated at f) h = factor_becomes f h
    factor_becomes (set_of at es) h = expressions_become es h

    pub expressions_become : (es : Expressions) → SpokenExpressions es → Become (expressions_calls s es) (expressions_calls (plain_scope s) es)
    expressions_become no_expressions h = become_none
    expressions_become (more_expressions e es) h = become_both _ _ _ _ (expression_becomes e h.0) (expressions_become es h.1)

    pub designator_becomes : (d : Designator) → SpokenDesignator d → Become (designator_calls s d) (designator_calls (plain_scope s) d)
    designator_becomes (designator i cs) h = selectors_become cs h.1

    selectors_become : (cs : Selectors) → SpokenSelectors cs → Become (selectors_calls s cs) (selectors_calls (plain_scope s) cs)
    selectors_become no_selectors h = become_none
    selectors_become (more_selectors c cs) h = become_both _ _ _ _ (selector_becomes c h.0) (selectors_become cs h.1)

    selector_becomes : (c : Selector) → SpokenSelector c → Become (selector_calls s c) (selector_calls (plain_scope s) c)
    selector_becomes (field i) h = become_none
    selector_becomes (index e) h = expression_becomes e h

  starts_become : (ts : List Start) → Each SpokenStart ts → Become (start_items s ts) (start_items (plain_scope s) ts)
  starts_become [] h = become_none
  starts_become (t ∷ ts) h =
      become_both _ _ _ _ (become_both _ _ _ _ (designator_becomes t.target h.0.0) (expressions_become t.arguments h.0.1))
      (record { on = λ items. ap (λ zs. start_item t ∷ zs) ((starts_become ts h.1).on items) })

  -- ---- checks go

  check_goes : (at : ℕ) → Become (check_items at s) []
  check_goes at = go (has_invariants s)
    where
      go : (b : Bool) → Become (if b then statement_item (check_statement at) ∷ [] else []) []
      go true = record { on = λ items. refl }
      go false = record { on = λ items. refl }

  no_check : (at : ℕ) → check_items at (plain_scope s) ≡ []
  no_check at = ap (λ (b : Bool). if b then statement_item (check_statement at) ∷ [] else []) (no_invariants s)

  pub check_becomes : (at : ℕ) → Become (check_items at s) (check_items at (plain_scope s))
  check_becomes at = subst (λ (xs : List Item). Become (check_items at s) xs) (sym (no_check at)) (check_goes at)

  pub last_becomes : (b : Bool) → Become (last_checks b s) (last_checks b (plain_scope s))
  last_becomes true = check_becomes 0
  last_becomes false = become_none

  waits_plain : (m : Option Meaning) → waits_meant (plain_found m) ≡ waits_meant m
  waits_plain None = refl
  waits_plain (Some (standard_meaning t)) = refl
  waits_plain (Some (constant_meaning b z)) = refl
  waits_plain (Some (type_meaning t)) = refl
  waits_plain (Some (local_variable t)) = refl
  waits_plain (Some (permanent_variable t)) = refl
  waits_plain (Some (routine_meaning r)) = refl

  first_spoken : (d : Designator) → SpokenDesignator d → IsSpoken (first_name d)
  first_spoken (designator i cs) h = h.0

  before_becomes : (at : ℕ) (d : Designator) → SpokenDesignator d → Become (checks_before at s d) (checks_before at (plain_scope s) d)
  before_becomes at d h =
      subst (λ (b : Bool). Become (checks_before at s d) (if b then check_items at (plain_scope s) else []))
      (sym (ap waits_meant (find_plain (first_name d) s (first_spoken d h)) ∙ waits_plain (find (first_name d) s)))
      (go (waits_meant (find (first_name d) s)))
    where
      go : (b : Bool) → Become (if b then check_items at s else []) (if b then check_items at (plain_scope s) else [])
      go true = check_becomes at
      go false = become_none

  -- ---- statements

  pub not_check : (d : Designator) → SpokenDesignator d → is_check d ≡ false
  not_check d h = go (is_check d) refl
    where
      go : (b : Bool) → is_check d ≡ b → b ≡ false
      go false e = refl
      go true e = absurd (first_spoken d h (sym ((bytes_eq-Decides nameless (first_name d)).0 e)))

  invoke_becomes : (at : ℕ) (d : Designator) (es : Expressions) → SpokenDesignator d → Become (statement_item (invoke at d es) ∷ []) (statement_item (invoke at d es) ∷ [])
  invoke_becomes at d es h = record { on = λ items. ap (λ (b : Bool). (if b then [] else statement_item (invoke at d es) ∷ []) ++ bare_items (s ∷ ss) items) (not_check d h) }

  pub items_become : (t : Statement) → IsFine s t → Become (items_of s t) (items_of (plain_scope s) (plain_statement t))
  items_become (init at ts) h = starts_become ts h
  items_become (assign at d e) h = become_both _ _ _ _ (become_both _ _ _ _ (designator_becomes d h.0) (expression_becomes e h.1)) (record { on = λ items. refl })
  items_become (invoke at d es) h =
      become_both _ _ _ _ (become_both _ _ _ _ (become_both _ _ _ _ (designator_becomes d h.0) (expressions_become es h.1)) (before_becomes at d h.0)) (invoke_becomes at d es h.0)
  items_become (if_then at e t) h = become_both _ _ _ _ (expression_becomes e h.0) (record { on = λ items. refl })
  items_become (if_else at e t u) h = become_both _ _ _ _ (expression_becomes e h.0) (record { on = λ items. refl })
  items_become (case_of at e as' b) h = become_both _ _ _ _ (expression_becomes e h.0) (record { on = λ items. refl })
  items_become (while_do at e t) h = become_both _ _ _ _ (expression_becomes e h.0) (record { on = λ items. refl })
  items_become (for_do at i e d f t) h = become_both _ _ _ _ (become_both _ _ _ _ (expression_becomes e h.1) (expression_becomes f h.2)) (record { on = λ items. refl })
  items_become (empty at) h = record { on = λ items. refl }
  items_become (block at ts) h = record { on = λ items. refl }
  items_become (repeat_until at ts e) h = record { on = λ items. refl }
  items_become (cycle at ts) h = record { on = λ items. refl }
  items_become (asserted at k e t) h = subst (λ (xs : List Item). Become (xs ++ statement_item (asserted at k e t) ∷ []) (items_of (plain_scope s) (plain_statement t))) (sym h.1) (record { on = λ items. refl })

  pub all_become : (ts : Statements) → AreFine s ts → Become (items_of_all s ts) (items_of_all (plain_scope s) (plain_statements ts))
  all_become no_statements h = become_none
  all_become (more_statements t ts) h = become_both _ _ _ _ (items_become t h.0) (all_become ts h.1)

  pub until_become : (ts : Statements) (e : Expression) → SpokenExpression e → Become (until_items s ts e) (until_items (plain_scope s) (plain_statements ts) e)
  until_become ts e h = become_both _ _ _ _ (expression_becomes e h) (record { on = λ items. refl })

-- ---- what follows the innermost call

abbrev IsClosed : List Item → Type 0
IsClosed xs = (ys : List Item) → after_return (xs ++ ys) ≡ after_return ys

stands_closed : (s : Scope) (body : Statements) (xs : List Item) → AllStand s body xs → IsClosed xs
stands_closed s body [] h ys = refl
stands_closed s body (return o ∷ xs) h ys = absurd h.0
stands_closed s body (init_end m ∷ xs) h ys = absurd h.0
stands_closed s body (end ∷ xs) h ys = absurd h.0
stands_closed s body (statement_item t ∷ xs) h ys = stands_closed s body xs h.1 ys
stands_closed s body (function_call at d es ∷ xs) h ys = stands_closed s body xs h.1 ys
stands_closed s body (start_item t ∷ xs) h ys = stands_closed s body xs h.1 ys
stands_closed s body (until ts e ∷ xs) h ys = stands_closed s body xs h.1 ys
stands_closed s body (successor at i z d b t ∷ xs) h ys = stands_closed s body xs h.1 ys

items_closed : (s : Scope) (t : Statement) → IsClosed (items_of s t)
items_closed s t = stands_closed s (more_statements t no_statements) (items_of s t) (statement_stands s (more_statements t no_statements) t (listed t (inl refl)))

one_closed : (s : Scope) (t : Statement) → IsClosed (plain_one s t)
one_closed s (asserted at k e t) ys = items_closed (plain_scope s) (plain_statement t) ys
one_closed s (invoke at d es) ys = go (is_check d)
  where
    go : (b : Bool) → after_return ((if b then [] else statement_item (invoke at d es) ∷ []) ++ ys) ≡ after_return ys
    go true = refl
    go false = refl
one_closed s _ ys = refl

pub after_bare : (ss : List Scope) (n : ℕ) (fs : List Frame) (items : List Item) → ItemsFit ((entry_routine, n) ∷ fs) items → bare_items (under ss) (after_return items) ≡ after_return (bare_items ss items)
after_bare ss n fs [] h = refl
after_bare ss n fs (return o ∷ items) h = refl
after_bare ss n fs (init_end m ∷ items) h = absurd h.0
after_bare ss n fs (statement_item t ∷ items) h = after_bare ss n fs items h ∙ sym (one_closed (top ss) t (bare_items ss items))
after_bare ss n fs (function_call at d es ∷ items) h = after_bare ss n fs items h
after_bare ss n fs (start_item t ∷ items) h = after_bare ss n fs items h
after_bare ss n fs (until ts e ∷ items) h = after_bare ss n fs items h
after_bare ss n fs (successor at i z d b t ∷ items) h = after_bare ss n fs items h
after_bare ss n fs (end ∷ items) h = after_bare ss n fs items h
