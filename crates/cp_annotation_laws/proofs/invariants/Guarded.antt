-- Directly before each item behind which a component may be left stands a check, where its block has invariants.
use Rattle.std.proofs.Common.{◌≡◌, ◌∙◌, ℕ, Bool, true, false, ◌&&◌, if◌then◌else◌, List, [], ◌∷◌, ◌++◌, Option, Some, append_assoc, sym, refl, subst}
use Rattle.cp_tree.specs.Syntax.{Expression, alone, related, Sum, sum, Terms, no_terms, more_terms, Term, term, Factors, no_factors, more_factors, Factor, number, character, named, group, negated, set_of, Expressions, no_expressions, more_expressions, Designator, designator, Selectors, no_selectors, more_selectors, Selector, field, index, nameless, Start, Statement, empty, assign, invoke, block, if_then, if_else, case_of, while_do, repeat_until, for_do, cycle, init, asserted, Statements, no_statements, more_statements}
use Rattle.cp_meaning.specs.Names.{Name, same_name}
use Rattle.cp_meaning.specs.Scopes.{Meaning, routine_meaning, Scope, find}
use Rattle.cp_meaning.specs.State.{CallKind, own_statement, initial_statement, entry_routine, Call, Item, statement_item, function_call, start_item, until, successor, return, init_end, end, is_entry_kind}
use Rattle.cp_meaning.specs.Calls.{last_checks}
use Rattle.cp_meaning.specs.LocalRules.{after_return}
use Rattle.cp_meaning.specs.Lifting.{own_call, is_call, expression_calls, sum_calls, terms_calls, term_calls, factors_calls, factor_calls, expressions_calls, designator_calls, selectors_calls, selector_calls, start_items, is_routine_meant, has_invariants, check_statement, check_items, waits_meant, first_name, checks_before, items_of, items_of_all, until_items}
use Rattle.cp_meaning.proofs.Frames.{Frame, ItemsFit}

-- ---- open calls, by their kinds and scopes

abbrev pub Outline : Type 0
Outline = CallKind × Scope

abbrev pub outlines : List Call → List Outline
outlines [] = []
outlines (c ∷ cs) = (c.kind, c.scope) ∷ outlines cs

abbrev pub top_scope : List Outline → Scope
top_scope [] = []
top_scope (f ∷ fs) = f.1

abbrev pub outer_ones : List Outline → List Outline
outer_ones [] = []
outer_ones (f ∷ fs) = fs

-- ---- items

-- an entry ends before whose end invariants are looked at
abbrev pub ends_checked : List Outline → Bool
ends_checked [] = false
ends_checked (f ∷ fs) = is_entry_kind f.0 && has_invariants f.1

-- a `delay` or `continue` before which they are
abbrev pub waits_checked : Scope → Statement → Bool
waits_checked s (invoke at d es) = waits_meant (find (first_name d) s) && has_invariants s
waits_checked s t = false

abbrev pub is_check : Statement → Bool
is_check (invoke at (designator i no_selectors) no_expressions) = same_name nameless i.name
is_check t = false

-- b: whether a check was done directly before
abbrev pub Guarded : Bool → List Outline → List Item → Type 0
Guarded b fs [] = Unit {0}
Guarded b fs (return o ∷ items) = (ends_checked fs ≡ true → b ≡ true) × Guarded false (outer_ones fs) items
Guarded b fs (init_end m ∷ items) = (has_invariants (top_scope fs) ≡ true → b ≡ true) × Guarded false (outer_ones fs) items
Guarded b fs (statement_item t ∷ items) = (waits_checked (top_scope fs) t ≡ true → b ≡ true) × Guarded (is_check t) fs items
Guarded b fs (function_call at d es ∷ items) = Guarded false fs items
Guarded b fs (start_item t ∷ items) = Guarded false fs items
Guarded b fs (until ss e ∷ items) = Guarded false fs items
Guarded b fs (successor at i z d last s ∷ items) = Guarded false fs items
Guarded b fs (end ∷ items) = Guarded false fs items

-- items of one call, but for its end
abbrev pub Own : Bool → Scope → List Item → Type 0
Own b s [] = Unit {0}
Own b s (return o ∷ items) = ⊥
Own b s (init_end m ∷ items) = ⊥
Own b s (statement_item t ∷ items) = (waits_checked s t ≡ true → b ≡ true) × Own (is_check t) s items
Own b s (function_call at d es ∷ items) = Own false s items
Own b s (start_item t ∷ items) = Own false s items
Own b s (until ss e ∷ items) = Own false s items
Own b s (successor at i z d last t ∷ items) = Own false s items
Own b s (end ∷ items) = Own false s items

never_false : {A : Type 0} → false ≡ true → A
never_false e = absurd (let bad : false ≡ true = e in cc)

pub guarded_any : (b : Bool) (fs : List Outline) (items : List Item) → Guarded false fs items → Guarded b fs items
guarded_any b fs [] g = tt
guarded_any b fs (return o ∷ items) g = ((λ h. never_false (g.0 h)), g.1)
guarded_any b fs (init_end m ∷ items) g = ((λ h. never_false (g.0 h)), g.1)
guarded_any b fs (statement_item t ∷ items) g = ((λ h. never_false (g.0 h)), g.1)
guarded_any b fs (function_call at d es ∷ items) g = g
guarded_any b fs (start_item t ∷ items) g = g
guarded_any b fs (until ss e ∷ items) g = g
guarded_any b fs (successor at i z d last s ∷ items) g = g
guarded_any b fs (end ∷ items) g = g

own_any : (b : Bool) (s : Scope) (items : List Item) → Own false s items → Own b s items
own_any b s [] g = tt
own_any b s (return o ∷ items) g = absurd g
own_any b s (init_end m ∷ items) g = absurd g
own_any b s (statement_item t ∷ items) g = ((λ h. never_false (g.0 h)), g.1)
own_any b s (function_call at d es ∷ items) g = g
own_any b s (start_item t ∷ items) g = g
own_any b s (until ss e ∷ items) g = g
own_any b s (successor at i z d last t ∷ items) g = g
own_any b s (end ∷ items) g = g

pub own_append : (b : Bool) (s : Scope) (xs ys : List Item) → Own b s xs → Own false s ys → Own b s (xs ++ ys)
own_append b s [] ys h g = own_any b s ys g
own_append b s (return o ∷ xs) ys h g = absurd h
own_append b s (init_end m ∷ xs) ys h g = absurd h
own_append b s (statement_item t ∷ xs) ys h g = (h.0, own_append (is_check t) s xs ys h.1 g)
own_append b s (function_call at d es ∷ xs) ys h g = own_append false s xs ys h g
own_append b s (start_item t ∷ xs) ys h g = own_append false s xs ys h g
own_append b s (until ss e ∷ xs) ys h g = own_append false s xs ys h g
own_append b s (successor at i z d last t ∷ xs) ys h g = own_append false s xs ys h g
own_append b s (end ∷ xs) ys h g = own_append false s xs ys h g

pub guarded_append : (b : Bool) (fs : List Outline) (xs ys : List Item) → Own b (top_scope fs) xs → Guarded false fs ys → Guarded b fs (xs ++ ys)
guarded_append b fs [] ys h g = guarded_any b fs ys g
guarded_append b fs (return o ∷ xs) ys h g = absurd h
guarded_append b fs (init_end m ∷ xs) ys h g = absurd h
guarded_append b fs (statement_item t ∷ xs) ys h g = (h.0, guarded_append (is_check t) fs xs ys h.1 g)
guarded_append b fs (function_call at d es ∷ xs) ys h g = guarded_append false fs xs ys h g
guarded_append b fs (start_item t ∷ xs) ys h g = guarded_append false fs xs ys h g
guarded_append b fs (until ss e ∷ xs) ys h g = guarded_append false fs xs ys h g
guarded_append b fs (successor at i z d last t ∷ xs) ys h g = guarded_append false fs xs ys h g
guarded_append b fs (end ∷ xs) ys h g = guarded_append false fs xs ys h g

-- what comes after the return of an entry
pub guarded_after : (b : Bool) (n : ℕ) (f : Outline) (fs : List Outline) (gs : List Frame) (items : List Item) → ItemsFit ((entry_routine, n) ∷ gs) items → Guarded b (f ∷ fs) items → Guarded false fs (after_return items)
guarded_after b n f fs gs [] h g = tt
guarded_after b n f fs gs (return o ∷ items) h g = g.1
guarded_after b n f fs gs (init_end m ∷ items) h g = absurd h.0
guarded_after b n f fs gs (statement_item t ∷ items) h g = guarded_after (is_check t) n f fs gs items h g.1
guarded_after b n f fs gs (function_call at d es ∷ items) h g = guarded_after false n f fs gs items h g
guarded_after b n f fs gs (start_item t ∷ items) h g = guarded_after false n f fs gs items h g
guarded_after b n f fs gs (until ss e ∷ items) h g = guarded_after false n f fs gs items h g
guarded_after b n f fs gs (successor at i z d last t ∷ items) h g = guarded_after false n f fs gs items h g
guarded_after b n f fs gs (end ∷ items) h g = guarded_after false n f fs gs items h g

-- ---- lifted calls

own_calls : (b : Bool) (s : Scope) (at : ℕ) (d : Designator) (es : Expressions) → Own false s (own_call b at d es)
own_calls true s at d es = tt
own_calls false s at d es = tt

mutual
  own_expression : (s : Scope) (e : Expression) → Own false s (expression_calls s e)
  own_expression s (alone at a) = own_sum s a
  own_expression s (related at a r b) = own_append false s (sum_calls s a) (sum_calls s b) (own_sum s a) (own_sum s b)

  own_sum : (s : Scope) (a : Sum) → Own false s (sum_calls s a)
  own_sum s (sum at o t ts) = own_append false s (term_calls s t) (terms_calls s ts) (own_term s t) (own_terms s ts)

  own_terms : (s : Scope) (ts : Terms) → Own false s (terms_calls s ts)
  own_terms s no_terms = tt
  own_terms s (more_terms op t ts) = own_append false s (term_calls s t) (terms_calls s ts) (own_term s t) (own_terms s ts)

  own_term : (s : Scope) (t : Term) → Own false s (term_calls s t)
  own_term s (term at f fs) = own_append false s (factor_calls s f) (factors_calls s fs) (own_factor s f) (own_factors s fs)

  own_factors : (s : Scope) (fs : Factors) → Own false s (factors_calls s fs)
  own_factors s no_factors = tt
  own_factors s (more_factors op f fs) = own_append false s (factor_calls s f) (factors_calls s fs) (own_factor s f) (own_factors s fs)

  own_factor : (s : Scope) (f : Factor) → Own false s (factor_calls s f)
  own_factor s (named at d es) =
      own_append false s (designator_calls s d ++ expressions_calls s es) (own_call (is_call s d) at d es) (own_append false s (designator_calls s d) (expressions_calls s es) (own_designator s d) (own_expressions s es)) (own_calls (is_call s d) s at d es)
  own_factor s (group at e) = own_expression s e
  own_factor s (negated at f) = own_factor s f
  own_factor s (set_of at es) = own_expressions s es
  own_factor s (number at n) = tt
  own_factor s (character at c) = tt

  own_expressions : (s : Scope) (es : Expressions) → Own false s (expressions_calls s es)
  own_expressions s no_expressions = tt
  own_expressions s (more_expressions e es) = own_append false s (expression_calls s e) (expressions_calls s es) (own_expression s e) (own_expressions s es)

  own_designator : (s : Scope) (d : Designator) → Own false s (designator_calls s d)
  own_designator s (designator i ss) = own_selectors s ss

  own_selectors : (s : Scope) (cs : Selectors) → Own false s (selectors_calls s cs)
  own_selectors s no_selectors = tt
  own_selectors s (more_selectors c cs) = own_append false s (selector_calls s c) (selectors_calls s cs) (own_selector s c) (own_selectors s cs)

  own_selector : (s : Scope) (c : Selector) → Own false s (selector_calls s c)
  own_selector s (field i) = tt
  own_selector s (index e) = own_expression s e

-- ---- statements

own_starts : (s : Scope) (ts : List Start) → Own false s (start_items s ts)
own_starts s [] = tt
own_starts s (t ∷ ts) =
    own_append false s (designator_calls s t.target ++ expressions_calls s t.arguments) (start_item t ∷ start_items s ts) (own_append false s (designator_calls s t.target) (expressions_calls s t.arguments) (own_designator s t.target) (own_expressions s t.arguments)) (own_starts s ts)

no_wait : (m : Option Meaning) → is_routine_meant m ≡ true → waits_meant m ≡ true → ⊥
no_wait (Some (routine_meaning r)) h g = (let bad : false ≡ true = g in cc)
no_wait m h g = (let bad : false ≡ true = h in cc)

both_are : (a b : Bool) → (a && b) ≡ true → (a ≡ true) × (b ≡ true)
both_are true true h = (refl, refl)
both_are a b h = cc

-- a check is no `delay` and no `continue`
pub check_free : (s : Scope) (at : ℕ) {A : Type 0} → waits_checked s (check_statement at) ≡ true → A
check_free s at h = let x = both_are (waits_meant (find nameless s)) (has_invariants s) h in absurd (no_wait (find nameless s) x.1 x.0)

-- a `delay` or `continue` with its check
own_invoke : (s : Scope) (at : ℕ) (d : Designator) (es : Expressions) → Own false s (checks_before at s d ++ statement_item (invoke at d es) ∷ [])
own_invoke s at d es = go (waits_meant (find (first_name d) s)) (has_invariants s) refl refl
  where
    go : (b c : Bool) → waits_meant (find (first_name d) s) ≡ b → has_invariants s ≡ c → Own false s ((if b then (if c then statement_item (check_statement at) ∷ [] else []) else []) ++ statement_item (invoke at d es) ∷ [])
    go true true e f = ((λ h. check_free s at h), ((λ h. refl), tt))
    go true false e f = ((λ h. (let x = both_are (waits_meant (find (first_name d) s)) (has_invariants s) h in let bad : true ≡ false = sym x.1 ∙ f in cc)), tt)
    go false c e f = ((λ h. (let x = both_are (waits_meant (find (first_name d) s)) (has_invariants s) h in let bad : true ≡ false = sym x.0 ∙ e in cc)), tt)

pub own_items : (s : Scope) (t : Statement) → Own false s (items_of s t)
own_items s (init at ts) = own_starts s ts
own_items s (assign at d e) = own_append false s (designator_calls s d ++ expression_calls s e) (statement_item (assign at d e) ∷ []) (own_append false s (designator_calls s d) (expression_calls s e) (own_designator s d) (own_expression s e)) ((λ h. never_false h), tt)
own_items s (invoke at d es) =
    subst (λ xs. Own false s xs) (sym (append_assoc (designator_calls s d ++ expressions_calls s es) (checks_before at s d) (statement_item (invoke at d es) ∷ [])))
    (own_append false s (designator_calls s d ++ expressions_calls s es) (checks_before at s d ++ statement_item (invoke at d es) ∷ []) (own_append false s (designator_calls s d) (expressions_calls s es) (own_designator s d) (own_expressions s es)) (own_invoke s at d es))
own_items s (if_then at e t) = own_append false s (expression_calls s e) (statement_item (if_then at e t) ∷ []) (own_expression s e) ((λ h. never_false h), tt)
own_items s (if_else at e t u) = own_append false s (expression_calls s e) (statement_item (if_else at e t u) ∷ []) (own_expression s e) ((λ h. never_false h), tt)
own_items s (case_of at e as' b) = own_append false s (expression_calls s e) (statement_item (case_of at e as' b) ∷ []) (own_expression s e) ((λ h. never_false h), tt)
own_items s (while_do at e t) = own_append false s (expression_calls s e) (statement_item (while_do at e t) ∷ []) (own_expression s e) ((λ h. never_false h), tt)
own_items s (for_do at i e d f t) =
    own_append false s (expression_calls s e ++ expression_calls s f) (statement_item (for_do at i e d f t) ∷ []) (own_append false s (expression_calls s e) (expression_calls s f) (own_expression s e) (own_expression s f)) ((λ h. never_false h), tt)
own_items s (asserted at k e t) = own_append false s (expression_calls s e) (statement_item (asserted at k e t) ∷ []) (own_expression s e) ((λ h. never_false h), tt)
own_items s (empty at) = ((λ h. never_false h), tt)
own_items s (block at ts) = ((λ h. never_false h), tt)
own_items s (repeat_until at ts e) = ((λ h. never_false h), tt)
own_items s (cycle at ts) = ((λ h. never_false h), tt)

pub own_all : (s : Scope) (ts : Statements) → Own false s (items_of_all s ts)
own_all s no_statements = tt
own_all s (more_statements t ts) = own_append false s (items_of s t) (items_of_all s ts) (own_items s t) (own_all s ts)

pub own_until : (s : Scope) (ts : Statements) (e : Expression) → Own false s (until_items s ts e)
own_until s ts e = own_append false s (expression_calls s e) (until ts e ∷ []) (own_expression s e) tt

-- ---- the ends of calls

entry_is : (k : CallKind) → is_entry_kind k ≡ true → k ≡ entry_routine
entry_is entry_routine h = refl
entry_is k h = cc

-- a routine that is called, whose end is checked where it is an entry
pub routine_guarded : (k : CallKind) (s : Scope) (body : Statements) (checks : Bool) (o : Option Name) (fs : List Outline) (items : List Item) → (k ≡ entry_routine → checks ≡ true) → Guarded false fs items →
    Guarded false ((k, s) ∷ fs) (items_of_all s body ++ last_checks checks s ++ return o ∷ items)
routine_guarded k s body checks o fs items h g =
    subst (λ xs. Guarded false ((k, s) ∷ fs) xs) (sym (append_assoc (items_of_all s body) (last_checks checks s) (return o ∷ items)))
    (guarded_append false ((k, s) ∷ fs) (items_of_all s body) (last_checks checks s ++ return o ∷ items) (own_all s body) (go checks (has_invariants s) h refl))
  where
    go : (b c : Bool) → (k ≡ entry_routine → b ≡ true) → has_invariants s ≡ c → Guarded false ((k, s) ∷ fs) (last_checks b s ++ return o ∷ items)
    go true c h e = subst (λ x. Guarded false ((k, s) ∷ fs) ((if x then statement_item (check_statement 0) ∷ [] else []) ++ return o ∷ items)) (sym e) (by c e)
      where
        by : (c : Bool) → has_invariants s ≡ c → Guarded false ((k, s) ∷ fs) ((if c then statement_item (check_statement 0) ∷ [] else []) ++ return o ∷ items)
        by true e = ((λ z. check_free s 0 z), ((λ z. refl), g))
        by false e = ((λ z. (let x = both_are (is_entry_kind k) (has_invariants s) z in let bad : true ≡ false = sym x.1 ∙ e in cc)), g)
    go false c h e = ((λ z. h (entry_is k (both_are (is_entry_kind k) (has_invariants s) z).0)), g)

pub initial_guarded : (s : Scope) (body : Statements) (m : ℕ) (fs : List Outline) (items : List Item) → Guarded false fs items → Guarded false ((initial_statement, s) ∷ fs) (items_of_all s body ++ check_items 0 s ++ init_end m ∷ items)
initial_guarded s body m fs items g =
    subst (λ xs. Guarded false ((initial_statement, s) ∷ fs) xs) (sym (append_assoc (items_of_all s body) (check_items 0 s) (init_end m ∷ items)))
    (guarded_append false ((initial_statement, s) ∷ fs) (items_of_all s body) (check_items 0 s ++ init_end m ∷ items) (own_all s body) (go (has_invariants s) refl))
  where
    go : (c : Bool) → has_invariants s ≡ c → Guarded false ((initial_statement, s) ∷ fs) ((if c then statement_item (check_statement 0) ∷ [] else []) ++ init_end m ∷ items)
    go true e = ((λ z. check_free s 0 z), ((λ z. refl), g))
    go false e = ((λ z. (let bad : true ≡ false = sym z ∙ e in cc)), g)

pub own_guarded : (s : Scope) (body : Statements) → Guarded false ((own_statement, s) ∷ []) (items_of_all s body ++ end ∷ [])
own_guarded s body = guarded_append false ((own_statement, s) ∷ []) (items_of_all s body) (end ∷ []) (own_all s body) tt
