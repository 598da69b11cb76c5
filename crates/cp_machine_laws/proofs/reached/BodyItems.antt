-- The items of a statement that stands in a body stand in it too.
use Rattle.cp_machine_laws.proofs.Words.{◌≡◌, if◌then◌else◌, ℕ, inl, inr, Bool, true, false, List, [], ◌∷◌, ◌++◌, refl, subst, append_assoc, Scope, Item, statement_item, function_call, start_item}
use Rattle.cp_machine_laws.proofs.Words.{until, calls_before, IsAmong, IsWithin, listed, IsAmongItems, IsAmongStarts, OwnStands, ItemStands, AllStand}
use Rattle.cp_tree.specs.Syntax.{Expression, alone, related, Sum, sum, Terms, no_terms, more_terms, Term, term, Factors, no_factors, more_factors, Factor, named, group, negated, set_of, Expressions, no_expressions, more_expressions, Designator, designator, Selectors, no_selectors, more_selectors, Selector, field, index, Start, Statement, empty, assign, invoke, block, if_then, if_else, case_of, while_do, repeat_until, for_do, cycle, init, asserted, Statements, no_statements, more_statements}
use Rattle.cp_meaning.specs.Lifting.{own_call, is_call, expression_calls, sum_calls, terms_calls, term_calls, factors_calls, factor_calls, expressions_calls, designator_calls, selectors_calls, selector_calls, start_items, has_invariants, check_statement, check_items, waits_meant, first_name, checks_before, items_of, items_of_all, until_items}
use Rattle.cp_meaning.specs.Calls.{last_checks}
use Rattle.cp_meaning.specs.Scopes.{find}

-- ---- what is lifted are function calls

abbrev AreCalls : List Item → Type 0
AreCalls [] = Unit {0}
AreCalls (function_call at d es ∷ items) = AreCalls items
AreCalls (i ∷ items) = ⊥

calls_append : (xs ys : List Item) → AreCalls xs → AreCalls ys → AreCalls (xs ++ ys)
calls_append [] ys h k = k
calls_append (function_call at d es ∷ xs) ys h k = calls_append xs ys h k
calls_append _ ys h k = absurd h

own_are : (b : Bool) (at : ℕ) (d : Designator) (es : Expressions) → AreCalls (own_call b at d es)
own_are true at d es = tt
own_are false at d es = tt

mutual
  expression_are : (s : Scope) (e : Expression) → AreCalls (expression_calls s e)
  expression_are s (alone at a) = sum_are s a
  expression_are s (related at a r b) = calls_append (sum_calls s a) (sum_calls s b) (sum_are s a) (sum_are s b)

  sum_are : (s : Scope) (a : Sum) → AreCalls (sum_calls s a)
  sum_are s (sum at o t ts) = calls_append (term_calls s t) (terms_calls s ts) (term_are s t) (terms_are s ts)

  terms_are : (s : Scope) (ts : Terms) → AreCalls (terms_calls s ts)
  terms_are s no_terms = tt
  terms_are s (more_terms op t ts) = calls_append (term_calls s t) (terms_calls s ts) (term_are s t) (terms_are s ts)

  term_are : (s : Scope) (t : Term) → AreCalls (term_calls s t)
  term_are s (term at f fs) = calls_append (factor_calls s f) (factors_calls s fs) (factor_are s f) (factors_are s fs)

  factors_are : (s : Scope) (fs : Factors) → AreCalls (factors_calls s fs)
  factors_are s no_factors = tt
  factors_are s (more_factors op f fs) = calls_append (factor_calls s f) (factors_calls s fs) (factor_are s f) (factors_are s fs)

  factor_are : (s : Scope) (f : Factor) → AreCalls (factor_calls s f)
  factor_are s (named at d es) =
      calls_append (designator_calls s d ++ expressions_calls s es) (own_call (is_call s d) at d es) (calls_append (designator_calls s d) (expressions_calls s es) (designator_are s d) (expressions_are s es)) (own_are (is_call s d) at d es)
  factor_are s (group at e) = expression_are s e
  factor_are s (negated at f) = factor_are s f
  factor_are s (set_of at es) = expressions_are s es
  factor_are s _ = tt

  expressions_are : (s : Scope) (es : Expressions) → AreCalls (expressions_calls s es)
  expressions_are s no_expressions = tt
  expressions_are s (more_expressions e es) = calls_append (expression_calls s e) (expressions_calls s es) (expression_are s e) (expressions_are s es)

  designator_are : (s : Scope) (d : Designator) → AreCalls (designator_calls s d)
  designator_are s (designator i ss) = selectors_are s ss

  selectors_are : (s : Scope) (cs : Selectors) → AreCalls (selectors_calls s cs)
  selectors_are s no_selectors = tt
  selectors_are s (more_selectors c cs) = calls_append (selector_calls s c) (selectors_calls s cs) (selector_are s c) (selectors_are s cs)

  selector_are : (s : Scope) (c : Selector) → AreCalls (selector_calls s c)
  selector_are s (field i) = tt
  selector_are s (index e) = expression_are s e

-- ---- the items of statements

pub stand_append : (s : Scope) (body : Statements) (xs ys : List Item) → AllStand s body xs → AllStand s body ys → AllStand s body (xs ++ ys)
stand_append s body [] ys h k = k
stand_append s body (x ∷ xs) ys h k = (h.0, stand_append s body xs ys h.1 k)

-- calls among those before an item
calls_stand : (s : Scope) (body : Statements) (i : Item) (xs : List Item) → OwnStands s body i → AreCalls xs → ((j : Item) → IsAmongItems j xs → IsAmongItems j (calls_before s i)) → AllStand s body xs
calls_stand s body i [] own h among = tt
calls_stand s body i (function_call at d es ∷ xs) own h among = ((i, own, among (function_call at d es) (inl refl)), calls_stand s body i xs own h (λ j k. among j (inr k)))
calls_stand s body i _ own h among = absurd h

led : (s : Scope) (body : Statements) (i : Item) → OwnStands s body i → AreCalls (calls_before s i) → ItemStands s body i → AllStand s body (calls_before s i ++ i ∷ [])
led s body i own calls here = stand_append s body (calls_before s i) (i ∷ []) (calls_stand s body i (calls_before s i) own calls (λ j k. k)) (here, tt)

starts_stand : (s : Scope) (body : Statements) (at : ℕ) (all ts : List Start) → IsWithin body (init at all) → ((t : Start) → IsAmongStarts t ts → IsAmongStarts t all) → AllStand s body (start_items s ts)
starts_stand s body at all [] w among = tt
starts_stand s body at all (t ∷ ts) w among =
    let own : OwnStands s body (start_item t) = (at, all, w, among t (inl refl)) in
    subst (λ (is : List Item). AllStand s body is) (append_assoc (designator_calls s t.target ++ expressions_calls s t.arguments) (start_item t ∷ []) (start_items s ts))
    (stand_append s body ((designator_calls s t.target ++ expressions_calls s t.arguments) ++ start_item t ∷ []) (start_items s ts)
    (led s body (start_item t) own (calls_append (designator_calls s t.target) (expressions_calls s t.arguments) (designator_are s t.target) (expressions_are s t.arguments)) own)
    (starts_stand s body at all ts w (λ u k. among u (inr k))))

-- ---- checks

check_stands : (s : Scope) (body : Statements) (at : ℕ) → AllStand s body (check_items at s)
check_stands s body at = go (has_invariants s) refl
  where
    go : (b : Bool) → has_invariants s ≡ b → AllStand s body (if b then statement_item (check_statement at) ∷ [] else [])
    go true e = (inr (at, e, refl), tt)
    go false e = tt

before_stand : (s : Scope) (body : Statements) (at : ℕ) (d : Designator) → AllStand s body (checks_before at s d)
before_stand s body at d = go (waits_meant (find (first_name d) s))
  where
    go : (b : Bool) → AllStand s body (if b then check_items at s else [])
    go true = check_stands s body at
    go false = tt

last_stand : (s : Scope) (body : Statements) (b : Bool) → AllStand s body (last_checks b s)
last_stand s body true = check_stands s body 0
last_stand s body false = tt

pub statement_stands : (s : Scope) (body : Statements) (t : Statement) → IsWithin body t → AllStand s body (items_of s t)
statement_stands s body (init at ts) w = starts_stand s body at ts ts w (λ t k. k)
statement_stands s body (assign at d e) w = led s body (statement_item (assign at d e)) (inl w) (calls_append (designator_calls s d) (expression_calls s e) (designator_are s d) (expression_are s e)) (inl w)
statement_stands s body (invoke at d es) w =
    let calls : List Item = designator_calls s d ++ expressions_calls s es in
    let own : OwnStands s body (statement_item (invoke at d es)) = inl w in
    stand_append s body (calls ++ checks_before at s d) (statement_item (invoke at d es) ∷ [])
    (stand_append s body calls (checks_before at s d)
    (calls_stand s body (statement_item (invoke at d es)) calls own (calls_append (designator_calls s d) (expressions_calls s es) (designator_are s d) (expressions_are s es)) (λ j k. k)) (before_stand s body at d))
    (own, tt)
statement_stands s body (if_then at e t) w = led s body (statement_item (if_then at e t)) (inl w) (expression_are s e) (inl w)
statement_stands s body (if_else at e t u) w = led s body (statement_item (if_else at e t u)) (inl w) (expression_are s e) (inl w)
statement_stands s body (case_of at e as' b) w = led s body (statement_item (case_of at e as' b)) (inl w) (expression_are s e) (inl w)
statement_stands s body (while_do at e t) w = led s body (statement_item (while_do at e t)) (inl w) (expression_are s e) (inl w)
statement_stands s body (for_do at i e d f t) w = led s body (statement_item (for_do at i e d f t)) (inl w) (calls_append (expression_calls s e) (expression_calls s f) (expression_are s e) (expression_are s f)) (inl w)
statement_stands s body (empty at) w = led s body (statement_item (empty at)) (inl w) tt (inl w)
statement_stands s body (block at ts) w = led s body (statement_item (block at ts)) (inl w) tt (inl w)
statement_stands s body (repeat_until at ts e) w = led s body (statement_item (repeat_until at ts e)) (inl w) tt (inl w)
statement_stands s body (cycle at ts) w = led s body (statement_item (cycle at ts)) (inl w) tt (inl w)
statement_stands s body (asserted at k e t) w = led s body (statement_item (asserted at k e t)) (inl w) (expression_are s e) (inl w)

pub all_stand : (s : Scope) (body : Statements) (ts : Statements) → ((t : Statement) → IsAmong t ts → IsWithin body t) → AllStand s body (items_of_all s ts)
all_stand s body no_statements w = tt
all_stand s body (more_statements t ts) w = stand_append s body (items_of s t) (items_of_all s ts) (statement_stands s body t (w t (inl refl))) (all_stand s body ts (λ u k. w u (inr k)))

-- the whole body
pub body_stands : (s : Scope) (body : Statements) → AllStand s body (items_of_all s body)
body_stands s body = all_stand s body body (λ t k. listed t k)

-- with the checks at its end
pub checked_stands : (s : Scope) (body : Statements) (b : Bool) → AllStand s body (items_of_all s body ++ last_checks b s)
checked_stands s body b = stand_append s body (items_of_all s body) (last_checks b s) (body_stands s body) (last_stand s body b)

pub until_stands : (s : Scope) (body : Statements) (at : ℕ) (ts : Statements) (e : Expression) → IsWithin body (repeat_until at ts e) → AllStand s body (until_items s ts e)
until_stands s body at ts e w = led s body (until ts e) (at, w) (expression_are s e) (at, w)
