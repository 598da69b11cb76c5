-- Lifted calls, checks and statements are items that open and end no call.
use Rattle.std.proofs.Common.{ℕ, Bool, true, false, if◌then◌else◌, List, [], ◌∷◌}
use Rattle.cp_tree.specs.Syntax.{Expression, alone, related, Sum, sum, Terms, no_terms, more_terms, Term, term, Factors, no_factors, more_factors, Factor, named, group, negated, set_of, Expressions, no_expressions, more_expressions, Designator, designator, Selectors, no_selectors, more_selectors, Selector, field, index, Start, Statement, assign, invoke, if_then, if_else, case_of, while_do, for_do, init, asserted, Statements, no_statements, more_statements}
use Rattle.cp_meaning.specs.Scopes.{Scope, find}
use Rattle.cp_meaning.specs.State.{Item}
use Rattle.cp_meaning.specs.Calls.{last_checks}
use Rattle.cp_meaning.specs.Lifting.{own_call, is_call, expression_calls, sum_calls, terms_calls, term_calls, factors_calls, factor_calls, expressions_calls, designator_calls, selectors_calls, selector_calls, start_items, has_invariants, check_items, waits_meant, first_name, checks_before, items_of, items_of_all, until_items}
use Rattle.cp_meaning.proofs.Frames.{ArePlain, plain-append}

plain_call : (b : Bool) (at : ℕ) (d : Designator) (es : Expressions) → ArePlain (own_call b at d es)
plain_call true at d es = (tt, tt)
plain_call false at d es = tt

mutual
  plain_expression : (s : Scope) (e : Expression) → ArePlain (expression_calls s e)
  plain_expression s (alone at a) = plain_sum s a
  plain_expression s (related at a r b) = plain-append _ _ (plain_sum s a) (plain_sum s b)

  plain_sum : (s : Scope) (a : Sum) → ArePlain (sum_calls s a)
  plain_sum s (sum at o t ts) = plain-append _ _ (plain_term s t) (plain_terms s ts)

  plain_terms : (s : Scope) (ts : Terms) → ArePlain (terms_calls s ts)
  plain_terms s no_terms = tt
  plain_terms s (more_terms op t ts) = plain-append _ _ (plain_term s t) (plain_terms s ts)

  plain_term : (s : Scope) (t : Term) → ArePlain (term_calls s t)
  plain_term s (term at f fs) = plain-append _ _ (plain_factor s f) (plain_factors s fs)

  plain_factors : (s : Scope) (fs : Factors) → ArePlain (factors_calls s fs)
  plain_factors s no_factors = tt
  plain_factors s (more_factors op f fs) = plain-append _ _ (plain_factor s f) (plain_factors s fs)

  plain_factor : (s : Scope) (f : Factor) → ArePlain (factor_calls s f)
  plain_factor s (named at d es) = plain-append _ _ (plain-append _ _ (plain_designator s d) (plain_expressions s es)) (plain_call (is_call s d) at d es)
  plain_factor s (group at e) = plain_expression s e
  plain_factor s (negated at f) = plain_factor s f
  plain_factor s (set_of at es) = plain_expressions s es
  plain_factor s _ = tt

  plain_expressions : (s : Scope) (es : Expressions) → ArePlain (expressions_calls s es)
  plain_expressions s no_expressions = tt
  plain_expressions s (more_expressions e es) = plain-append _ _ (plain_expression s e) (plain_expressions s es)

  plain_designator : (s : Scope) (d : Designator) → ArePlain (designator_calls s d)
  plain_designator s (designator i ss) = plain_selectors s ss

  plain_selectors : (s : Scope) (cs : Selectors) → ArePlain (selectors_calls s cs)
  plain_selectors s no_selectors = tt
  plain_selectors s (more_selectors c cs) = plain-append _ _ (plain_selector s c) (plain_selectors s cs)

  plain_selector : (s : Scope) (c : Selector) → ArePlain (selector_calls s c)
  plain_selector s (field i) = tt
  plain_selector s (index e) = plain_expression s e

plain_starts : (s : Scope) (ts : List Start) → ArePlain (start_items s ts)
plain_starts s [] = tt
plain_starts s (t ∷ ts) = plain-append _ _ (plain-append _ _ (plain_designator s t.target) (plain_expressions s t.arguments)) (tt, plain_starts s ts)

plain_if : (b : Bool) (xs : List Item) → ArePlain xs → ArePlain (if b then xs else [])
plain_if true xs h = h
plain_if false xs h = tt

plain_check : (at : ℕ) (s : Scope) → ArePlain (check_items at s)
plain_check at s = plain_if (has_invariants s) _ (tt, tt)

pub plain_initial : (s : Scope) → ArePlain (check_items 0 s)
plain_initial s = plain_check 0 s

pub plain_last : (b : Bool) (s : Scope) → ArePlain (last_checks b s)
plain_last true s = plain_check 0 s
plain_last false s = tt

plain_before : (at : ℕ) (s : Scope) (d : Designator) → ArePlain (checks_before at s d)
plain_before at s d = plain_if (waits_meant (find (first_name d) s)) (check_items at s) (plain_check at s)

pub plain_items : (s : Scope) (t : Statement) → ArePlain (items_of s t)
plain_items s (init at ts) = plain_starts s ts
plain_items s (assign at d e) = plain-append _ _ (plain-append _ _ (plain_designator s d) (plain_expression s e)) (tt, tt)
plain_items s (invoke at d es) = plain-append _ _ (plain-append _ _ (plain-append _ _ (plain_designator s d) (plain_expressions s es)) (plain_before at s d)) (tt, tt)
plain_items s (if_then at e t) = plain-append _ _ (plain_expression s e) (tt, tt)
plain_items s (if_else at e t u) = plain-append _ _ (plain_expression s e) (tt, tt)
plain_items s (case_of at e as' b) = plain-append _ _ (plain_expression s e) (tt, tt)
plain_items s (while_do at e t) = plain-append _ _ (plain_expression s e) (tt, tt)
plain_items s (for_do at i e d f t) = plain-append _ _ (plain-append _ _ (plain_expression s e) (plain_expression s f)) (tt, tt)
plain_items s (asserted at k e t) = plain-append _ _ (plain_expression s e) (tt, tt)
plain_items s _ = (tt, tt)

pub plain_all : (s : Scope) (ts : Statements) → ArePlain (items_of_all s ts)
plain_all s no_statements = tt
plain_all s (more_statements t ts) = plain-append _ _ (plain_items s t) (plain_all s ts)

pub plain_until : (s : Scope) (ts : Statements) (e : Expression) → ArePlain (until_items s ts e)
plain_until s ts e = plain-append _ _ (plain_expression s e) (tt, tt)
