-- What is asked of the trees: all names in them are written, and annotations call nothing; and which items are then fine.
use Rattle.std.proofs.Common.{◌≡◌, inl, inr, ℕ, Bool, true, false, List, [], ◌∷◌, ◌++◌, sym, subst}
use Rattle.cp_tree.specs.Syntax.{Expression, alone, related, Sum, sum, Terms, no_terms, more_terms, Term, term, Factors, no_factors, more_factors, Factor, named, group, negated, set_of, Expressions, no_expressions, more_expressions, Designator, designator, Selectors, no_selectors, more_selectors, Selector, field, index, Start, Statement, assign, invoke, block, if_then, if_else, case_of, while_do, repeat_until, for_do, cycle, init, asserted, Statements, no_statements, more_statements, Arms, no_arms, more_arms, arm, Program}
use Rattle.cp_meaning.specs.Scopes.{Scope}
use Rattle.cp_meaning.specs.State.{Item, statement_item, function_call, start_item, until, successor}
use Rattle.cp_meaning.specs.Systems.{system_of}
use Rattle.cp_meaning.specs.Lifting.{own_call, is_call, expression_calls, sum_calls, terms_calls, term_calls, factors_calls, factor_calls, expressions_calls, designator_calls, selectors_calls, selector_calls}
use Rattle.cp_resolved.specs.Openings.{meaning_at}
use Rattle.cp_resolved.specs.Small.{Each}
use Rattle.cp_resolved.specs.Stands.{calls_in}
use Rattle.cp_machine_laws.specs.Bodies.{IsAmong, IsAmongArms, IsPartOf, IsWithin, listed, inside, IsAmongItems, IsAmongStarts, OwnStands}
use Rattle.cp_machine_laws.specs.Remaining.{calls_before}
use Rattle.cp_annotation_laws.proofs.annotations.Spoken.{SpokenExpression, SpokenSum, SpokenTerms, SpokenTerm, SpokenFactors, SpokenFactor, SpokenExpressions, SpokenDesignator, SpokenSelectors, SpokenSelector, SpokenStart, SpokenScope, SpokenProgram, IsFine, AreFine, AreFineArms}

pub record Facts (p : Program) : Type 0 where
  pub spoken : SpokenProgram p
  pub visible : (k : ℕ) → SpokenScope (system_of p k).scope
  pub scopes : (n : ℕ) → SpokenScope (meaning_at p n).scope
  pub bodies : (n : ℕ) → AreFine (meaning_at p n).scope (meaning_at p n).body

module _ (s : Scope) where
  -- ---- what stands in a body that is fine

  among_fine : (t : Statement) (ss : Statements) → AreFine s ss → IsAmong t ss → IsFine s t
  among_fine t no_statements h k = absurd k
  among_fine t (more_statements u us) h (inl e) = subst (IsFine s) (sym e) h.0
  among_fine t (more_statements u us) h (inr k) = among_fine t us h.1 k

  arm_fine : (t : Statement) (as' : Arms) → AreFineArms s as' → IsAmongArms t as' → IsFine s t
  arm_fine t no_arms h k = absurd k
  arm_fine t (more_arms (arm cs u) as') h (inl e) = subst (IsFine s) (sym e) h.0.1
  arm_fine t (more_arms (arm cs u) as') h (inr k) = arm_fine t as' h.1 k

  part_fine : (t u : Statement) → IsPartOf t u → IsFine s u → IsFine s t
  part_fine t (block at ss) k h = among_fine t ss h k
  part_fine t (if_then at e u) k h = subst (IsFine s) (sym k) h.1
  part_fine t (if_else at e u v) (inl k) h = subst (IsFine s) (sym k) h.1
  part_fine t (if_else at e u v) (inr k) h = subst (IsFine s) (sym k) h.2
  part_fine t (case_of at e as' b) k h = arm_fine t as' h.1 k
  part_fine t (while_do at e u) k h = subst (IsFine s) (sym k) h.1
  part_fine t (repeat_until at ss e) k h = among_fine t ss h.0 k
  part_fine t (for_do at i e d g u) k h = subst (IsFine s) (sym k) h.3
  part_fine t (cycle at ss) k h = among_fine t ss h k
  part_fine t (asserted at j e u) k h = subst (IsFine s) (sym k) h.2
  part_fine t _ k h = absurd k

  pub within_fine : (body : Statements) (t : Statement) → AreFine s body → IsWithin body t → IsFine s t
  within_fine body _ h (listed t k) = among_fine t body h k
  within_fine body _ h (inside t u k v) = part_fine t u k (within_fine body u h v)

  pub start_fine : (t : Start) (ts : List Start) → Each SpokenStart ts → IsAmongStarts t ts → SpokenStart t
  start_fine t [] h k = absurd k
  start_fine t (u ∷ us) h (inl e) = subst SpokenStart (sym e) h.0
  start_fine t (u ∷ us) h (inr k) = start_fine t us h.1 k

  -- ---- function calls in what is spoken are spoken

  abbrev CallsSpoken : List Item → Type 0
  CallsSpoken [] = Unit {0}
  CallsSpoken (function_call at d es ∷ is) = SpokenDesignator d × SpokenExpressions es × CallsSpoken is
  CallsSpoken (i ∷ is) = ⊥

  both : (xs ys : List Item) → CallsSpoken xs → CallsSpoken ys → CallsSpoken (xs ++ ys)
  both [] ys h g = g
  both (function_call at d es ∷ xs) ys h g = (h.0, h.1, both xs ys h.2 g)
  both _ ys h g = absurd h

  own : (b : Bool) (at : ℕ) (d : Designator) (es : Expressions) → SpokenDesignator d → SpokenExpressions es → CallsSpoken (own_call b at d es)
  own true at d es h k = (h, k, tt)
  own false at d es h k = tt

  mutual
    expression_spoken : (e : Expression) → SpokenExpression e → CallsSpoken (expression_calls s e)
    expression_spoken (alone at a) h = sum_spoken a h
    expression_spoken (related at a r b) h = both _ _ (sum_spoken a h.0) (sum_spoken b h.1)

    sum_spoken : (a : Sum) → SpokenSum a → CallsSpoken (sum_calls s a)
    sum_spoken (sum at o t ts) h = both _ _ (term_spoken t h.0) (terms_spoken ts h.1)

    terms_spoken : (ts : Terms) → SpokenTerms ts → CallsSpoken (terms_calls s ts)
    terms_spoken no_terms h = tt
    terms_spoken (more_terms op t ts) h = both _ _ (term_spoken t h.0) (terms_spoken ts h.1)

    term_spoken : (t : Term) → SpokenTerm t → CallsSpoken (term_calls s t)
    term_spoken (term at f fs) h = both _ _ (factor_spoken f h.0) (factors_spoken fs h.1)

    factors_spoken : (fs : Factors) → SpokenFactors fs → CallsSpoken (factors_calls s fs)
    factors_spoken no_factors h = tt
    factors_spoken (more_factors op f fs) h = both _ _ (factor_spoken f h.0) (factors_spoken fs h.1)

    factor_spoken : (f : Factor) → SpokenFactor f → CallsSpoken (factor_calls s f)
    factor_spoken (named at d es) h = both _ _ (both _ _ (designator_spoken d h.0) (expressions_spoken es h.1)) (own (is_call s d) at d es h.0 h.1)
    factor_spoken (group at e) h = expression_spoken e h
    factor_spoken (negated at f) h = factor_spoken f h
    factor_spoken (set_of at es) h = expressions_spoken es h
    factor_spoken _ h = tt

    expressions_spoken : (es : Expressions) → SpokenExpressions es → CallsSpoken (expressions_calls s es)
    expressions_spoken no_expressions h = tt
    expressions_spoken (more_expressions e es) h = both _ _ (expression_spoken e h.0) (expressions_spoken es h.1)

    designator_spoken : (d : Designator) → SpokenDesignator d → CallsSpoken (designator_calls s d)
    designator_spoken (designator i ss) h = selectors_spoken ss h.1

    selectors_spoken : (cs : Selectors) → SpokenSelectors cs → CallsSpoken (selectors_calls s cs)
    selectors_spoken no_selectors h = tt
    selectors_spoken (more_selectors c cs) h = both _ _ (selector_spoken c h.0) (selectors_spoken cs h.1)

    selector_spoken : (c : Selector) → SpokenSelector c → CallsSpoken (selector_calls s c)
    selector_spoken (field i) h = tt
    selector_spoken (index e) h = expression_spoken e h

  statement_spoken : (t : Statement) → IsFine s t → CallsSpoken (calls_in s t)
  statement_spoken (assign at d e) h = both _ _ (designator_spoken d h.0) (expression_spoken e h.1)
  statement_spoken (invoke at d es) h = both _ _ (designator_spoken d h.0) (expressions_spoken es h.1)
  statement_spoken (if_then at e t) h = expression_spoken e h.0
  statement_spoken (if_else at e t u) h = expression_spoken e h.0
  statement_spoken (case_of at e as' b) h = expression_spoken e h.0
  statement_spoken (while_do at e t) h = expression_spoken e h.0
  statement_spoken (for_do at i e d g t) h = both _ _ (expression_spoken e h.1) (expression_spoken g h.2)
  statement_spoken (asserted at k e t) h = expression_spoken e h.0
  statement_spoken _ h = tt

  before_spoken : (body : Statements) (i : Item) → AreFine s body → OwnStands s body i → CallsSpoken (calls_before s i)
  before_spoken body (statement_item t) h (inl k) = statement_spoken t (within_fine body t h k)
  before_spoken body (statement_item t) h (inr k) = subst (λ (u : Statement). CallsSpoken (calls_before s (statement_item u))) (sym k.2) tt
  before_spoken body (start_item t) h k = let u = start_fine t k.1 (within_fine body (init k.0 k.1) h k.2) k.3 in both _ _ (designator_spoken t.target u.0) (expressions_spoken t.arguments u.1)
  before_spoken body (until ss e) h k = expression_spoken e (within_fine body (repeat_until k.0 ss e) h k.1).1
  before_spoken body (successor at i z d b t) h k = tt
  before_spoken body _ h k = absurd k

  one_spoken : (at : ℕ) (d : Designator) (es : Expressions) (items : List Item) → CallsSpoken items → IsAmongItems (function_call at d es) items → SpokenDesignator d × SpokenExpressions es
  one_spoken at d es [] h k = absurd k
  one_spoken at d es (function_call n c fs ∷ items) h (inl e) = (subst SpokenDesignator (let same : function_call n c fs ≡ function_call at d es = sym e in cc) h.0, subst SpokenExpressions (let same : function_call n c fs ≡ function_call at d es = sym e in cc) h.1)
  one_spoken at d es (function_call n c fs ∷ items) h (inr k) = one_spoken at d es items h.2 k
  one_spoken at d es _ h k = absurd h

  pub call_spoken : (body : Statements) (at : ℕ) (d : Designator) (es : Expressions) → AreFine s body → (i : Item) × OwnStands s body i × IsAmongItems (function_call at d es) (calls_before s i) → SpokenDesignator d × SpokenExpressions es
  call_spoken body at d es h k = one_spoken at d es (calls_before s k.0) (before_spoken body k.0 h k.1) k.2
