-- In what spells tokens, the function calls of expressions and statements are at different tokens.
use Rattle.std.proofs.Common.{◌≡◌, ◌==◌, ◌+◌, ◌<◌, ◌≤◌, ℕ, Bool, true, false, List, [], ◌∷◌, ◌++◌, length, Option, Some, None, refl, subst, inl, inr, arith}
use Rattle.cp_resolved.proofs.Words.{◌⊎◌, Decides-eqb, Kind, Sign, Scope, Item, function_call, Each}
use Rattle.cp_text.specs.declared.token.Kind.TheVariants as kind
use Rattle.cp_text.specs.declared.token.Mark.TheVariants as mark
use Rattle.cp_tree.specs.Syntax.{Expression, alone, related, Sum, sum, Terms, no_terms, more_terms, Term, term, Factors, no_factors, more_factors, Factor, number, character, named, group, negated, set_of, Expressions, no_expressions, more_expressions, Designator, designator, Selectors, no_selectors, more_selectors, Selector, field, index, Start, Statement, empty, assign, invoke, block, if_then, if_else, case_of, while_do, repeat_until, for_do, cycle, init, asserted, Statements, no_statements, more_statements, Arms, no_arms, more_arms, Arm, arm}
use Rattle.cp_tree.specs.Spelling.{relation_mark, direction_mark, put_optional, put_behind, put_all, put_separated, put_sign, put_constant, put_expression, put_sum, put_terms, put_term, put_factors, put_factor, put_arguments, put_expressions, put_more_expressions, put_designator, put_selectors, put_selector, put_start, put_statement, put_statements, put_more_statements, put_arms, put_more_arms, put_arm}
use Rattle.cp_tree.specs.SpellingIndexed.{AreIndexedInvariants, IsIndexedInvariantBody, AreAllIndexed, AreSeparatedIndexed, IsIndexedExpression, IsIndexedSum, AreIndexedTerms, IsIndexedTerm, AreIndexedFactors, IsIndexedFactor, AreIndexedArguments, AreIndexedExpressions, AreIndexedMoreExpressions, IsIndexedDesignator, AreIndexedSelectors, IsIndexedSelector, IsIndexedStart, IsIndexedStatement, AreIndexedStatements, AreIndexedMoreStatements, AreIndexedArms, AreIndexedMoreArms, IsIndexedArm}
use Rattle.cp_tree.proofs.Grows.{grows_optional, grows_all, grows_behind, grows_separated, grows_constant, grows_expression, grows_sum, grows_terms, grows_term, grows_factors, grows_factor, grows_arguments, grows_more_expressions, grows_designator, grows_selectors, grows_selector, grows_start, grows_statement, grows_statements, grows_more_statements, grows_arms, grows_more_arms, grows_arm}
use Rattle.cp_meaning.specs.Lifting.{is_call, own_call, expression_calls, sum_calls, terms_calls, term_calls, factors_calls, factor_calls, expressions_calls, designator_calls, selectors_calls, selector_calls}
use Rattle.cp_resolved.specs.Calls.{starts_calls, calls_laid, all_calls_laid, arms_calls_laid, arm_calls_laid, is_at, IsAmong, IsApart, AreApart}
use Rattle.cp_resolved.proofs.frames.LeastCells.{same_number as same_token}

-- ---- lists of calls

abbrev Disjoint : List Item → List Item → Type 0
Disjoint xs ys = (n at : ℕ) → IsAmong n xs → IsAmong at ys → (n == at) ≡ false

among_either : (at : ℕ) (xs ys : List Item) → IsAmong at (xs ++ ys) → IsAmong at xs ⊎ IsAmong at ys
among_either at [] ys h = inr h
among_either at (x ∷ xs) ys (inl e) = inl (inl e)
among_either at (x ∷ xs) ys (inr h) = go (among_either at xs ys h)
  where
    go : IsAmong at xs ⊎ IsAmong at ys → IsAmong at (x ∷ xs) ⊎ IsAmong at ys
    go (inl k) = inl (inr k)
    go (inr k) = inr k

disjoint_both : (xs ys zs : List Item) → Disjoint xs ys → Disjoint xs zs → Disjoint xs (ys ++ zs)
disjoint_both xs ys zs h g n at a b = go (among_either at ys zs b)
  where
    go : IsAmong at ys ⊎ IsAmong at zs → (n == at) ≡ false
    go (inl k) = h n at a k
    go (inr k) = g n at a k

one_joined : (i : Item) (xs ys : List Item) → IsApart i xs → Disjoint (i ∷ xs) ys → IsApart i (xs ++ ys)
one_joined (function_call n d es) xs ys h g = λ at w. go at (among_either at xs ys w)
  where
    go : (at : ℕ) → IsAmong at xs ⊎ IsAmong at ys → (n == at) ≡ false
    go at (inl k) = h at k
    go at (inr k) = g n at (inl (same_token n)) k
one_joined i xs ys h g = absurd h

apart_both : (xs ys : List Item) → AreApart xs → AreApart ys → Disjoint xs ys → AreApart (xs ++ ys)
apart_both [] ys h g e = g
apart_both (x ∷ xs) ys h g e = (one_joined x xs ys h.0 e, apart_both xs ys h.1 g (λ n at a b. e n at (inr a) b))

-- ---- calls between two places, which are told by the number of tokens from them on

module _ (total : ℕ) where
  pub record CallIn (low high at : ℕ) : Type 0 where
    pub here : ℕ
    pub begins : at + here ≡ total
    pub above : low < here
    pub below : here ≤ high

  abbrev pub IsIn : (low high : ℕ) → Item → Type 0
  IsIn low high (function_call at d es) = CallIn low high at
  IsIn low high i = ⊥

  abbrev pub AreIn : (low high : ℕ) → List Item → Type 0
  AreIn low high is = Each (IsIn low high) is

  one_wider : (low high a b : ℕ) (i : Item) → low ≤ a → b ≤ high → IsIn a b i → IsIn low high i
  one_wider low high a b (function_call at d es) p q h = let e : a < h.here = h.above in let f : h.here ≤ b = h.below in record { here = h.here; begins = h.begins; above = omega (arith, e, p); below = omega (arith, f, q) }
  one_wider low high a b i p q h = absurd h

  wider : (low high a b : ℕ) (is : List Item) → low ≤ a → b ≤ high → AreIn a b is → AreIn low high is
  wider low high a b [] p q h = tt
  wider low high a b (i ∷ is) p q h = (one_wider low high a b i p q h.0, wider low high a b is p q h.1)

  in_both : (low high : ℕ) (xs ys : List Item) → AreIn low high xs → AreIn low high ys → AreIn low high (xs ++ ys)
  in_both low high [] ys h g = g
  in_both low high (x ∷ xs) ys h g = (h.0, in_both low high xs ys h.1 g)

  one_among : (low high at : ℕ) (i : Item) → IsIn low high i → is_at at i ≡ true → CallIn low high at
  one_among low high at (function_call n d es) h e = subst (CallIn low high) ((Decides-eqb n at).0 e) h
  one_among low high at i h e = absurd h

  among_in : (low high at : ℕ) (is : List Item) → AreIn low high is → IsAmong at is → CallIn low high at
  among_in low high at [] h w = absurd w
  among_in low high at (i ∷ is) h (inl e) = one_among low high at i h.0 e
  among_in low high at (i ∷ is) h (inr w) = among_in low high at is h.1 w

  -- those of two pieces, one after the other
  disjoint_in : (a b c d : ℕ) (xs ys : List Item) → (b ≤ c) ⊎ (d ≤ a) → AreIn a b xs → AreIn c d ys → Disjoint xs ys
  disjoint_in a b c d xs ys p h g n at u v = go (n == at) refl
    where
      x : CallIn a b n
      x = among_in a b n xs h u

      y : CallIn c d at
      y = among_in c d at ys g v

      never : n ≡ at → (b ≤ c) ⊎ (d ≤ a) → ⊥
      never e (inl q) =
          let i = x.begins in
          let j = y.begins in
          let k = x.below in
          let l = y.above in
          absurd (omega (arith, e, q, i, j, k, l))
      never e (inr q) =
          let i = x.begins in
          let j = y.begins in
          let k = x.above in
          let l = y.below in
          absurd (omega (arith, e, q, i, j, k, l))

      go : (c : Bool) → (n == at) ≡ c → c ≡ false
      go true e = absurd (never ((Decides-eqb n at).0 e) p)
      go false e = refl

  -- ---- calls of a piece: those in the tokens from `all` up to `rest`

  pub record Spread (rest all : List Kind) (is : List Item) : Type 0 where
    pub within : AreIn (length rest) (length all) is
    pub apart : AreApart is

  none : (rest all : List Kind) → Spread rest all []
  none rest all = record { within = tt; apart = tt }

  inside : (rest low high all : List Kind) (is : List Item) → length rest ≤ length low → length high ≤ length all → Spread low high is → Spread rest all is
  inside rest low high all is p q h = record { within = wider (length rest) (length all) (length low) (length high) is p q h.within; apart = h.apart }

  -- the first calls stand before the others
  before : (rest low high all : List Kind) (xs ys : List Item) → length rest ≤ length low → length low ≤ length high → length high ≤ length all → Spread high all xs → Spread rest low ys → Spread rest all (xs ++ ys)
  before rest low high all xs ys p q r h g =
      record {
        within = in_both (length rest) (length all) xs ys (wider (length rest) (length all) (length high) (length all) xs (omega (arith, p, q)) (omega arith) h.within) (wider (length rest) (length all) (length rest) (length low) ys (omega arith) (omega (arith, q, r)) g.within);
        apart = apart_both xs ys h.apart g.apart (disjoint_in (length high) (length all) (length rest) (length low) xs ys (inr q) h.within g.within);
      }

  -- behind them
  behind : (rest low high all : List Kind) (xs ys : List Item) → length rest ≤ length low → length low ≤ length high → length high ≤ length all → Spread rest low xs → Spread high all ys → Spread rest all (xs ++ ys)
  behind rest low high all xs ys p q r h g =
      record {
        within = in_both (length rest) (length all) xs ys (wider (length rest) (length all) (length rest) (length low) xs (omega arith) (omega (arith, q, r)) h.within) (wider (length rest) (length all) (length high) (length all) ys (omega (arith, p, q)) (omega arith) g.within);
        apart = apart_both xs ys h.apart g.apart (disjoint_in (length rest) (length low) (length high) (length all) xs ys (inl q) h.within g.within);
      }

  -- or between two others, the first of which stand behind them
  amid : (rest low a b high all : List Kind) (xs ys zs : List Item) → length rest ≤ length low → length low ≤ length a → length a ≤ length b → length b ≤ length high → length high ≤ length all → Spread a b xs → Spread rest low ys → Spread high all zs → Spread rest all (xs ++ (ys ++ zs))
  amid rest low a b high all xs ys zs p q r s t h g k =
      let others : Spread rest all (ys ++ zs) = behind rest low high all ys zs p (omega (arith, q, r, s)) t g k in
      record {
        within = in_both (length rest) (length all) xs (ys ++ zs) (wider (length rest) (length all) (length a) (length b) xs (omega (arith, p, q)) (omega (arith, s, t)) h.within) others.within;
        apart = apart_both xs (ys ++ zs) h.apart others.apart (disjoint_both xs ys zs (disjoint_in (length a) (length b) (length rest) (length low) xs ys (inr q) h.within g.within) (disjoint_in (length a) (length b) (length high) (length all) xs zs (inl s) h.within k.within));
      }

  module _ (s : Scope) where
    -- ---- expressions

    sign_grows : (o : Option Sign) (rest : List Kind) → length rest ≤ length (put_sign o rest)
    sign_grows None rest = omega arith
    sign_grows (Some m) rest = omega arith

    own_spread : (b : Bool) (at : ℕ) (d : Designator) (es : Expressions) (k : Kind) (rest : List Kind) → at + length (k ∷ rest) ≡ total → Spread rest (k ∷ rest) (own_call b at d es)
    own_spread true at d es k rest h = record { within = (record { here = length (k ∷ rest); begins = h; above = omega arith; below = omega arith }, tt); apart = ((λ n w. absurd w), tt) }
    own_spread false at d es k rest h = none rest (k ∷ rest)

    mutual
      expression_spread : (x : Expression) (rest : List Kind) → IsIndexedExpression total x rest → Spread rest (put_expression x rest) (expression_calls s x)
      expression_spread (alone at a) rest h = sum_spread a rest h.1
      expression_spread (related at a r b) rest h =
          let after : List Kind = kind.Mark (relation_mark r) ∷ put_sum b rest in
          before rest (put_sum b rest) after (put_sum a after) (sum_calls s a) (sum_calls s b) (grows_sum b rest) (omega arith) (grows_sum a after) (sum_spread a after h.1) (sum_spread b rest h.2)

      sum_spread : (x : Sum) (rest : List Kind) → IsIndexedSum total x rest → Spread rest (put_sum x rest) (sum_calls s x)
      sum_spread (sum at o t ts) rest h =
          let after : List Kind = put_terms ts rest in
          inside rest rest (put_term t after) (put_sum (sum at o t ts) rest) (sum_calls s (sum at o t ts)) (omega arith) (sign_grows o (put_term t after))
          (before rest after after (put_term t after) (term_calls s t) (terms_calls s ts) (grows_terms ts rest) (omega arith) (grows_term t after) (term_spread t after h.1) (terms_spread ts rest h.2))

      terms_spread : (x : Terms) (rest : List Kind) → AreIndexedTerms total x rest → Spread rest (put_terms x rest) (terms_calls s x)
      terms_spread no_terms rest h = none rest rest
      terms_spread (more_terms a t ts) rest h =
          let after : List Kind = put_terms ts rest in
          inside rest rest (put_term t after) (put_terms (more_terms a t ts) rest) (terms_calls s (more_terms a t ts)) (omega arith) (omega arith)
          (before rest after after (put_term t after) (term_calls s t) (terms_calls s ts) (grows_terms ts rest) (omega arith) (grows_term t after) (term_spread t after h.0) (terms_spread ts rest h.1))

      term_spread : (x : Term) (rest : List Kind) → IsIndexedTerm total x rest → Spread rest (put_term x rest) (term_calls s x)
      term_spread (term at f fs) rest h =
          let after : List Kind = put_factors fs rest in
          before rest after after (put_factor f after) (factor_calls s f) (factors_calls s fs) (grows_factors fs rest) (omega arith) (grows_factor f after) (factor_spread f after h.1) (factors_spread fs rest h.2)

      factors_spread : (x : Factors) (rest : List Kind) → AreIndexedFactors total x rest → Spread rest (put_factors x rest) (factors_calls s x)
      factors_spread no_factors rest h = none rest rest
      factors_spread (more_factors m f fs) rest h =
          let after : List Kind = put_factors fs rest in
          inside rest rest (put_factor f after) (put_factors (more_factors m f fs) rest) (factors_calls s (more_factors m f fs)) (omega arith) (omega arith)
          (before rest after after (put_factor f after) (factor_calls s f) (factors_calls s fs) (grows_factors fs rest) (omega arith) (grows_factor f after) (factor_spread f after h.0) (factors_spread fs rest h.1))

      factor_spread : (x : Factor) (rest : List Kind) → IsIndexedFactor total x rest → Spread rest (put_factor x rest) (factor_calls s x)
      factor_spread (number at n) rest h = none rest (kind.Number n ∷ rest)
      factor_spread (character at c) rest h = none rest (kind.Character c ∷ rest)
      factor_spread (named at (designator i ss) es) rest h =
          let d : Designator = designator i ss in
          let after : List Kind = put_arguments es rest in
          let chosen : List Kind = put_selectors ss after in
          let a : length rest ≤ length after = grows_arguments es rest in
          let b : length after ≤ length chosen = grows_selectors ss after in
          let parts : Spread rest chosen (selectors_calls s ss ++ expressions_calls s es) = before rest after after chosen (selectors_calls s ss) (expressions_calls s es) a (omega arith) b (selectors_spread ss after h.1.1) (arguments_spread es rest h.2) in
          behind rest chosen chosen (put_designator d after) (selectors_calls s ss ++ expressions_calls s es) (own_call (is_call s d) at d es) (omega (arith, a, b)) (omega arith) (omega arith) parts (own_spread (is_call s d) at d es (kind.Name i.name) chosen h.0)
      factor_spread (group at e) rest h =
          let last : List Kind = kind.Mark mark.CloseParenthesis ∷ rest in
          inside rest last (put_expression e last) (put_factor (group at e) rest) (expression_calls s e) (omega arith) (omega arith) (expression_spread e last h.1)
      factor_spread (negated at f) rest h = inside rest rest (put_factor f rest) (put_factor (negated at f) rest) (factor_calls s f) (omega arith) (omega arith) (factor_spread f rest h.1)
      factor_spread (set_of at es) rest h =
          let last : List Kind = kind.Mark mark.CloseBracket ∷ rest in
          inside rest last (put_expressions es last) (put_factor (set_of at es) rest) (expressions_calls s es) (omega arith) (omega arith) (expressions_spread es last h.1)

      arguments_spread : (x : Expressions) (rest : List Kind) → AreIndexedArguments total x rest → Spread rest (put_arguments x rest) (expressions_calls s x)
      arguments_spread no_expressions rest h = none rest rest
      arguments_spread (more_expressions e es) rest h =
          let last : List Kind = kind.Mark mark.CloseParenthesis ∷ rest in
          let after : List Kind = put_more_expressions es last in
          inside rest last (put_expression e after) (put_arguments (more_expressions e es) rest) (expressions_calls s (more_expressions e es)) (omega arith) (omega arith)
          (before last after after (put_expression e after) (expression_calls s e) (expressions_calls s es) (grows_more_expressions es last) (omega arith) (grows_expression e after) (expression_spread e after h.0) (more_spread es last h.1))

      expressions_spread : (x : Expressions) (rest : List Kind) → AreIndexedExpressions total x rest → Spread rest (put_expressions x rest) (expressions_calls s x)
      expressions_spread no_expressions rest h = none rest rest
      expressions_spread (more_expressions e es) rest h =
          let after : List Kind = put_more_expressions es rest in
          before rest after after (put_expression e after) (expression_calls s e) (expressions_calls s es) (grows_more_expressions es rest) (omega arith) (grows_expression e after) (expression_spread e after h.0) (more_spread es rest h.1)

      more_spread : (x : Expressions) (rest : List Kind) → AreIndexedMoreExpressions total x rest → Spread rest (put_more_expressions x rest) (expressions_calls s x)
      more_spread no_expressions rest h = none rest rest
      more_spread (more_expressions e es) rest h =
          let after : List Kind = put_more_expressions es rest in
          inside rest rest (put_expression e after) (put_more_expressions (more_expressions e es) rest) (expressions_calls s (more_expressions e es)) (omega arith) (omega arith)
          (before rest after after (put_expression e after) (expression_calls s e) (expressions_calls s es) (grows_more_expressions es rest) (omega arith) (grows_expression e after) (expression_spread e after h.0) (more_spread es rest h.1))

      designator_spread : (x : Designator) (rest : List Kind) → IsIndexedDesignator total x rest → Spread rest (put_designator x rest) (designator_calls s x)
      designator_spread (designator i ss) rest h = inside rest rest (put_selectors ss rest) (put_designator (designator i ss) rest) (selectors_calls s ss) (omega arith) (omega arith) (selectors_spread ss rest h.1)

      selectors_spread : (x : Selectors) (rest : List Kind) → AreIndexedSelectors total x rest → Spread rest (put_selectors x rest) (selectors_calls s x)
      selectors_spread no_selectors rest h = none rest rest
      selectors_spread (more_selectors c cs) rest h =
          let after : List Kind = put_selectors cs rest in
          before rest after after (put_selector c after) (selector_calls s c) (selectors_calls s cs) (grows_selectors cs rest) (omega arith) (grows_selector c after) (selector_spread c after h.0) (selectors_spread cs rest h.1)

      selector_spread : (x : Selector) (rest : List Kind) → IsIndexedSelector total x rest → Spread rest (put_selector x rest) (selector_calls s x)
      selector_spread (field i) rest h = none rest (put_selector (field i) rest)
      selector_spread (index e) rest h =
          let last : List Kind = kind.Mark mark.CloseBracket ∷ rest in
          inside rest last (put_expression e last) (put_selector (index e) rest) (expression_calls s e) (omega arith) (omega arith) (expression_spread e last h)

    -- ---- starts

    start_spread : (x : Start) (rest : List Kind) → IsIndexedStart total x rest → Spread rest (put_start x rest) (designator_calls s x.target ++ expressions_calls s x.arguments)
    start_spread x rest h =
        let after : List Kind = put_arguments x.arguments rest in
        before rest after after (put_start x rest) (designator_calls s x.target) (expressions_calls s x.arguments) (grows_arguments x.arguments rest) (omega arith) (grows_designator x.target after) (designator_spread x.target after h.0) (arguments_spread x.arguments rest h.1)

    more_starts_spread : (xs : List Start) (rest : List Kind) → AreAllIndexed (put_behind mark.Comma put_start) (IsIndexedStart total) xs rest → Spread rest (put_all (put_behind mark.Comma put_start) xs rest) (starts_calls s xs)
    more_starts_spread [] rest h = none rest rest
    more_starts_spread (x ∷ xs) rest h =
        let after : List Kind = put_all (put_behind mark.Comma put_start) xs rest in
        let own : List Item = designator_calls s x.target ++ expressions_calls s x.arguments in
        inside rest rest (put_start x after) (put_all (put_behind mark.Comma put_start) (x ∷ xs) rest) (starts_calls s (x ∷ xs)) (omega arith) (omega arith)
        (behind rest after after (put_start x after) (starts_calls s xs) own (grows_all (put_behind mark.Comma put_start) (grows_behind mark.Comma put_start grows_start) xs rest) (omega arith) (grows_start x after) (more_starts_spread xs rest h.1) (start_spread x after h.0))

    starts_spread : (xs : List Start) (rest : List Kind) → AreSeparatedIndexed mark.Comma put_start (IsIndexedStart total) xs rest → Spread rest (put_separated mark.Comma put_start xs rest) (starts_calls s xs)
    starts_spread [] rest h = absurd h
    starts_spread (x ∷ xs) rest h =
        let after : List Kind = put_all (put_behind mark.Comma put_start) xs rest in
        let own : List Item = designator_calls s x.target ++ expressions_calls s x.arguments in
        behind rest after after (put_start x after) (starts_calls s xs) own (grows_all (put_behind mark.Comma put_start) (grows_behind mark.Comma put_start grows_start) xs rest) (omega arith) (grows_start x after) (more_starts_spread xs rest h.1) (start_spread x after h.0)

    -- ---- statements

    mutual
      statement_spread : (x : Statement) (rest : List Kind) → IsIndexedStatement total x rest → Spread rest (put_statement x rest) (calls_laid s x)
      statement_spread (empty at) rest h = none rest rest
      statement_spread (assign at d e) rest h =
          let after : List Kind = kind.Mark mark.Becomes ∷ put_expression e rest in
          before rest (put_expression e rest) after (put_designator d after) (designator_calls s d) (expression_calls s e) (grows_expression e rest) (omega arith) (grows_designator d after) (designator_spread d after h.1) (expression_spread e rest h.2)
      statement_spread (invoke at d es) rest h =
          let after : List Kind = put_arguments es rest in
          before rest after after (put_designator d after) (designator_calls s d) (expressions_calls s es) (grows_arguments es rest) (omega arith) (grows_designator d after) (designator_spread d after h.1) (arguments_spread es rest h.2)
      statement_spread (block at ss) rest h =
          let last : List Kind = kind.Mark mark.End ∷ rest in
          inside rest last (put_statements ss last) (put_statement (block at ss) rest) (all_calls_laid s ss) (omega arith) (omega arith) (statements_spread ss last h.1)
      statement_spread (if_then at e t) rest h =
          let after : List Kind = kind.Mark mark.Then ∷ put_statement t rest in
          inside rest rest (put_expression e after) (put_statement (if_then at e t) rest) (calls_laid s (if_then at e t)) (omega arith) (omega arith)
          (behind rest (put_statement t rest) after (put_expression e after) (calls_laid s t) (expression_calls s e) (grows_statement t rest) (omega arith) (grows_expression e after) (statement_spread t rest h.2) (expression_spread e after h.1))
      statement_spread (if_else at e t u) rest h =
          let other : List Kind = kind.Mark mark.Else ∷ put_statement u rest in
          let after : List Kind = kind.Mark mark.Then ∷ put_statement t other in
          inside rest rest (put_expression e after) (put_statement (if_else at e t u) rest) (calls_laid s (if_else at e t u)) (omega arith) (omega arith)
          (amid rest (put_statement u rest) other (put_statement t other) after (put_expression e after) (calls_laid s t) (calls_laid s u) (expression_calls s e) (grows_statement u rest) (omega arith) (grows_statement t other) (omega arith) (grows_expression e after) (statement_spread t other h.2) (statement_spread u rest h.3) (expression_spread e after h.1))
      statement_spread (case_of at e bs b) rest h =
          let end : List Kind = kind.Mark mark.End ∷ rest in
          let last : List Kind = put_optional mark.Semicolon b end in
          let after : List Kind = kind.Mark mark.Of ∷ put_arms bs last in
          let longer : length end ≤ length last = grows_optional mark.Semicolon b end in
          inside rest last (put_expression e after) (put_statement (case_of at e bs b) rest) (calls_laid s (case_of at e bs b)) (omega (arith, longer)) (omega arith)
          (behind last (put_arms bs last) after (put_expression e after) (arms_calls_laid s bs) (expression_calls s e) (grows_arms bs last) (omega arith) (grows_expression e after) (arms_spread bs last h.2) (expression_spread e after h.1))
      statement_spread (while_do at e t) rest h =
          let after : List Kind = kind.Mark mark.Do ∷ put_statement t rest in
          inside rest rest (put_expression e after) (put_statement (while_do at e t) rest) (calls_laid s (while_do at e t)) (omega arith) (omega arith)
          (behind rest (put_statement t rest) after (put_expression e after) (calls_laid s t) (expression_calls s e) (grows_statement t rest) (omega arith) (grows_expression e after) (statement_spread t rest h.2) (expression_spread e after h.1))
      statement_spread (repeat_until at ss e) rest h =
          let after : List Kind = kind.Mark mark.Until ∷ put_expression e rest in
          inside rest rest (put_statements ss after) (put_statement (repeat_until at ss e) rest) (calls_laid s (repeat_until at ss e)) (omega arith) (omega arith)
          (before rest (put_expression e rest) after (put_statements ss after) (all_calls_laid s ss) (expression_calls s e) (grows_expression e rest) (omega arith) (grows_statements ss after) (statements_spread ss after h.1) (expression_spread e rest h.2))
      statement_spread (for_do at i e d f t) rest h =
          let body : List Kind = kind.Mark mark.Do ∷ put_statement t rest in
          let last : List Kind = put_expression f body in
          let after : List Kind = kind.Mark (direction_mark d) ∷ last in
          let both : Spread body (put_expression e after) (expression_calls s e ++ expression_calls s f) =
          before body last after (put_expression e after) (expression_calls s e) (expression_calls s f) (grows_expression f body) (omega arith) (grows_expression e after) (expression_spread e after h.2) (expression_spread f body h.3) in
          let a : length body ≤ length last = grows_expression f body in
          let b : length after ≤ length (put_expression e after) = grows_expression e after in
          inside rest rest (put_expression e after) (put_statement (for_do at i e d f t) rest) (calls_laid s (for_do at i e d f t)) (omega arith) (omega arith)
          (behind rest (put_statement t rest) body (put_expression e after) (calls_laid s t) (expression_calls s e ++ expression_calls s f) (grows_statement t rest) (omega arith) (omega (arith, a, b)) (statement_spread t rest h.4) both)
      statement_spread (cycle at ss) rest h =
          let last : List Kind = kind.Mark mark.End ∷ rest in
          inside rest last (put_statements ss last) (put_statement (cycle at ss) rest) (all_calls_laid s ss) (omega arith) (omega arith) (statements_spread ss last h.1)
      statement_spread (init at ts) rest h = inside rest rest (put_separated mark.Comma put_start ts rest) (put_statement (init at ts) rest) (starts_calls s ts) (omega arith) (omega arith) (starts_spread ts rest h.1)
      statement_spread (asserted at k e t) rest h =
          let after : List Kind = kind.Mark mark.Closes ∷ put_statement t rest in
          inside rest rest (put_expression e after) (put_statement (asserted at k e t) rest) (calls_laid s (asserted at k e t)) (omega arith) (omega arith)
          (behind rest (put_statement t rest) after (put_expression e after) (calls_laid s t) (expression_calls s e) (grows_statement t rest) (omega arith) (grows_expression e after) (statement_spread t rest h.3) (expression_spread e after h.2))

      pub statements_spread : (x : Statements) (rest : List Kind) → AreIndexedStatements total x rest → Spread rest (put_statements x rest) (all_calls_laid s x)
      statements_spread no_statements rest h = absurd h
      statements_spread (more_statements t ts) rest h =
          let after : List Kind = put_more_statements ts rest in
          behind rest after after (put_statement t after) (all_calls_laid s ts) (calls_laid s t) (grows_more_statements ts rest) (omega arith) (grows_statement t after) (more_statements_spread ts rest h.1) (statement_spread t after h.0)

      more_statements_spread : (x : Statements) (rest : List Kind) → AreIndexedMoreStatements total x rest → Spread rest (put_more_statements x rest) (all_calls_laid s x)
      more_statements_spread no_statements rest h = none rest rest
      more_statements_spread (more_statements t ts) rest h =
          let after : List Kind = put_more_statements ts rest in
          inside rest rest (put_statement t after) (put_more_statements (more_statements t ts) rest) (all_calls_laid s (more_statements t ts)) (omega arith) (omega arith)
          (behind rest after after (put_statement t after) (all_calls_laid s ts) (calls_laid s t) (grows_more_statements ts rest) (omega arith) (grows_statement t after) (more_statements_spread ts rest h.1) (statement_spread t after h.0))

      arms_spread : (x : Arms) (rest : List Kind) → AreIndexedArms total x rest → Spread rest (put_arms x rest) (arms_calls_laid s x)
      arms_spread no_arms rest h = absurd h
      arms_spread (more_arms a as') rest h =
          let after : List Kind = put_more_arms as' rest in
          before rest after after (put_arm a after) (arm_calls_laid s a) (arms_calls_laid s as') (grows_more_arms as' rest) (omega arith) (grows_arm a after) (arm_spread a after h.0) (more_arms_spread as' rest h.1)

      more_arms_spread : (x : Arms) (rest : List Kind) → AreIndexedMoreArms total x rest → Spread rest (put_more_arms x rest) (arms_calls_laid s x)
      more_arms_spread no_arms rest h = none rest rest
      more_arms_spread (more_arms a as') rest h =
          let after : List Kind = put_more_arms as' rest in
          inside rest rest (put_arm a after) (put_more_arms (more_arms a as') rest) (arms_calls_laid s (more_arms a as')) (omega arith) (omega arith)
          (before rest after after (put_arm a after) (arm_calls_laid s a) (arms_calls_laid s as') (grows_more_arms as' rest) (omega arith) (grows_arm a after) (arm_spread a after h.0) (more_arms_spread as' rest h.1))

      arm_spread : (x : Arm) (rest : List Kind) → IsIndexedArm total x rest → Spread rest (put_arm x rest) (arm_calls_laid s x)
      arm_spread (arm cs t) rest h =
          let after : List Kind = kind.Mark mark.Colon ∷ put_statement t rest in
          let longer : length after ≤ length (put_arm (arm cs t) rest) = grows_separated mark.Comma put_constant grows_constant cs after in
          inside rest rest (put_statement t rest) (put_arm (arm cs t) rest) (calls_laid s t) (omega arith) (omega (arith, longer)) (statement_spread t rest h.1)

    -- ---- invariants

    said_spread : (x : Statement) (rest : List Kind) → AreIndexedInvariants total x rest → Spread rest (put_statement x rest) (calls_laid s x)
    said_spread (empty at) rest h = none rest rest
    said_spread (asserted at k e t) rest h =
        let after : List Kind = kind.Mark mark.Closes ∷ put_statement t rest in
        inside rest rest (put_expression e after) (put_statement (asserted at k e t) rest) (calls_laid s (asserted at k e t)) (omega arith) (omega arith)
        (behind rest (put_statement t rest) after (put_expression e after) (calls_laid s t) (expression_calls s e) (grows_statement t rest) (omega arith) (grows_expression e after) (said_spread t rest h.3) (expression_spread e after h.2))
    said_spread _ rest h = absurd h

    pub says_spread : (x : Statements) (rest : List Kind) → IsIndexedInvariantBody total x rest → Spread rest (put_statements x rest) (all_calls_laid s x)
    says_spread (more_statements (asserted at k e t) no_statements) rest h = said_spread (asserted at k e t) rest h
    says_spread _ rest h = absurd h
