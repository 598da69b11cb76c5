-- An annotation that breaks no rule calls nothing, also as the meaning sees it (C22).
use Rattle.std.proofs.Common.{◌≡◌, ◌∙◌, ℕ, ◌+◌, Bool, true, false, not, List, [], ◌∷◌, ◌++◌, Option, Some, None, Ok, Err, refl, ap, sym, subst}
use Rattle.cp_tree.specs.Syntax.{Expression, alone, related, Sum, sum, Terms, no_terms, more_terms as terms_more, Term, term, Factors, no_factors, more_factors as factors_more, Factor, number, character, named, group, negated, set_of, Expressions, no_expressions, more_expressions, Designator, designator as name_with, Selectors, no_selectors, more_selectors, Selector, field, index, Statement, empty, asserted, Statements, no_statements, more_statements}
use Rattle.cp_tree.specs.View.{expression_at}
use Rattle.cp_scope.specs.declared.fault.CheckFault.{CheckFault}
use Rattle.cp_scope.specs.declared.fault.Rule.TheVariants.{C22}
use Rattle.cp_scope.specs.declared.count.Use.{Use}
use Rattle.cp_scope.specs.declared.types.ValueType.{ValueType}
use Rattle.cp_scope.specs.Counts.{no_use}
use Rattle.cp_scope.specs.Judged.{Judged, both, ◌>>=◌}
use Rattle.cp_scope.specs.Scopes.{Scopes, heading_at, body_at}
use Rattle.cp_check.specs.declared.operand.Context.{Context}
use Rattle.cp_check.specs.declared.operand.Operand.{Operand}
use Rattle.cp_check.specs.declared.operand.DesignatedName.{DesignatedName}
use Rattle.cp_check.specs.declared.operand.Named.{Named}
use Rattle.cp_check.specs.declared.operand.Named.TheVariants as name
use Rattle.cp_check.specs.Operands.{quiet}
use Rattle.cp_check.specs.Names as names
use Rattle.cp_check.specs.Operations as operations
use Rattle.cp_check.specs.Calls as calls
use Rattle.cp_check.specs.Expressions as expressions
use Rattle.cp_check.specs.Statements as statements
use Rattle.cp_meaning.specs.Scopes as scopes
use Rattle.cp_meaning.specs.State.{Item, statement_item, function_call, start_item, until, successor, return, init_end, end}
use Rattle.cp_meaning.specs.Lifting.{is_call, is_call_meant, last_field, own_call, expression_calls, sum_calls, terms_calls, term_calls, factors_calls, factor_calls, expressions_calls, designator_calls, selectors_calls, selector_calls}
use Rattle.cp_resolved.specs.Compiled.{Designated, designator_form}
use Rattle.cp_resolved.specs.Layouts.{Here}
use Rattle.cp_resolved.specs.Typed.{Tokens, ConstantIs, StandardIs, ScopesAgree}
use Rattle.cp_resolved.proofs.agreeing.WithoutFaults.{Then, then_of, Both, both_of}
use Rattle.cp_resolved.proofs.declarations.Nameless.{IsSaid, SaysSome}
use Rattle.cp_resolved.proofs.forms.Quiet.{Follows, expression_follows}
use Rattle.cp_resolved.proofs.forms.TypingExpressions.{designator_named}
use Rattle.cp_resolved.proofs.forms.TypingNames.{NamedIs}
use Rattle.cp_resolved.proofs.forms.TypingValues.{IsValue, held_value}
use Rattle.cp_resolved.proofs.statements.ExpressionsJudged.{FunctionSaid, AllSaid}
use Rattle.cp_resolved.proofs.statements.StatementsJudged.{StatementSaid, StatementsSaid}
use Rattle.cp_annotation_laws.specs.Invariants.{said, all_said}
use Rattle.cp_annotation_laws.proofs.invariants.Standing.{AreQuiet}

-- ---- what holds of all that is judged

abbrev All : {A : Type 0} → (A → Type 0) → Judged A → Type 0
All P (Ok a) = P a
All P (Err fs) = Unit {0}

all_both : {A B : Type 0} (P : A → Type 0) (Q : B → Type 0) (j : Judged A) (k : Judged B) → All P j → All Q k → All (λ (x : A × B). P x.0 × Q x.1) (both j k)
all_both P Q (Ok a) (Ok b) h g = (h, g)
all_both P Q (Ok a) (Err fs) h g = tt
all_both P Q (Err fs) (Ok b) h g = tt
all_both P Q (Err fs) (Err gs) h g = tt

all_then : {A B : Type 0} (P : A → Type 0) (Q : B → Type 0) (j : Judged A) (f : A → Judged B) → All P j → ((a : A) → P a → All Q (f a)) → All Q (j >>= f)
all_then P Q (Ok a) f h g = g a h
all_then P Q (Err fs) f h g = tt

-- what does not depend on what was judged
always : {A : Type 0} (P : Type 0) (j : Judged A) → P → All (λ (a : A). P) j
always P (Ok a) h = h
always P (Err fs) h = tt

all_as : {A : Type 0} (P Q : A → Type 0) (j : Judged A) → All P j → ((a : A) → P a → Q a) → All Q j
all_as P Q (Ok a) h g = g a h
all_as P Q (Err fs) h g = tt

all_two : {A : Type 0} (P Q : A → Type 0) (j : Judged A) → All P j → All Q j → All (λ (a : A). P a × Q a) j
all_two P Q (Ok a) h g = (h, g)
all_two P Q (Err fs) h g = tt

all_follow : {A : Type 0} (j k : Judged A) → Follows j k → All (λ (a : A). k ≡ Ok a) j
all_follow (Ok a) k h = h a refl
all_follow (Err fs) k h = tt

of_all : {A : Type 0} (P : A → Type 0) (j : Judged A) (a : A) → j ≡ Ok a → All P j → P a
of_all P j a e h = (let g : All P (Ok a) = subst (All P) e h in g)

-- ---- lists without anything

abbrev none_there : List Item
none_there = []

both_none : (xs ys : List Item) → xs ≡ [] → ys ≡ [] → xs ++ ys ≡ []
both_none xs ys h k = ap (λ (zs : List Item). zs ++ ys) h ∙ k

left_none : {A : Type 0} (xs ys : List A) → xs ++ ys ≡ [] → xs ≡ []
left_none [] ys e = refl
left_none (x ∷ xs) ys e = absurd (cc)

right_none : {A : Type 0} (xs ys : List A) → xs ++ ys ≡ [] → ys ≡ []
right_none [] ys e = e
right_none (x ∷ xs) ys e = absurd (cc)

constant_uncalled : (tokens : Tokens) (b : _) (z : _) (m : Option scopes.Meaning) (x : _) → ConstantIs tokens b z m → is_call_meant m x ≡ false
constant_uncalled tokens b z (Some (scopes.constant_meaning c y)) x h = refl
constant_uncalled tokens b z _ x h = absurd h

standard_uncalled : (q : _) (m : Option scopes.Meaning) (x : _) → StandardIs q m → is_call_meant m x ≡ false
standard_uncalled q (Some (scopes.standard_meaning g)) x h = refl
standard_uncalled q _ x h = absurd h

called_not : {A : Type 0} (b : Bool) → b ≡ true → b ≡ false → A
called_not b h k = absurd (let bad : true ≡ false = sym h ∙ k in cc)

module _ (tokens : Tokens) (s : Scopes) (h : Here) (w : Context) (f : Bool) (agrees : ScopesAgree tokens s h) where
  abbrev c : scopes.Scope
  c = h.scope

  abbrev Said : List Item → Type 0
  Said is = AllSaid s w f c is

  said_left : (xs ys : List Item) → Said (xs ++ ys) → Said xs
  said_left [] ys k = tt
  said_left (function_call at d es ∷ xs) ys k = (k.0, said_left xs ys k.1)
  said_left (statement_item t ∷ xs) ys k = absurd k
  said_left (start_item t ∷ xs) ys k = absurd k
  said_left (until ss e ∷ xs) ys k = absurd k
  said_left (successor at i z d l t ∷ xs) ys k = absurd k
  said_left (return o ∷ xs) ys k = absurd k
  said_left (init_end m ∷ xs) ys k = absurd k
  said_left (end ∷ xs) ys k = absurd k

  said_right : (xs ys : List Item) → Said (xs ++ ys) → Said ys
  said_right [] ys k = k
  said_right (function_call at d es ∷ xs) ys k = said_right xs ys k.1
  said_right (statement_item t ∷ xs) ys k = absurd k
  said_right (start_item t ∷ xs) ys k = absurd k
  said_right (until ss e ∷ xs) ys k = absurd k
  said_right (successor at i z d l t ∷ xs) ys k = absurd k
  said_right (return o ∷ xs) ys k = absurd k
  said_right (init_end m ∷ xs) ys k = absurd k
  said_right (end ∷ xs) ys k = absurd k

  -- ---- each call in an annotation breaks a rule

  never_quiet : (at name_at : ℕ) (b : Bool) (n : ℕ) (os : List Operand) → calls.call_faults s (quiet w) at name_at b n os ≡ [] → ⊥
  never_quiet at name_at b n os none = go b later last
    where
      entry : List CheckFault
      entry = calls.entry_faults name_at b (heading_at n s).is_entry

      own : List CheckFault
      own = calls.own_faults name_at (quiet w) n

      delay : List CheckFault
      delay = calls.delay_faults name_at (quiet w) b (body_at n s)

      behind : calls.quiet_faults at (quiet w) (not b) ++ (entry ++ (own ++ (delay ++ (calls.quiet_faults at (quiet w) b ++ calls.assignable_faults (heading_at n s).parameters os)))) ≡ []
      behind = right_none (calls.fit_faults at (heading_at n s).parameters os) _ none

      later : calls.quiet_faults at (quiet w) (not b) ≡ []
      later = left_none (calls.quiet_faults at (quiet w) (not b)) _ behind

      last : calls.quiet_faults at (quiet w) b ≡ []
      last = left_none (calls.quiet_faults at (quiet w) b) _ (right_none delay _ (right_none own _ (right_none entry _ (right_none (calls.quiet_faults at (quiet w) (not b)) _ behind))))

      go : (x : Bool) → calls.quiet_faults at (quiet w) (not x) ≡ [] → calls.quiet_faults at (quiet w) x ≡ [] → ⊥
      go true i j = let bad : calls.fault at C22 ≡ [] = j in cc
      go false i j = let bad : calls.fault at C22 ≡ [] = i in cc

  unless_never : {A : Type 0} (fs : List CheckFault) (x : A) → (fs ≡ [] → ⊥) → All (λ (a : A). ⊥) (calls.unless fs x)
  unless_never [] x never = absurd (never refl)
  unless_never (y ∷ fs) x never = tt

  function_never : (P : Type 0) (at name_at : ℕ) (b : Bool) (n : ℕ) (os : List Operand) (u : Use) (o : Option ValueType) → All (λ (x : Operand). P) (calls.function_of s (quiet w) at name_at b n os u o)
  unfolding calls.check_routine_call
  function_never P at name_at b n os u None = tt
  function_never P at name_at b n os u (Some t) =
      all_then (λ (v : Use). ⊥) (λ (x : Operand). P) (calls.check_routine_call s (quiet w) at name_at b n os u) (calls.with_result at t) (unless_never (calls.call_faults s (quiet w) at name_at b n os) _ (never_quiet at name_at b n os)) (λ v k. absurd k)

  -- what is called is a routine, so it breaks a rule there
  value_never : (P : Type 0) (at : ℕ) (d : DesignatedName) (os : List Operand) (m : Named) (i : _) (q : Option scopes.Meaning) (x : _) (o : Option Designated) → NamedIs tokens s h i q x m o → is_call_meant q x ≡ true → All (λ (y : Operand). P) (calls.value_by_name s (quiet w) at d os m)
  unfolding calls.function_value
  value_never P at d os (name.Constant b) i q x o k is = called_not (is_call_meant q x) is (constant_uncalled tokens b k.0 q x k.1)
  value_never P at d os (name.Variable u) i q x o k is = (let z : IsValue tokens s h w q x = held_value tokens s h w q x u o k in called_not (is_call_meant q x) is z.call)
  value_never P at d os (name.Parameter u) i q x o k is = (let z : IsValue tokens s h w q x = held_value tokens s h w q x u o k in called_not (is_call_meant q x) is z.call)
  value_never P at d os (name.Predeclared g) i q x o k is = called_not (is_call_meant q x) is (standard_uncalled g q x k)
  value_never P at d os (name.Routine n) i q x o k is = function_never P at d.name_at true n os d.uses (heading_at n s).result
  value_never P at d os (name.Entry n) i q x o k is = function_never P at d.name_at false n os d.uses (heading_at n s).result
  value_never P at d os name.Kind i q x o k is = tt
  value_never P at d os name.Nothing i q x o k is = tt

  -- ---- designators are the same in an annotation

  follow_then : {A B : Type 0} (j k : Judged A) (g : A → Judged B) → Follows j k → Follows (j >>= g) (k >>= g)
  follow_then j k g fl b e = (let x : Then j g b = then_of j g b e in ap (λ z. z >>= g) (fl x.value x.is) ∙ x.rest)

  follow_both : {A B : Type 0} (j k : Judged A) (l m : Judged B) → Follows j k → Follows l m → Follows (both j l) (both k m)
  follow_both j k l m fl gl r e = (let x : Both j l r = both_of j l r e in ap (λ z. both z m) (fl r.0 x.first) ∙ ap (λ z. both (Ok r.0) z) (gl r.1 x.second))

  selectors_follow : (ss : Selectors) (j k : Judged DesignatedName) → Follows j k → Follows (expressions.selectors s (quiet w) j ss) (expressions.selectors s w k ss)
  unfolding expressions.expression
  selectors_follow no_selectors j k fl = fl
  selectors_follow (more_selectors (field i) ss) j k fl = selectors_follow ss (j >>= names.member_of s i) (k >>= names.member_of s i) (follow_then j k (names.member_of s i) fl)
  selectors_follow (more_selectors (index e) ss) j k fl =
      selectors_follow ss (both j (expressions.expression s (quiet w) false e) >>= expressions.at_index s) (both k (expressions.expression s w false e) >>= expressions.at_index s)
      (follow_then (both j (expressions.expression s (quiet w) false e)) (both k (expressions.expression s w false e)) (expressions.at_index s) (follow_both j k (expressions.expression s (quiet w) false e) (expressions.expression s w false e) fl (expression_follows s w false e)))

  designator_follows : (d : Designator) → Follows (expressions.designator s (quiet w) d) (expressions.designator s w d)
  unfolding expressions.expression
  designator_follows (name_with n ss) = follow_then (expressions.selectors s (quiet w) (names.meaning_of_name s n) ss) (expressions.selectors s w (names.meaning_of_name s n) ss) (names.check_selectors n.at) (selectors_follow ss (names.meaning_of_name s n) (names.meaning_of_name s n) (λ a e. e))

  -- ---- nothing is called

  value_none : (at : ℕ) (d : Designator) (es : Expressions) (P : Type 0) → (b : Bool) → is_call c d ≡ b → Said (own_call b at d es) → (x : DesignatedName) (os : List Operand) → expressions.designator s w d ≡ Ok x → P → All (λ (o : Operand). P × (own_call b at d es ≡ [])) (calls.value_of s (quiet w) at (x, os))
  unfolding calls.value_of
  value_none at d es P false is k x os e z = always (P × (none_there ≡ [])) (calls.value_by_name s (quiet w) at x os x.named) (z, refl)
  value_none at (name_with i ss) es P true is k x os e z =
      let y : FunctionSaid s w f c (name_with i ss) = k.0 in
      value_never (P × (function_call at (name_with i ss) es ∷ [] ≡ [])) at x os x.named i.name (scopes.find i.name c) (last_field ss) (designator_form h (name_with i ss)) (designator_named tokens s h w agrees i ss x y.small e) is

  mutual
    unfolding expressions.expression

    expression_none : (e : Expression) → Said (expression_calls c e) → All (λ (o : Operand). expression_calls c e ≡ []) (expressions.expression s (quiet w) false e)
    expression_none (alone at a) k = sum_none a k
    expression_none (related at a r b) k =
        all_then (λ (x : Operand × Operand). (sum_calls c a ≡ []) × (sum_calls c b ≡ [])) (λ (o : Operand). sum_calls c a ++ sum_calls c b ≡ []) (both (expressions.sum_value s (quiet w) false a) (expressions.sum_value s (quiet w) false b)) (operations.relation_value at r)
        (all_both (λ (o : Operand). sum_calls c a ≡ []) (λ (o : Operand). sum_calls c b ≡ []) _ _ (sum_none a (said_left (sum_calls c a) (sum_calls c b) k)) (sum_none b (said_right (sum_calls c a) (sum_calls c b) k)))
        (λ x z. always (sum_calls c a ++ sum_calls c b ≡ []) (operations.relation_value at r x) (both_none (sum_calls c a) (sum_calls c b) z.0 z.1))

    sum_none : (a : Sum) → Said (sum_calls c a) → All (λ (o : Operand). sum_calls c a ≡ []) (expressions.sum_value s (quiet w) false a)
    sum_none (sum at sign t ts) k =
        all_then (λ (o : Option Operand). (term_calls c t ≡ []) × (terms_calls c ts ≡ [])) (λ (o : Operand). term_calls c t ++ terms_calls c ts ≡ []) _ (operations.check_agreement at)
        (terms_none at ts _ (term_calls c t)
        (all_then (λ (o : Operand). term_calls c t ≡ []) (λ (o : Option Operand). term_calls c t ≡ []) _ (expressions.first_term at sign) (term_none t (said_left (term_calls c t) (terms_calls c ts) k)) (λ o z. z))
        (said_right (term_calls c t) (terms_calls c ts) k))
        (λ o z. always (term_calls c t ++ terms_calls c ts ≡ []) (operations.check_agreement at o) (both_none (term_calls c t) (terms_calls c ts) z.0 z.1))

    terms_none : (at : ℕ) (ts : Terms) (j : Judged (Option Operand)) (xs : List Item) → All (λ (o : Option Operand). xs ≡ []) j → Said (terms_calls c ts) → All (λ (o : Option Operand). (xs ≡ []) × (terms_calls c ts ≡ [])) (expressions.more_terms s (quiet w) at j ts)
    terms_none at no_terms j xs z k = all_as (λ (o : Option Operand). xs ≡ []) (λ (o : Option Operand). (xs ≡ []) × (none_there ≡ [])) j z (λ o x. (x, refl))
    terms_none at (terms_more a t ts) j xs z k =
        all_as (λ (o : Option Operand). (xs ++ term_calls c t ≡ []) × (terms_calls c ts ≡ [])) (λ (o : Option Operand). (xs ≡ []) × (term_calls c t ++ terms_calls c ts ≡ [])) _
        (terms_none at ts _ (xs ++ term_calls c t)
        (all_then (λ (x : Option Operand × Operand). (xs ≡ []) × (term_calls c t ≡ [])) (λ (o : Option Operand). xs ++ term_calls c t ≡ []) _ (expressions.sum_so_far at a) (all_both (λ (o : Option Operand). xs ≡ []) (λ (o : Operand). term_calls c t ≡ []) j _ z (term_none t (said_left (term_calls c t) (terms_calls c ts) k))) (λ x y. both_none xs (term_calls c t) y.0 y.1))
        (said_right (term_calls c t) (terms_calls c ts) k))
        (λ o x. (left_none xs (term_calls c t) x.0, both_none (term_calls c t) (terms_calls c ts) (right_none xs (term_calls c t) x.0) x.1))

    term_none : (t : Term) → Said (term_calls c t) → All (λ (o : Operand). term_calls c t ≡ []) (expressions.term_value s (quiet w) false t)
    term_none (term at x fs) k =
        all_then (λ (o : Option Operand). (factor_calls c x ≡ []) × (factors_calls c fs ≡ [])) (λ (o : Operand). factor_calls c x ++ factors_calls c fs ≡ []) _ (operations.check_agreement at)
        (factors_none at fs _ (factor_calls c x)
        (all_then (λ (o : Operand). factor_calls c x ≡ []) (λ (o : Option Operand). factor_calls c x ≡ []) _ expressions.some_operand (factor_none x (said_left (factor_calls c x) (factors_calls c fs) k)) (λ o z. z))
        (said_right (factor_calls c x) (factors_calls c fs) k))
        (λ o z. always (factor_calls c x ++ factors_calls c fs ≡ []) (operations.check_agreement at o) (both_none (factor_calls c x) (factors_calls c fs) z.0 z.1))

    factors_none : (at : ℕ) (fs : Factors) (j : Judged (Option Operand)) (xs : List Item) → All (λ (o : Option Operand). xs ≡ []) j → Said (factors_calls c fs) → All (λ (o : Option Operand). (xs ≡ []) × (factors_calls c fs ≡ [])) (expressions.more_factors s (quiet w) at j fs)
    factors_none at no_factors j xs z k = all_as (λ (o : Option Operand). xs ≡ []) (λ (o : Option Operand). (xs ≡ []) × (none_there ≡ [])) j z (λ o x. (x, refl))
    factors_none at (factors_more m x fs) j xs z k =
        all_as (λ (o : Option Operand). (xs ++ factor_calls c x ≡ []) × (factors_calls c fs ≡ [])) (λ (o : Option Operand). (xs ≡ []) × (factor_calls c x ++ factors_calls c fs ≡ [])) _
        (factors_none at fs _ (xs ++ factor_calls c x)
        (all_then (λ (y : Option Operand × Operand). (xs ≡ []) × (factor_calls c x ≡ [])) (λ (o : Option Operand). xs ++ factor_calls c x ≡ []) _ (expressions.product_so_far at m) (all_both (λ (o : Option Operand). xs ≡ []) (λ (o : Operand). factor_calls c x ≡ []) j _ z (factor_none x (said_left (factor_calls c x) (factors_calls c fs) k))) (λ y u. both_none xs (factor_calls c x) u.0 u.1))
        (said_right (factor_calls c x) (factors_calls c fs) k))
        (λ o y. (left_none xs (factor_calls c x) y.0, both_none (factor_calls c x) (factors_calls c fs) (right_none xs (factor_calls c x) y.0) y.1))

    factor_none : (x : Factor) → Said (factor_calls c x) → All (λ (o : Operand). factor_calls c x ≡ []) (expressions.factor s (quiet w) false x)
    factor_none (number at n) k = refl
    factor_none (character at n) k = refl
    factor_none (named at d es) k =
        let before : List Item = designator_calls c d ++ expressions_calls c es in
        let own : List Item = own_call (is_call c d) at d es in
        all_then (λ (x : DesignatedName × List Operand). ((designator_calls c d ≡ []) × (expressions.designator s w d ≡ Ok x.0)) × (expressions_calls c es ≡ [])) (λ (o : Operand). before ++ own ≡ []) _ (calls.value_of s (quiet w) at)
        (all_both (λ (x : DesignatedName). (designator_calls c d ≡ []) × (expressions.designator s w d ≡ Ok x)) (λ (os : List Operand). expressions_calls c es ≡ []) _ _
        (all_two (λ (x : DesignatedName). designator_calls c d ≡ []) (λ (x : DesignatedName). expressions.designator s w d ≡ Ok x) _ (designator_none d (said_left (designator_calls c d) (expressions_calls c es) (said_left before own k))) (all_follow (expressions.designator s (quiet w) d) (expressions.designator s w d) (designator_follows d)))
        (arguments_none 0 es (said_right (designator_calls c d) (expressions_calls c es) (said_left before own k))))
        (λ x z.
        all_as (λ (o : Operand). (before ≡ []) × (own ≡ [])) (λ (o : Operand). before ++ own ≡ []) (calls.value_of s (quiet w) at x)
        (value_none at d es (before ≡ []) (is_call c d) refl (said_right before own k) x.0 x.1 z.0.1 (both_none (designator_calls c d) (expressions_calls c es) z.0.0 z.1))
        (λ o y. both_none before own y.0 y.1))
    factor_none (group at e) k = all_then (λ (o : Operand). expression_calls c e ≡ []) (λ (o : Operand). expression_calls c e ≡ []) _ (expressions.to_group at) (expression_none e k) (λ o z. z)
    factor_none (negated at x) k = all_then (λ (o : Operand). factor_calls c x ≡ []) (λ (o : Operand). factor_calls c x ≡ []) _ (operations.negation_of at) (factor_none x k) (λ o z. always (factor_calls c x ≡ []) (operations.negation_of at o) z)
    factor_none (set_of at es) k = all_then (λ (os : List Operand). expressions_calls c es ≡ []) (λ (o : Operand). expressions_calls c es ≡ []) _ (expressions.set_value at) (arguments_none 0 es k) (λ os z. always (expressions_calls c es ≡ []) (expressions.set_value at os) z)

    designator_none : (d : Designator) → Said (designator_calls c d) → All (λ (x : DesignatedName). designator_calls c d ≡ []) (expressions.designator s (quiet w) d)
    designator_none (name_with n ss) k =
        all_then (λ (x : DesignatedName). (none_there ≡ []) × (selectors_calls c ss ≡ [])) (λ (x : DesignatedName). selectors_calls c ss ≡ []) _ (names.check_selectors n.at) (selectors_none ss (names.meaning_of_name s n) [] (always (none_there ≡ []) (names.meaning_of_name s n) refl) k)
        (λ x z. always (selectors_calls c ss ≡ []) (names.check_selectors n.at x) z.1)

    selectors_none : (ss : Selectors) (j : Judged DesignatedName) (xs : List Item) → All (λ (x : DesignatedName). xs ≡ []) j → Said (selectors_calls c ss) → All (λ (x : DesignatedName). (xs ≡ []) × (selectors_calls c ss ≡ [])) (expressions.selectors s (quiet w) j ss)
    selectors_none no_selectors j xs z k = all_as (λ (x : DesignatedName). xs ≡ []) (λ (x : DesignatedName). (xs ≡ []) × (none_there ≡ [])) j z (λ x y. (y, refl))
    selectors_none (more_selectors x ss) j xs z k =
        all_as (λ (y : DesignatedName). (xs ++ selector_calls c x ≡ []) × (selectors_calls c ss ≡ [])) (λ (y : DesignatedName). (xs ≡ []) × (selector_calls c x ++ selectors_calls c ss ≡ [])) _
        (selectors_none ss _ (xs ++ selector_calls c x) (selector_none x j xs z (said_left (selector_calls c x) (selectors_calls c ss) k)) (said_right (selector_calls c x) (selectors_calls c ss) k))
        (λ y u. (left_none xs (selector_calls c x) u.0, both_none (selector_calls c x) (selectors_calls c ss) (right_none xs (selector_calls c x) u.0) u.1))

    selector_none : (x : Selector) (j : Judged DesignatedName) (xs : List Item) → All (λ (y : DesignatedName). xs ≡ []) j → Said (selector_calls c x) → All (λ (y : DesignatedName). xs ++ selector_calls c x ≡ []) (expressions.selector s (quiet w) j x)
    selector_none (field i) j xs z k = all_then (λ (y : DesignatedName). xs ≡ []) (λ (y : DesignatedName). xs ++ [] ≡ []) j (names.member_of s i) z (λ y u. always (xs ++ [] ≡ []) (names.member_of s i y) (both_none xs [] u refl))
    selector_none (index e) j xs z k =
        all_then (λ (y : DesignatedName × Operand). (xs ≡ []) × (expression_calls c e ≡ [])) (λ (y : DesignatedName). xs ++ expression_calls c e ≡ []) _ (expressions.at_index s) (all_both (λ (y : DesignatedName). xs ≡ []) (λ (o : Operand). expression_calls c e ≡ []) j _ z (expression_none e k)) (λ y u. both_none xs (expression_calls c e) u.0 u.1)

    arguments_none : (n : ℕ) (es : Expressions) → Said (expressions_calls c es) → All (λ (os : List Operand). expressions_calls c es ≡ []) (expressions.arguments s (quiet w) [] n es)
    arguments_none n no_expressions k = refl
    arguments_none n (more_expressions e es) k =
        all_then (λ (x : Operand × List Operand). (expression_calls c e ≡ []) × (expressions_calls c es ≡ [])) (λ (os : List Operand). expression_calls c e ++ expressions_calls c es ≡ []) _ expressions.before
        (all_both (λ (o : Operand). expression_calls c e ≡ []) (λ (os : List Operand). expressions_calls c es ≡ []) _ _ (expression_none e (said_left (expression_calls c e) (expressions_calls c es) k)) (arguments_none (n + 1) es (said_right (expression_calls c e) (expressions_calls c es) k)))
        (λ x z. both_none (expression_calls c e) (expressions_calls c es) z.0 z.1)

  -- ---- what invariants say

  said_quiet : (t : Statement) → IsSaid t → (r : Use) → statements.statement s w t ≡ Ok r → StatementSaid s w f c t → AreQuiet c (said t)
  unfolding statements.statement statements.assertion
  said_quiet (empty at) i r e k = tt
  said_quiet (asserted at a e t) i r is k =
      let x : Then (both (statements.assertion s w e) (statements.statement s w t)) statements.together r = then_of (both (statements.assertion s w e) (statements.statement s w t)) statements.together r is in
      let y : Both (statements.assertion s w e) (statements.statement s w t) x.value = both_of (statements.assertion s w e) (statements.statement s w t) x.value x.is in
      let z = then_of (expressions.expression s (quiet w) false e) (λ (o : Operand). statements.check_test (expression_at e) o o.uses) x.value.0 y.first in
      (of_all (λ (o : Operand). expression_calls c e ≡ []) (expressions.expression s (quiet w) false e) z.value z.is (expression_none e k.0), said_quiet t i x.value.1 y.second k.1)
  said_quiet _ i r e k = absurd i

  ends_here : (s : scopes.Scope) (es : List Expression) → AreQuiet s es → AreQuiet s (es ++ [])
  ends_here s [] k = tt
  ends_here s (e ∷ es) k = (k.0, ends_here s es k.1)

  pub body_quiet : (ss : Statements) → SaysSome ss → (r : Use) → statements.statements s w (Ok no_use) ss ≡ Ok r → StatementsSaid s w f c ss → AreQuiet c (all_said ss)
  unfolding statements.statement
  body_quiet (more_statements (asserted at a e t) no_statements) i r is k =
      let x : Then (both (Ok no_use) (statements.statement s w (asserted at a e t))) statements.together r = then_of (both (Ok no_use) (statements.statement s w (asserted at a e t))) statements.together r is in
      let y : Both (Ok no_use) (statements.statement s w (asserted at a e t)) x.value = both_of (Ok no_use) (statements.statement s w (asserted at a e t)) x.value x.is in
      ends_here c (said (asserted at a e t)) (said_quiet (asserted at a e t) i x.value.1 y.second k.0)
  body_quiet _ i r is k = absurd i
