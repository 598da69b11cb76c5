-- An expression that calls nothing and asks for no `empty` is the same of two components that differ only in their queues, whatever calls are open below.
use Rattle.std.proofs.Common.{◌≡◌, ◌∙◌, ℕ, ◌-◌, ℤ, pos, ◌+ℤ◌, neg_ℤ, int_lt, Bool, true, false, ◌||◌, if◌then◌else◌, List, [], ◌∷◌, ◌++◌, length, Option, Some, None, Ok, Err, ap, sym, refl, subst, eq-eqb, arith}
use Rattle.cp_tree.specs.Syntax.{Expression, alone, related, Sum, sum, Terms, no_terms, more_terms, Term, term, Factors, no_factors, more_factors, Factor, number, character, named, group, negated, set_of, Expressions, no_expressions, more_expressions, Designator, designator, Selectors, no_selectors, more_selectors, Selector, field, index, Program}
use Rattle.cp_tree.specs.declared.constant.Sign.{Sign}
use Rattle.cp_tree.specs.declared.constant.Sign.TheVariants as sign
use Rattle.cp_meaning.specs.Names.{Name}
use Rattle.cp_meaning.specs.Outcome.{ErrorName, out_of_range, Outcome, ◌>>=◌}
use Rattle.cp_meaning.specs.Types.{Ty, ordinal, array_over, set_over, all_integers, queue_type, record_with, component_of, is_within, natural_of, all_characters, field_type}
use Rattle.cp_meaning.specs.Values.{with_member, number_of, Choice, the_element, the_field, part_at}
use Rattle.cp_meaning.specs.Scopes.{Meaning, constant_meaning, type_meaning, local_variable, permanent_variable, routine_meaning, standard_meaning, Standard, succ_function, pred_function, chr_function, ord_function, abs_function, empty_function, delay_procedure, continue_procedure, display_procedure, Scope, find}
use Rattle.cp_meaning.specs.State.{Place, Component, component_at, Call, Item, Environment}
use Rattle.cp_meaning.specs.Places.{View, Target, environment_of, target_meant, target_named, with_choice, value_at, value_held, content_of, this_call, plain_place, call_above, referred}
use Rattle.cp_meaning.specs.Operations.{Typed, truth, is_true, signed_value, added_values, multiplied_values, related_values, set_of_members, standard_value}
use Rattle.cp_meaning.specs.Expressions.{value, sum_value, terms_value, term_value, factors_value, factor_value, members_value, first_value, target_value, selected, chosen, named_value, name_of, with_index, with_element_of, with_member_checked, with_field}
use Rattle.cp_meaning.specs.Lifting.{is_call, is_call_meant, last_field, own_call, expression_calls, sum_calls, terms_calls, term_calls, factors_calls, factor_calls, expressions_calls, designator_calls, selectors_calls, selector_calls}
use Rattle.cp_annotation_laws.specs.Invariants.{is_empty_meant, asks_empty, sum_asks, terms_ask, term_asks, factors_ask, factor_asks, expressions_ask, designator_asks, selectors_ask, selector_asks}
use Rattle.cp_annotation_laws.proofs.invariants.Cleared.{cleared, environment_cleared, numbers_same, relations_same, additions_same, products_same, parts_same, values_held_same}

-- ---- what two evaluations have in common

abbrev pub SameTyped : Typed → Typed → Type 0
SameTyped a b = (a.ty ≡ b.ty) × (cleared a.value ≡ cleared b.value)

abbrev pub Both : {A : Type 0} → (A → A → Type 0) → Outcome A → Outcome A → Type 0
Both P (Ok a) (Ok b) = P a b
Both P (Err e) (Err d) = e ≡ d
Both P x y = ⊥

abbrev pub SameOutcome : Outcome Typed → Outcome Typed → Type 0
SameOutcome = Both SameTyped

then_both : {A B : Type 0} (P : A → A → Type 0) (Q : B → B → Type 0) (x y : Outcome A) (f g : A → Outcome B) → Both P x y → ((a b : A) → P a b → Both Q (f a) (g b)) → Both Q (x >>= f) (y >>= g)
then_both P Q (Ok a) (Ok b) f g h k = k a b h
then_both P Q (Err e) (Err d) f g h k = h
then_both P Q (Ok a) (Err d) f g h k = absurd h
then_both P Q (Err e) (Ok b) f g h k = absurd h

same_itself : (o : Outcome Typed) → SameOutcome o o
same_itself (Ok a) = (refl, refl)
same_itself (Err e) = refl

same_equal : (x y : Outcome Typed) → x ≡ y → SameOutcome x y
same_equal x y e = subst (SameOutcome x) e (same_itself x)

-- ---- parts of what is asked

or_left : (a b : Bool) → (a || b) ≡ false → a ≡ false
or_left false b e = refl
or_left true b e = absurd (let bad : true ≡ false = e in cc)

or_rest : (a b : Bool) → (a || b) ≡ false → b ≡ false
or_rest false b e = e
or_rest true b e = absurd (let bad : true ≡ false = e in cc)

none_first : (xs ys : List Item) → xs ++ ys ≡ [] → xs ≡ []
none_first [] ys e = refl
none_first (x ∷ xs) ys e = absurd (cc)

none_last : (xs ys : List Item) → xs ++ ys ≡ [] → ys ≡ []
none_last [] ys e = e
none_last (x ∷ xs) ys e = absurd (cc)

no_own : (b : Bool) (at : ℕ) (d : Designator) (es : Expressions) → own_call b at d es ≡ [] → b ≡ false
no_own true at d es e = absurd (cc)
no_own false at d es e = refl

-- ---- the functions

standard_same : (f : Standard) → is_empty_meant (Some (standard_meaning f)) ≡ false → (a b : Typed) → SameTyped a b → SameOutcome (standard_value f a) (standard_value f b)
standard_same succ_function free a b h = same_equal (standard_value succ_function a) (standard_value succ_function b) (let n = numbers_same a.value b.value h.1 in rw (h.0, n) refl)
standard_same pred_function free a b h = same_equal (standard_value pred_function a) (standard_value pred_function b) (let n = numbers_same a.value b.value h.1 in rw (h.0, n) refl)
standard_same chr_function free a b h = same_equal (standard_value chr_function a) (standard_value chr_function b) (let n = numbers_same a.value b.value h.1 in rw n refl)
standard_same ord_function free a b h = same_equal (standard_value ord_function a) (standard_value ord_function b) (let n = numbers_same a.value b.value h.1 in rw n refl)
standard_same abs_function free a b h = same_equal (standard_value abs_function a) (standard_value abs_function b) (let n = numbers_same a.value b.value h.1 in rw n refl)
standard_same empty_function free a b h = absurd (let bad : true ≡ false = free in cc)
standard_same delay_procedure free a b h = h
standard_same continue_procedure free a b h = h
standard_same display_procedure free a b h = h

signed_same : (o : Option Sign) (a b : Typed) → SameTyped a b → SameOutcome (signed_value o a) (signed_value o b)
signed_same None a b h = h
signed_same (Some sign.Plus) a b h = same_equal (signed_value (Some sign.Plus) a) (signed_value (Some sign.Plus) b) (let n = numbers_same a.value b.value h.1 in rw n refl)
signed_same (Some sign.Minus) a b h = same_equal (signed_value (Some sign.Minus) a) (signed_value (Some sign.Minus) b) (let n = numbers_same a.value b.value h.1 in rw n refl)

-- ---- two views of one component

module _ (p : Program) (c : Call) (alone_there : c.environment ≡ []) (calls others : List Call) (cs ds : List Component) (same : environment_cleared (component_at cs c.component).environment ≡ environment_cleared (component_at ds c.component).environment) where
  abbrev v : View
  v = record { program = p; calls = c ∷ calls; components = cs }

  abbrev w : View
  w = record { program = p; calls = c ∷ others; components = ds }

  abbrev s : Scope
  s = c.scope

  record SamePlace (a b : Place) : Type 0 where
    name : a.name ≡ b.name
    choices : a.choices ≡ b.choices
    around : environment_cleared (environment_of v a.holder) ≡ environment_cleared (environment_of w b.holder)

  record SameTarget (a b : Target) : Type 0 where
    ty : a.ty ≡ b.ty
    place : SamePlace a.place b.place

  values_same : (a b : Place) → SamePlace a b → cleared (value_at v a) ≡ cleared (value_at w b)
  values_same a b h =
      let held : cleared (value_held (content_of a.name (environment_of v a.holder))) ≡ cleared (value_held (content_of b.name (environment_of w b.holder))) =
      ap (λ x. cleared (value_held (content_of x (environment_of v a.holder)))) h.name ∙ values_held_same b.name (environment_of v a.holder) (environment_of w b.holder) h.around in
      sym (parts_same (value_held (content_of a.name (environment_of v a.holder))) a.choices)
      ∙ (ap (part_at (cleared (value_held (content_of a.name (environment_of v a.holder))))) h.choices
      ∙ (ap (λ x. part_at x b.choices) held ∙ parts_same (value_held (content_of b.name (environment_of w b.holder))) b.choices))

  -- ---- names

  this_is : (rest : List Call) → call_above (c ∷ rest) (length (c ∷ rest) - 1) ≡ c
  this_is rest = rw (eq-eqb (length rest) (length (c ∷ rest) - 1) (omega arith)) refl

  here_none : (rest : List Call) → (call_above (c ∷ rest) (length (c ∷ rest) - 1)).environment ≡ []
  here_none rest = ap (λ (k : Call). k.environment) (this_is rest) ∙ alone_there

  own_same : (x : Name) (t : Ty) → SameTarget (record { place = plain_place (this_call v) x; ty = t }) (record { place = plain_place (this_call w) x; ty = t })
  own_same x t = record { ty = refl; place = record { name = refl; choices = refl; around = ap environment_cleared (here_none calls) ∙ sym (ap environment_cleared (here_none others)) } }

  local_same : (x : Name) (t : Ty) (a b : Environment) → a ≡ [] → b ≡ [] → SameTarget (record { place = referred (content_of x a) (plain_place (this_call v) x); ty = t }) (record { place = referred (content_of x b) (plain_place (this_call w) x); ty = t })
  local_same x t a b e f =
      subst (λ z. SameTarget (record { place = referred (content_of x z) (plain_place (this_call v) x); ty = t }) (record { place = referred (content_of x b) (plain_place (this_call w) x); ty = t })) (sym e)
      (subst (λ z. SameTarget (record { place = plain_place (this_call v) x; ty = t }) (record { place = referred (content_of x z) (plain_place (this_call w) x); ty = t })) (sym f) (own_same x t))

  meant_same : (x : Name) (m : Option Meaning) → is_call_meant m None ≡ false → SameTarget (target_meant v x m) (target_meant w x m)
  meant_same x (Some (permanent_variable t)) free = record { ty = refl; place = record { name = refl; choices = refl; around = same } }
  meant_same x (Some (local_variable t)) free = local_same x t _ _ (here_none calls) (here_none others)
  meant_same x (Some (routine_meaning r)) free = absurd (let bad : true ≡ false = free in cc)
  meant_same x (Some (constant_meaning b z)) free = own_same x (ordinal all_integers)
  meant_same x (Some (type_meaning t)) free = own_same x (ordinal all_integers)
  meant_same x (Some (standard_meaning f)) free = own_same x (ordinal all_integers)
  meant_same x None free = own_same x (ordinal all_integers)

  no_routine : (m : Option Meaning) (o : Option Name) → is_call_meant m o ≡ false → is_call_meant m None ≡ false
  no_routine (Some (routine_meaning r)) o e = e
  no_routine (Some (permanent_variable t)) o e = refl
  no_routine (Some (local_variable t)) o e = refl
  no_routine (Some (constant_meaning b z)) o e = refl
  no_routine (Some (type_meaning t)) o e = refl
  no_routine (Some (standard_meaning f)) o e = refl
  no_routine None o e = refl

  at_target : (a b : Target) → SameTarget a b → SameOutcome (Ok (record { ty = a.ty; value = value_at v a.place })) (Ok (record { ty = b.ty; value = value_at w b.place }))
  at_target a b h = (h.ty, values_same a.place b.place h.place)

  name_same : (at : ℕ) (d : Designator) (m : Option Meaning) → is_empty_meant m ≡ false → (ta tb : Outcome Target) (xa xb : Outcome Typed) → Both SameTarget ta tb → SameOutcome xa xb →
      SameOutcome (named_value v at d false m ta xa) (named_value w at d false m tb xb)
  name_same at d (Some (constant_meaning b z)) free ta tb xa xb h k = (refl, refl)
  name_same at d (Some (standard_meaning f)) free ta tb xa xb h k = then_both SameTyped SameTyped xa xb (standard_value f) (standard_value f) k (standard_same f free)
  name_same at d (Some (routine_meaning r)) free ta tb xa xb h k = then_both SameTarget SameTyped ta tb _ _ h at_target
  name_same at d (Some (permanent_variable t)) free ta tb xa xb h k = then_both SameTarget SameTyped ta tb _ _ h at_target
  name_same at d (Some (local_variable t)) free ta tb xa xb h k = then_both SameTarget SameTyped ta tb _ _ h at_target
  name_same at d (Some (type_meaning t)) free ta tb xa xb h k = then_both SameTarget SameTyped ta tb _ _ h at_target
  name_same at d None free ta tb xa xb h k = then_both SameTarget SameTyped ta tb _ _ h at_target

  choice_same : (a b : Target) (x : Choice) (t : Ty) → SameTarget a b → SameTarget (record { place = with_choice a.place x; ty = t }) (record { place = with_choice b.place x; ty = t })
  choice_same a b x t h = record { ty = refl; place = record { name = h.place.name; choices = ap (λ is. is ++ x ∷ []) h.place.choices; around = h.place.around } }

  if_target : (b : Bool) (x y : Target) (e : ErrorName) → SameTarget x y → Both SameTarget (if b then Ok x else Err e) (if b then Ok y else Err e)
  if_target true x y e h = h
  if_target false x y e h = refl

  element_same : (t : Ty) (a b : Target) (z : ℤ) → SameTarget a b → Both SameTarget (with_element_of t a z) (with_element_of t b z)
  element_same (array_over r u) a b z h = if_target (is_within r z) _ _ _ (choice_same a b (the_element (natural_of (z +ℤ neg_ℤ r.low))) u h)
  element_same (ordinal r) a b z h = h
  element_same queue_type a b z h = h
  element_same (set_over r) a b z h = h
  element_same (record_with ts) a b z h = h
  element_same (component_of k) a b z h = h

  index_same : (a b : Target) (x y : Typed) → SameTarget a b → SameTyped x y → Both SameTarget (with_index a x) (with_index b y)
  index_same a b x y h k =
      subst (λ t. Both SameTarget (with_element_of a.ty a (number_of x.value)) (with_element_of t b (number_of y.value))) h.ty
      (subst (λ z. Both SameTarget (with_element_of a.ty a (number_of x.value)) (with_element_of a.ty b z)) (numbers_same x.value y.value k.1)
      (element_same a.ty a b (number_of x.value) h))

  field_same : (a b : Target) (x : Name) → SameTarget a b → SameTarget (with_field a x) (with_field b x)
  field_same a b x h =
      record { ty = ap (λ t. field_type t x) h.ty; place = record { name = h.place.name; choices = ap (λ is. is ++ the_field x ∷ []) h.place.choices; around = h.place.around } }

  truth_same : (a b : Bool) → a ≡ b → SameOutcome (Ok (truth a)) (Ok (truth b))
  truth_same a b e = same_equal (Ok (truth a)) (Ok (truth b)) (ap (λ x. Ok (truth x)) e)

  true_same : (a b : Typed) → SameTyped a b → is_true a ≡ is_true b
  true_same a b h = ap (int_lt (pos 0)) (numbers_same a.value b.value h.1)

  Equal : List ℕ → List ℕ → Type 0
  Equal a b = a ≡ b

  members_equal : (x y : Outcome (List ℕ)) → x ≡ y → Both Equal x y
  unfolding Equal
  members_equal (Ok a) y e = subst (Both Equal (Ok a)) e refl
  members_equal (Err a) y e = subst (Both Equal (Err a)) e refl

  members_checked : (ns ms : List ℕ) (a b : Typed) → ns ≡ ms → number_of a.value ≡ number_of b.value → with_member_checked ns a ≡ with_member_checked ms b
  members_checked ns ms a b e n =
      ap (λ (x : List ℕ). with_member_checked x a) e
      ∙ ap (λ (z : ℤ). (let r : Outcome (List ℕ) = if is_within all_characters z then Ok (with_member ms (natural_of z)) else Err out_of_range in r)) n

  member_same : (ns ms : List ℕ) (a b : Typed) → Equal ns ms → SameTyped a b → Both Equal (with_member_checked ns a) (with_member_checked ms b)
  unfolding Equal
  member_same ns ms a b e h = members_equal (with_member_checked ns a) (with_member_checked ms b) (members_checked ns ms a b e (numbers_same a.value b.value h.1))

  set_same : (ns ms : List ℕ) → Equal ns ms → SameOutcome (Ok (set_of_members ns)) (Ok (set_of_members ms))
  unfolding Equal
  set_same ns ms e = same_equal (Ok (set_of_members ns)) (Ok (set_of_members ms)) (ap (λ x. Ok (set_of_members x)) e)

  refl_equal : (ns : List ℕ) → Equal ns ns
  unfolding Equal
  refl_equal ns = refl

  -- ---- expressions

  mutual
    pub value_same : (e : Expression) → expression_calls s e ≡ [] → asks_empty s e ≡ false → SameOutcome (value v e) (value w e)
    value_same (alone at a) q n = sum_same a q n
    value_same (related at a r b) q n =
        then_both SameTyped SameTyped (sum_value v a) (sum_value w a) _ _ (sum_same a (none_first (sum_calls s a) (sum_calls s b) q) (or_left (sum_asks s a) (sum_asks s b) n)) (λ x y h.
        then_both SameTyped SameTyped (sum_value v b) (sum_value w b) _ _ (sum_same b (none_last (sum_calls s a) (sum_calls s b) q) (or_rest (sum_asks s a) (sum_asks s b) n)) (λ x' y' h'.
        truth_same (related_values r x.value x'.value) (related_values r y.value y'.value) (relations_same r x.value x'.value y.value y'.value h.1 h'.1)))

    sum_same : (a : Sum) → sum_calls s a ≡ [] → sum_asks s a ≡ false → SameOutcome (sum_value v a) (sum_value w a)
    sum_same (sum at o t ts) q n =
        then_both SameTyped SameTyped (term_value v t) (term_value w t) _ _ (term_same t (none_first (term_calls s t) (terms_calls s ts) q) (or_left (term_asks s t) (terms_ask s ts) n)) (λ x y h.
        then_both SameTyped SameTyped (signed_value o x) (signed_value o y) _ _ (signed_same o x y h) (λ x' y' h'.
        terms_same ts (none_last (term_calls s t) (terms_calls s ts) q) (or_rest (term_asks s t) (terms_ask s ts) n) x' y' h'))

    terms_same : (ts : Terms) → terms_calls s ts ≡ [] → terms_ask s ts ≡ false → (a b : Typed) → SameTyped a b → SameOutcome (terms_value v ts a) (terms_value w ts b)
    terms_same no_terms q n a b h = h
    terms_same (more_terms op t ts) q n a b h =
        then_both SameTyped SameTyped (term_value v t) (term_value w t) _ _ (term_same t (none_first (term_calls s t) (terms_calls s ts) q) (or_left (term_asks s t) (terms_ask s ts) n)) (λ x y k.
        then_both SameTyped SameTyped (added_values op a.value x.value) (added_values op b.value y.value) _ _ (same_equal (added_values op a.value x.value) (added_values op b.value y.value) (additions_same op a.value x.value b.value y.value h.1 k.1)) (λ x' y' h'.
        terms_same ts (none_last (term_calls s t) (terms_calls s ts) q) (or_rest (term_asks s t) (terms_ask s ts) n) x' y' h'))

    term_same : (t : Term) → term_calls s t ≡ [] → term_asks s t ≡ false → SameOutcome (term_value v t) (term_value w t)
    term_same (term at f fs) q n =
        then_both SameTyped SameTyped (factor_value v f) (factor_value w f) _ _ (factor_same f (none_first (factor_calls s f) (factors_calls s fs) q) (or_left (factor_asks s f) (factors_ask s fs) n)) (λ x y h.
        factors_same fs (none_last (factor_calls s f) (factors_calls s fs) q) (or_rest (factor_asks s f) (factors_ask s fs) n) x y h)

    factors_same : (fs : Factors) → factors_calls s fs ≡ [] → factors_ask s fs ≡ false → (a b : Typed) → SameTyped a b → SameOutcome (factors_value v fs a) (factors_value w fs b)
    factors_same no_factors q n a b h = h
    factors_same (more_factors op f fs) q n a b h =
        then_both SameTyped SameTyped (factor_value v f) (factor_value w f) _ _ (factor_same f (none_first (factor_calls s f) (factors_calls s fs) q) (or_left (factor_asks s f) (factors_ask s fs) n)) (λ x y k.
        then_both SameTyped SameTyped (multiplied_values op a.value x.value) (multiplied_values op b.value y.value) _ _ (same_equal (multiplied_values op a.value x.value) (multiplied_values op b.value y.value) (products_same op a.value x.value b.value y.value h.1 k.1)) (λ x' y' h'.
        factors_same fs (none_last (factor_calls s f) (factors_calls s fs) q) (or_rest (factor_asks s f) (factors_ask s fs) n) x' y' h'))

    factor_same : (f : Factor) → factor_calls s f ≡ [] → factor_asks s f ≡ false → SameOutcome (factor_value v f) (factor_value w f)
    factor_same (number at n) q free = (refl, refl)
    factor_same (character at c) q free = (refl, refl)
    factor_same (named at d es) q free =
        let uncalled : is_call s d ≡ false = no_own (is_call s d) at d es (none_last (designator_calls s d ++ expressions_calls s es) (own_call (is_call s d) at d es) q) in
        let in_name : designator_calls s d ≡ [] = none_first (designator_calls s d) (expressions_calls s es) (none_first (designator_calls s d ++ expressions_calls s es) (own_call (is_call s d) at d es) q) in
        let in_arguments : expressions_calls s es ≡ [] = none_last (designator_calls s d) (expressions_calls s es) (none_first (designator_calls s d ++ expressions_calls s es) (own_call (is_call s d) at d es) q) in
        let rest : (designator_asks s d || expressions_ask s es) ≡ false = or_rest (is_empty_meant (find (name_of d) s)) (designator_asks s d || expressions_ask s es) free in
        subst (λ b. SameOutcome (named_value v at d b (find (name_of d) s) (target_value v d) (first_value v es)) (named_value w at d b (find (name_of d) s) (target_value w d) (first_value w es))) (sym uncalled)
        (name_same at d (find (name_of d) s) (or_left (is_empty_meant (find (name_of d) s)) (designator_asks s d || expressions_ask s es) free) (target_value v d) (target_value w d) (first_value v es) (first_value w es)
        (target_same d uncalled in_name (or_left (designator_asks s d) (expressions_ask s es) rest)) (first_same es in_arguments (or_rest (designator_asks s d) (expressions_ask s es) rest)))
    factor_same (group at e) q n = value_same e q n
    factor_same (negated at f) q n =
        then_both SameTyped SameTyped (factor_value v f) (factor_value w f) _ _ (factor_same f q n) (λ x y h. truth_same (if is_true x then false else true) (if is_true y then false else true) (ap (λ b. if b then false else true) (true_same x y h)))
    factor_same (set_of at es) q n = then_both Equal SameTyped (members_value v es []) (members_value w es []) _ _ (members_same es q n [] [] (refl_equal [])) set_same

    members_same : (es : Expressions) → expressions_calls s es ≡ [] → expressions_ask s es ≡ false → (ns ms : List ℕ) → Equal ns ms → Both Equal (members_value v es ns) (members_value w es ms)
    members_same no_expressions q n ns ms h = h
    members_same (more_expressions e es) q n ns ms h =
        then_both SameTyped Equal (value v e) (value w e) _ _ (value_same e (none_first (expression_calls s e) (expressions_calls s es) q) (or_left (asks_empty s e) (expressions_ask s es) n)) (λ x y k.
        then_both Equal Equal (with_member_checked ns x) (with_member_checked ms y) _ _ (member_same ns ms x y h k) (λ ns' ms' h'.
        members_same es (none_last (expression_calls s e) (expressions_calls s es) q) (or_rest (asks_empty s e) (expressions_ask s es) n) ns' ms' h'))

    first_same : (es : Expressions) → expressions_calls s es ≡ [] → expressions_ask s es ≡ false → SameOutcome (first_value v es) (first_value w es)
    first_same no_expressions q n = (refl, refl)
    first_same (more_expressions e es) q n = value_same e (none_first (expression_calls s e) (expressions_calls s es) q) (or_left (asks_empty s e) (expressions_ask s es) n)

    target_same : (d : Designator) → is_call s d ≡ false → designator_calls s d ≡ [] → designator_asks s d ≡ false → Both SameTarget (target_value v d) (target_value w d)
    target_same (designator i ss) uncalled q n = selected_same ss q n (target_named v i.name) (target_named w i.name) (meant_same i.name (find i.name s) (no_routine (find i.name s) (last_field ss) uncalled))

    selected_same : (ss : Selectors) → selectors_calls s ss ≡ [] → selectors_ask s ss ≡ false → (a b : Target) → SameTarget a b → Both SameTarget (selected v ss a) (selected w ss b)
    selected_same no_selectors q n a b h = h
    selected_same (more_selectors x xs) q n a b h =
        then_both SameTarget SameTarget (chosen v x a) (chosen w x b) _ _ (chosen_same x (none_first (selector_calls s x) (selectors_calls s xs) q) (or_left (selector_asks s x) (selectors_ask s xs) n) a b h) (λ a' b' h'.
        selected_same xs (none_last (selector_calls s x) (selectors_calls s xs) q) (or_rest (selector_asks s x) (selectors_ask s xs) n) a' b' h')

    chosen_same : (x : Selector) → selector_calls s x ≡ [] → selector_asks s x ≡ false → (a b : Target) → SameTarget a b → Both SameTarget (chosen v x a) (chosen w x b)
    chosen_same (field i) q n a b h = field_same a b i.name h
    chosen_same (index e) q n a b h = then_both SameTyped SameTarget (value v e) (value w e) _ _ (value_same e q n) (λ x y k. index_same a b x y h k)

-- what is true in the one is true in the other
pub truth_kept : (x y : Outcome Typed) → SameOutcome x y → (z : Typed) → x ≡ Ok z → is_true z ≡ true → (u : Typed) × (y ≡ Ok u) × (is_true u ≡ true)
truth_kept (Ok a) (Ok b) h z e t = (b, refl, (let same : a ≡ z = cc in ap (int_lt (pos 0)) (sym (numbers_same a.value b.value h.1)) ∙ (ap is_true same ∙ t)))
truth_kept (Err a) (Err b) h z e t = absurd (cc)
truth_kept (Ok a) (Err b) h z e t = absurd h
truth_kept (Err a) (Ok b) h z e t = absurd h
