-- The values of expressions without annotations.
use Rattle.std.proofs.Common.{◌≡◌, ◌∙◌, ℕ, Bool, true, false, if◌then◌else◌, List, [], ◌∷◌, Option, Some, None, Ok, ap, refl}
use Rattle.cp_tree.specs.Syntax.{Expression, alone, related, Sum, sum, Terms, no_terms, more_terms, Term, term, Factors, no_factors, more_factors, Factor, number, character, named, group, negated, set_of, Expressions, no_expressions, more_expressions, Designator, designator, Selectors, no_selectors, more_selectors, Selector, field, index, Routine, Program}
use Rattle.cp_meaning.specs.Names.{Name, temporary, result_name, same_name}
use Rattle.cp_meaning.specs.Outcome.{Outcome}
use Rattle.cp_meaning.specs.Types.{Ty, all_integers, ordinal, array_over, component_of}
use Rattle.cp_meaning.specs.Scopes.{Meaning, constant_meaning, type_meaning, local_variable, permanent_variable, routine_meaning, standard_meaning, Scope, find, since}
use Rattle.cp_meaning.specs.Declarations.{RoutineMeaning, routine_in}
use Rattle.cp_meaning.specs.Systems.{SystemMeaning, system_of}
use Rattle.cp_meaning.specs.State.{Component, Call, current, Environment, in_component}
use Rattle.cp_meaning.specs.Places.{View, Target, target_meant, target_named, this_call, plain_place, referred, content_of, environment_of, value_at, result_type}
use Rattle.cp_meaning.specs.Operations.{Typed, added_values, multiplied_values, signed_value}
use Rattle.cp_meaning.specs.Lifting.{last_field, is_call, is_call_meant}
use Rattle.cp_meaning.specs.Expressions.{routine_of_system, routine_of_type, routine_meant, routine_called, result_called, call_value, named_value, name_of, meaning_here, with_member_checked, value, sum_value, terms_value, term_value, factors_value, factor_value, members_value, first_value, target_value, selected, chosen}
use Rattle.cp_resolved.specs.Small.{Each}
use Rattle.cp_annotation_laws.specs.Plain.{plain_routine, plain_program}
use Rattle.cp_annotation_laws.proofs.annotations.Scopes.{IsSpoken, plain_scope, plain_found, find_plain, since_plain}
use Rattle.cp_annotation_laws.proofs.annotations.Spoken.{SpokenExpression, SpokenSum, SpokenTerms, SpokenTerm, SpokenFactors, SpokenFactor, SpokenExpressions, SpokenDesignator, SpokenSelectors, SpokenSelector, SpokenPart, SpokenMeaning, SpokenScope, SpokenProgram}
use Rattle.cp_annotation_laws.proofs.annotations.Types.{plain_routine_meaning, routine_plain}
use Rattle.cp_annotation_laws.proofs.annotations.Systems.{system_of_plain}
use Rattle.cp_annotation_laws.proofs.annotations.Views.{plain_calls, plain_view, binds, current_plain, this_call_plain, this_component_plain, environment_plain, value_at_plain}

-- ---- what is found

abbrev pub SpokenFound : Option Meaning → Type 0
SpokenFound None = Unit {0}
SpokenFound (Some m) = SpokenMeaning m

pub found_spoken : (x : Name) (s : Scope) → SpokenScope s → SpokenFound (find x s)
found_spoken x [] h = tt
found_spoken x (d ∷ s) h = go (same_name x d.0) (found_spoken x s h.1)
  where
    go : (b : Bool) → SpokenFound (find x s) → SpokenFound (if b then Some d.1 else find x s)
    go true k = h.0
    go false k = k

abbrev pub plain_called : Option RoutineMeaning → Option RoutineMeaning
plain_called None = None
plain_called (Some r) = Some (plain_routine_meaning r)

abbrev pub SpokenName : Option Name → Type 0
SpokenName None = Unit {0}
SpokenName (Some x) = IsSpoken x

pub last_spoken : (ss : Selectors) → SpokenSelectors ss → SpokenName (last_field ss)
last_spoken no_selectors h = tt
last_spoken (more_selectors (field i) no_selectors) h = h.0
last_spoken (more_selectors (index e) no_selectors) h = tt
last_spoken (more_selectors (field i) (more_selectors c cs)) h = last_spoken (more_selectors c cs) h.1
last_spoken (more_selectors (index e) (more_selectors c cs)) h = last_spoken (more_selectors c cs) h.1

-- ---- calls in expressions

call_meant_plain : (m : Option Meaning) (o : Option Name) → is_call_meant (plain_found m) o ≡ is_call_meant m o
call_meant_plain None o = refl
call_meant_plain (Some (routine_meaning r)) o = refl
call_meant_plain (Some (permanent_variable t)) None = refl
call_meant_plain (Some (permanent_variable t)) (Some x) = refl
call_meant_plain (Some (constant_meaning b z)) o = refl
call_meant_plain (Some (type_meaning t)) o = refl
call_meant_plain (Some (local_variable t)) o = refl
call_meant_plain (Some (standard_meaning t)) o = refl

pub is_call_plain : (s : Scope) (d : Designator) → SpokenDesignator d → is_call (plain_scope s) d ≡ is_call s d
is_call_plain s (designator i ss) h = ap (λ (m : Option Meaning). is_call_meant m (last_field ss)) (find_plain i.name s h.0) ∙ call_meant_plain (find i.name s) (last_field ss)

pub name_spoken : (d : Designator) → SpokenDesignator d → IsSpoken (name_of d)
name_spoken (designator i ss) h = h.0

module _ (p : Program) (spoken : SpokenProgram p) (visible : (k : ℕ) → SpokenScope (system_of p k).scope) where
  -- ---- the routine that a call names

  routine_since : (x : Name) (s : Scope) (r : Routine) → IsSpoken x → Each SpokenPart r.parts → routine_in (since x (plain_scope s)) (plain_routine r) ≡ plain_routine_meaning (routine_in (since x s) r)
  routine_since x s r h k = ap (λ (u : Scope). routine_in u (plain_routine r)) (since_plain x s h) ∙ routine_plain (since x s) r k

  of_system_plain : (y : Name) (m : Option Meaning) (s : Scope) → IsSpoken y → SpokenFound m → routine_of_system y (plain_found m) (plain_scope s) ≡ plain_called (routine_of_system y m s)
  of_system_plain y None s h k = refl
  of_system_plain y (Some (routine_meaning r)) s h k = ap (λ (x : RoutineMeaning). Some x) (routine_since y s r h k)
  of_system_plain y (Some (constant_meaning b z)) s h k = refl
  of_system_plain y (Some (type_meaning t)) s h k = refl
  of_system_plain y (Some (local_variable t)) s h k = refl
  of_system_plain y (Some (permanent_variable t)) s h k = refl
  of_system_plain y (Some (standard_meaning t)) s h k = refl

  of_component_plain : (k : ℕ) (y : Name) → IsSpoken y → routine_of_system y (find y (system_of (plain_program p) k).scope) (system_of (plain_program p) k).scope ≡ plain_called (routine_of_system y (find y (system_of p k).scope) (system_of p k).scope)
  of_component_plain k y h =
      ap (λ (m : SystemMeaning). routine_of_system y (find y m.scope) m.scope) (system_of_plain p spoken k)
      ∙ (ap (λ (o : Option Meaning). routine_of_system y o (plain_scope (system_of p k).scope)) (find_plain y (system_of p k).scope h)
      ∙ of_system_plain y (find y (system_of p k).scope) (system_of p k).scope h (found_spoken y (system_of p k).scope (visible k)))

  of_type_plain : (t : Ty) (y : Name) → IsSpoken y → routine_of_type (plain_program p) t y ≡ plain_called (routine_of_type p t y)
  of_type_plain (component_of k) y h = of_component_plain k y h
  of_type_plain (array_over r (component_of k)) y h = of_component_plain k y h
  of_type_plain _ y h = refl

  meant_plain : (s : Scope) (x : Name) (m : Option Meaning) (o : Option Name) → IsSpoken x → SpokenFound m → SpokenName o → routine_meant (plain_program p) (plain_scope s) x (plain_found m) o ≡ plain_called (routine_meant p s x m o)
  meant_plain s x None o h k l = refl
  meant_plain s x (Some (routine_meaning r)) o h k l = ap (λ (y : RoutineMeaning). Some y) (routine_since x s r h k)
  meant_plain s x (Some (permanent_variable t)) None h k l = refl
  meant_plain s x (Some (permanent_variable t)) (Some y) h k l = of_type_plain t y l
  meant_plain s x (Some (constant_meaning b z)) o h k l = refl
  meant_plain s x (Some (type_meaning t)) o h k l = refl
  meant_plain s x (Some (local_variable t)) o h k l = refl
  meant_plain s x (Some (standard_meaning t)) o h k l = refl

  pub called_plain : (s : Scope) (d : Designator) → SpokenScope s → SpokenDesignator d → routine_called (plain_program p) (plain_scope s) d ≡ plain_called (routine_called p s d)
  called_plain s (designator i ss) w h =
      ap (λ (m : Option Meaning). routine_meant (plain_program p) (plain_scope s) i.name m (last_field ss)) (find_plain i.name s h.0)
      ∙ meant_plain s i.name (find i.name s) (last_field ss) h.0 (found_spoken i.name s w) (last_spoken ss h.1)

  result_plain : (o : Option RoutineMeaning) → result_called (plain_called o) ≡ result_called o
  result_plain None = refl
  result_plain (Some r) = refl

  module _ (calls : List Call) (cs : List Component) (here : SpokenScope (current calls).scope) where
    abbrev pub v : View
    v = record { program = p; calls = calls; components = cs }

    abbrev pub w : View
    w = plain_view v

    abbrev s : Scope
    s = (current calls).scope

    pub scope_plain : (current (plain_calls calls)).scope ≡ plain_scope (current calls).scope
    scope_plain = ap (λ (c : Call). c.scope) (current_plain calls)

    pub meaning_plain : (d : Designator) → SpokenDesignator d → meaning_here w d ≡ plain_found (meaning_here v d)
    meaning_plain d h = ap (λ (u : Scope). find (name_of d) u) scope_plain ∙ find_plain (name_of d) s (name_spoken d h)

    call_value_plain : (at : ℕ) (d : Designator) → SpokenDesignator d → call_value w at d ≡ call_value v at d
    call_value_plain at d h =
        let e = ap (λ (u : Scope). routine_called (plain_program p) u d) scope_plain ∙ called_plain s d here h in
        let f = ap result_called e ∙ result_plain (routine_called p s d) in
        let g = ap (λ q. value_at w (plain_place q (temporary at))) (this_call_plain v) ∙ value_at_plain v (plain_place (this_call v) (temporary at)) in
        ap (λ (t : Ty). (let x : Typed = record { ty = t; value = value_at w (plain_place (this_call w) (temporary at)) } in x)) f
        ∙ ap (λ y. (let x : Typed = record { ty = result_called (routine_called p s d); value = y } in x)) g

    -- ---- names

    target_meant_plain : (x : Name) (m : Option Meaning) → IsSpoken x → SpokenFound m → target_meant w x (plain_found m) ≡ target_meant v x m
    target_meant_plain x (Some (permanent_variable t)) h k = ap (λ n. (let y : Target = record { place = plain_place (in_component n) x; ty = t } in y)) (this_component_plain v)
    target_meant_plain x (Some (local_variable t)) h k =
        ap (λ c. (let y : Target = record { place = referred (content_of x (environment_of w c)) (plain_place c x); ty = t } in y)) (this_call_plain v)
        ∙ ap (λ (e : Environment). (let y : Target = record { place = referred (content_of x e) (plain_place (this_call v) x); ty = t } in y)) (environment_plain v (this_call v))
    target_meant_plain x (Some (routine_meaning r)) h k =
        ap (λ c. (let y : Target = record { place = plain_place c result_name; ty = result_type (routine_in (since x (current (plain_calls calls)).scope) (plain_routine r)).result } in y)) (this_call_plain v)
        ∙ (ap (λ (u : Scope). (let y : Target = record { place = plain_place (this_call v) result_name; ty = result_type (routine_in (since x u) (plain_routine r)).result } in y)) scope_plain
        ∙ ap (λ (m : RoutineMeaning). (let y : Target = record { place = plain_place (this_call v) result_name; ty = result_type m.result } in y)) (routine_since x s r h k))
    target_meant_plain x None h k = ap (λ c. (let y : Target = record { place = plain_place c x; ty = ordinal all_integers } in y)) (this_call_plain v)
    target_meant_plain x (Some (constant_meaning b z)) h k = ap (λ c. (let y : Target = record { place = plain_place c x; ty = ordinal all_integers } in y)) (this_call_plain v)
    target_meant_plain x (Some (type_meaning t)) h k = ap (λ c. (let y : Target = record { place = plain_place c x; ty = ordinal all_integers } in y)) (this_call_plain v)
    target_meant_plain x (Some (standard_meaning t)) h k = ap (λ c. (let y : Target = record { place = plain_place c x; ty = ordinal all_integers } in y)) (this_call_plain v)

    pub target_named_plain : (x : Name) → IsSpoken x → target_named w x ≡ target_named v x
    target_named_plain x h =
        ap (λ (u : Scope). target_meant w x (find x u)) scope_plain
        ∙ (ap (target_meant w x) (find_plain x s h)
        ∙ target_meant_plain x (find x s) h (found_spoken x s here))

    -- ---- expressions

    named_plain : (at : ℕ) (d : Designator) (b : Bool) (m : Option Meaning) (target : Outcome Target) (argument : Outcome Typed) → SpokenDesignator d → named_value w at d b (plain_found m) target argument ≡ named_value v at d b m target argument
    named_plain at d true m target argument h = ap (λ (x : Typed). Ok x) (call_value_plain at d h)
    named_plain at d false (Some (constant_meaning b z)) target argument h = refl
    named_plain at d false (Some (standard_meaning t)) target argument h = refl
    named_plain at d false None target argument h = binds target target _ _ refl (λ t. ap (λ y. Ok (let x : Typed = record { ty = t.ty; value = y } in x)) (value_at_plain v t.place))
    named_plain at d false (Some (type_meaning u)) target argument h = binds target target _ _ refl (λ t. ap (λ y. Ok (let x : Typed = record { ty = t.ty; value = y } in x)) (value_at_plain v t.place))
    named_plain at d false (Some (local_variable u)) target argument h = binds target target _ _ refl (λ t. ap (λ y. Ok (let x : Typed = record { ty = t.ty; value = y } in x)) (value_at_plain v t.place))
    named_plain at d false (Some (permanent_variable u)) target argument h = binds target target _ _ refl (λ t. ap (λ y. Ok (let x : Typed = record { ty = t.ty; value = y } in x)) (value_at_plain v t.place))
    named_plain at d false (Some (routine_meaning u)) target argument h = binds target target _ _ refl (λ t. ap (λ y. Ok (let x : Typed = record { ty = t.ty; value = y } in x)) (value_at_plain v t.place))

    mutual
      pub value_plain : (e : Expression) → SpokenExpression e → value w e ≡ value v e
      value_plain (alone at a) h = sum_plain a h
      value_plain (related at a r b) h = binds (sum_value w a) (sum_value v a) _ _ (sum_plain a h.0) (λ x. binds (sum_value w b) (sum_value v b) _ _ (sum_plain b h.1) (λ y. refl))

      sum_plain : (a : Sum) → SpokenSum a → sum_value w a ≡ sum_value v a
      sum_plain (sum at o t ts) h = binds (term_value w t) (term_value v t) _ _ (term_plain t h.0) (λ x. binds (signed_value o x) (signed_value o x) _ _ refl (λ y. terms_plain ts y h.1))

      terms_plain : (ts : Terms) (x : Typed) → SpokenTerms ts → terms_value w ts x ≡ terms_value v ts x
      terms_plain no_terms x h = refl
      terms_plain (more_terms op t ts) x h = binds (term_value w t) (term_value v t) _ _ (term_plain t h.0) (λ y. binds (added_values op x.value y.value) (added_values op x.value y.value) _ _ refl (λ z. terms_plain ts z h.1))

      term_plain : (t : Term) → SpokenTerm t → term_value w t ≡ term_value v t
      term_plain (term at f fs) h = binds (factor_value w f) (factor_value v f) _ _ (factor_plain f h.0) (λ x. factors_plain fs x h.1)

      factors_plain : (fs : Factors) (x : Typed) → SpokenFactors fs → factors_value w fs x ≡ factors_value v fs x
      factors_plain no_factors x h = refl
      factors_plain (more_factors op f fs) x h = binds (factor_value w f) (factor_value v f) _ _ (factor_plain f h.0) (λ y. binds (multiplied_values op x.value y.value) (multiplied_values op x.value y.value) _ _ refl (λ z. factors_plain fs z h.1))

      factor_plain : (f : Factor) → SpokenFactor f → factor_value w f ≡ factor_value v f
      factor_plain (number at n) h = refl
      factor_plain (character at c) h = refl
      factor_plain (named at d es) h =
          ap (λ (u : Scope). named_value w at d (is_call u d) (meaning_here w d) (target_value w d) (first_value w es)) scope_plain
          ∙ (ap (λ (b : Bool). named_value w at d b (meaning_here w d) (target_value w d) (first_value w es)) (is_call_plain s d h.0)
          ∙ (ap (λ (m : Option Meaning). named_value w at d (is_call s d) m (target_value w d) (first_value w es)) (meaning_plain d h.0)
          ∙ (ap (λ (x : Outcome Target). named_value w at d (is_call s d) (plain_found (meaning_here v d)) x (first_value w es)) (target_plain d h.0)
          ∙ (ap (λ (y : Outcome Typed). named_value w at d (is_call s d) (plain_found (meaning_here v d)) (target_value v d) y) (first_plain es h.1)
          ∙ named_plain at d (is_call s d) (meaning_here v d) (target_value v d) (first_value v es) h.0))))
      factor_plain (group at e) h = value_plain e h
      factor_plain (negated at f) h = binds (factor_value w f) (factor_value v f) _ _ (factor_plain f h) (λ x. refl)
      factor_plain (set_of at es) h = binds (members_value w es []) (members_value v es []) _ _ (members_plain es [] h) (λ ns. refl)

      members_plain : (es : Expressions) (ns : List ℕ) → SpokenExpressions es → members_value w es ns ≡ members_value v es ns
      members_plain no_expressions ns h = refl
      members_plain (more_expressions e es) ns h = binds (value w e) (value v e) _ _ (value_plain e h.0) (λ x. binds (with_member_checked ns x) (with_member_checked ns x) _ _ refl (λ ms. members_plain es ms h.1))

      pub first_plain : (es : Expressions) → SpokenExpressions es → first_value w es ≡ first_value v es
      first_plain no_expressions h = refl
      first_plain (more_expressions e es) h = value_plain e h.0

      pub target_plain : (d : Designator) → SpokenDesignator d → target_value w d ≡ target_value v d
      target_plain (designator i ss) h = ap (selected w ss) (target_named_plain i.name h.0) ∙ selected_plain ss (target_named v i.name) h.1

      selected_plain : (ss : Selectors) (t : Target) → SpokenSelectors ss → selected w ss t ≡ selected v ss t
      selected_plain no_selectors t h = refl
      selected_plain (more_selectors c cs) t h = binds (chosen w c t) (chosen v c t) _ _ (chosen_plain c t h.0) (λ u. selected_plain cs u h.1)

      chosen_plain : (c : Selector) (t : Target) → SpokenSelector c → chosen w c t ≡ chosen v c t
      chosen_plain (field i) t h = refl
      chosen_plain (index e) t h = binds (value w e) (value v e) _ _ (value_plain e h) (λ x. refl)
