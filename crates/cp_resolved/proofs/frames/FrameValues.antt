-- The frame of a routine in the tables: first values, `var` parameters, and what is declared.
use Rattle.std.proofs.Common.{◌≡◌, ◌+◌, ◌<◌, ◌⊎◌, inl, inr, ℕ, ℤ, pos, Bool, true, false, if◌then◌else◌, List, [], ◌∷◌, ◌++◌, length, Option, Some, None, refl, sym, ap, subst, ◌∙◌}
use Rattle.cp_resolved.proofs.Words.{none-some, same_Some, Layer, own_result, Name, same_name, temporary, result_name, Ty, has_components, local_variable, find, Variable}
use Rattle.cp_resolved.proofs.Words.{Parameter, RoutineMeaning, content_of, value_held, result_called, routine_called, parameter_variables, all_calls_laid, encode}
use Rattle.cp_resolved.proofs.Words.{HasType, AreDeclared, routine_variables, IsOrdinal, Numbering, InStep, look, FrameLayout, IsWord, AreWords, Each, is_free}
use Rattle.cp_resolved.proofs.Words.{is_indexed, IsFreeVariable, call_variables, result_variables, parameters_by, frame_layout, components_among}
use Rattle.cp_tree.specs.Syntax as syntax
use Rattle.cp_meaning.specs.Types as named
use Rattle.cp_meaning.specs.Values.{number_value, least}
use Rattle.cp_meaning.specs.State.{Item, statement_item, function_call, start_item, until, successor, return, init_end, end, holds}
use Rattle.cp_meaning.specs.Calls.{least_of, least_result}
use Rattle.cp_resolved.proofs.frames.FrameStands.{zero_has, is_result, all, refs, case_of}
use Rattle.cp_resolved.specs.Calls as calls
use Rattle.cp_resolved.specs.Resolved.{StandsAt, first_value, ParameterIs, ParametersAre}
use Rattle.cp_resolved.proofs.frames.FrameCells.{same_is, look_right, look_either, look_each, none_right, cells_before, stands_after}
use Rattle.cp_resolved.proofs.frames.FrameSteps.{Frames}
use Rattle.cp_resolved.proofs.frames.FramesBegun.{no_parameter}
use Rattle.cp_resolved.proofs.frames.LeastCells.{right_true, least_typed}
use Rattle.cp_resolved.proofs.agreeing.ScopeVariables.{Among, among_left, among_right, among_look, AreOf, of_local}
use Rattle.cp_resolved.proofs.systems.SystemKnown.{found_among, among_either, content_left, least_none, least_some}
use Rattle.cp_resolved.proofs.laid.ZeroCells.{AreZeros}
use Rattle.cp_resolved.proofs.frames.FrameKnown.{word_found, no_word, by_all, either_by, missing_all, IsTemporary, zero_stands}
use Rattle.cp_meaning.proofs.Held.{nothing_append as content_right}
use Rattle.cp_resolved.proofs.agreeing.AgreeingWritten.{each_right}

free_plain : (t : Ty) → is_free t ≡ true → has_components t ≡ false
free_plain (named.array_over r (named.component_of n)) h = absurd (let bad : false ≡ true = right_true (is_indexed r (named.component_of n)) false h in cc)
free_plain (named.component_of n) h = absurd (let bad : false ≡ true = h in cc)
free_plain _ h = refl

all_plain : (vs : List Variable) → Each IsFreeVariable vs → components_among false vs ≡ vs
all_plain [] h = refl
all_plain (v ∷ vs) h = ap (λ b. if b then components_among false vs else v ∷ components_among false vs) (free_plain v.ty h.0) ∙ ap (λ us. v ∷ us) (all_plain vs h.1)

pub zero_after : (image zeros : List ℤ) (n : ℕ) → AreZeros zeros → n < length zeros → StandsAt (image ++ zeros) (length image + n) (encode (number_value (pos 0)))
zero_after image zeros n are lt = stands_after image zeros (pos 0 ∷ []) n (zero_stands zeros n are lt)

module _ (k : Numbering) (p : syntax.Program) (m : RoutineMeaning) (l : Layer) (declared : AreDeclared local_variable m.scope (routine_variables m)) (words : AreWords m.scope) (steps : InStep k l.types l.names m.scope)
    (frames : Frames l (all k p m l declared words steps) (refs k p m l declared words steps)) (slot : (t : Ty) → look result_name (all k p m l declared words steps) ≡ Some t → own_result l ≡ cells_before result_name (all k p m l declared words steps))
    (apart : calls.AreApart (all_calls_laid m.scope m.body)) (ordinal : Each (λ v. IsOrdinal v.ty) (call_variables p m.scope (all_calls_laid m.scope m.body))) where
  abbrev fr : FrameLayout
  fr = frame_layout p m l

  abbrev cs' : List Item
  cs' = all_calls_laid m.scope m.body

  abbrev vs : List Variable
  vs = (parameters_by false m.parameters ++ result_variables m.result) ++ m.variables

  abbrev rs : List Variable
  rs = parameters_by true m.parameters

  abbrev Known : Name → Ty → Type 0
  Known x t = IsTemporary x t cs' ⊎ (look x vs ≡ Some t)

  known : (x : Name) (t : Ty) → look x fr.variables ≡ Some t → Known x t
  known = case_of k p m l declared words steps frames slot apart ordinal

  none_among : (x : Name) → (IsWord x → ⊥) → look x m.variables ≡ None
  none_among x bad = none_right x (parameter_variables m.parameters) m.variables (no_word x m.scope (routine_variables m) bad words declared.visible)

  -- ---- first values

  variables_free : Each IsFreeVariable m.variables
  variables_free = each_right IsFreeVariable (parameters_by false m.parameters ++ result_variables m.result) m.variables frames.free

  least_nothing : (x : Name) → look x m.variables ≡ None → content_of x (least_of m.variables) ≡ None
  least_nothing x e = least_none x m.variables (ap (look x) (all_plain m.variables variables_free) ∙ e)

  result_none : (x : Name) (o : Option Ty) → look x (result_variables o) ≡ None → content_of x (least_result o) ≡ None
  result_none x None e = refl
  result_none x (Some u) e = go (same_name x result_name) e
    where
      go : (b : Bool) → (if b then Some u else None) ≡ None → (if b then Some (holds (least u)) else None) ≡ None
      go true g = absurd (none-some u (sym g))
      go false g = refl

  result_some : (x : Name) (t : Ty) (o : Option Ty) → look x (result_variables o) ≡ Some t → content_of x (least_result o) ≡ Some (holds (least t))
  result_some x t None e = absurd (none-some t e)
  result_some x t (Some u) e = go (same_name x result_name) e
    where
      go : (b : Bool) → (if b then Some u else None) ≡ Some t → (if b then Some (holds (least u)) else None) ≡ Some (holds (least t))
      go true g = ap (λ w. Some (holds (least w))) (same_Some u t g)
      go false g = absurd (none-some t g)

  temporary_other : (at : ℕ) (o : Option Ty) → look (temporary at) (result_variables o) ≡ None
  temporary_other at None = refl
  temporary_other at (Some u) = refl

  pub first_zero : (x : Name) (t : Ty) → IsTemporary x t cs' → first_value m x ≡ number_value (pos 0)
  first_zero x t e =
      subst (λ y. first_value m y ≡ number_value (pos 0)) (sym e.is)
      (ap value_held (content_right (temporary e.at) (least_of m.variables) (least_result m.result) (least_nothing (temporary e.at) (none_among (temporary e.at) (λ i. i))) ∙ result_none (temporary e.at) m.result (temporary_other e.at m.result)))

  pub first_least : (x : Name) (t : Ty) → look x vs ≡ Some t → look x (parameter_variables m.parameters) ≡ None → first_value m x ≡ least t
  first_least x t e none = go (look_either x t (parameters_by false m.parameters ++ result_variables m.result) m.variables e)
    where
      inner : (look x (parameters_by false m.parameters) ≡ Some t) ⊎ ((look x (parameters_by false m.parameters) ≡ None) × (look x (result_variables m.result) ≡ Some t)) → first_value m x ≡ least t
      inner (inl g) = absurd (none-some t (sym (no_parameter false x m.parameters none) ∙ g))
      inner (inr g) =
          let gone : look x m.variables ≡ None = subst (λ y. look y m.variables ≡ None) (sym (is_result x t m.result g.1)) (none_among result_name (λ i. i)) in
          ap value_held (content_right x (least_of m.variables) (least_result m.result) (least_nothing x gone) ∙ result_some x t m.result g.1)

      go : (look x (parameters_by false m.parameters ++ result_variables m.result) ≡ Some t) ⊎ ((look x (parameters_by false m.parameters ++ result_variables m.result) ≡ None) × (look x m.variables ≡ Some t)) → first_value m x ≡ least t
      go (inl g) = inner (look_either x t (parameters_by false m.parameters) (result_variables m.result) g)
      go (inr g) = ap value_held (content_left x (holds (least t)) (least_of m.variables) (least_result m.result) (least_some x t m.variables (ap (look x) (all_plain m.variables variables_free) ∙ g.1)))

  pub values_typed : (x : Name) (t : Ty) → look x fr.variables ≡ Some t → look x (parameter_variables m.parameters) ≡ None → HasType t (first_value m x)
  values_typed x t e none = go (known x t e)
    where
      go : Known x t → HasType t (first_value m x)
      go (inl c) = subst (HasType t) (sym (first_zero x t c)) (zero_has t c.ordinal)
      go (inr c) = subst (HasType t) (sym (first_least x t c none)) (least_typed t (look_each IsFreeVariable x t vs frames.free c))

  -- ---- what is declared

  parameter_there : (qs : List Parameter) → ((x : Name) (t : Ty) → Among x t (parameters_by true qs) → look x rs ≡ Some t) → ((x : Name) (t : Ty) → Among x t (parameters_by false qs) → look x fr.variables ≡ Some t) → ParametersAre fr qs
  parameter_there [] a b = tt
  parameter_there (q ∷ qs) a b = go q.is_var a b (λ c d. parameter_there qs c d)
    where
      go : (c : Bool) → ((x : Name) (t : Ty) → Among x t (if c then (let v : Variable = record { name = q.name; ty = q.ty } in v) ∷ parameters_by true qs else parameters_by true qs) → look x rs ≡ Some t) →
          ((x : Name) (t : Ty) → Among x t (if c then parameters_by false qs else (let v : Variable = record { name = q.name; ty = q.ty } in v) ∷ parameters_by false qs) → look x fr.variables ≡ Some t) →
          (((x : Name) (t : Ty) → Among x t (parameters_by true qs) → look x rs ≡ Some t) → ((x : Name) (t : Ty) → Among x t (parameters_by false qs) → look x fr.variables ≡ Some t) → ParametersAre fr qs) → ParameterIs fr c q × ParametersAre fr qs
      go true a b rest = (a q.name q.ty (inl (refl, refl)), rest (λ x t h. a x t (inr h)) b)
      go false a b rest = (b q.name q.ty (inl (refl, refl)), rest a (λ x t h. b x t (inr h)))

  reference_found : (x : Name) (t : Ty) → Among x t rs → look x rs ≡ Some t
  reference_found x t a = found_among x t rs (routine_variables m) declared.different (λ u h. among_left x u (parameter_variables m.parameters) m.variables (by_all true x u m.parameters h)) a

  no_call : (x : Name) (is : List Item) → IsWord x → look x (call_variables p m.scope is) ≡ None
  no_call x [] w = refl
  no_call x (function_call at d es ∷ is) w = go (same_name x (temporary at)) refl (no_call x is w)
    where
      go : (b : Bool) → same_name x (temporary at) ≡ b → look x (call_variables p m.scope is) ≡ None → (if b then Some (result_called (routine_called p m.scope d)) else look x (call_variables p m.scope is)) ≡ None
      go true e rest = absurd (subst IsWord (same_is x (temporary at) e) w)
      go false e rest = rest
  no_call x (statement_item q ∷ is) w = no_call x is w
  no_call x (start_item q ∷ is) w = no_call x is w
  no_call x (until ts q ∷ is) w = no_call x is w
  no_call x (successor at i z d v q ∷ is) w = no_call x is w
  no_call x (return q ∷ is) w = no_call x is w
  no_call x (init_end j ∷ is) w = no_call x is w
  no_call x (end ∷ is) w = no_call x is w

  no_result : (x : Name) (o : Option Ty) → IsWord x → look x (result_variables o) ≡ None
  no_result x None w = refl
  no_result x (Some u) w = go (same_name x result_name) refl
    where
      go : (b : Bool) → same_name x result_name ≡ b → (if b then Some u else None) ≡ None
      go true e = absurd (subst IsWord (same_is x result_name e) w)
      go false e = refl

  variable_found : (x : Name) (t : Ty) → Among x t (parameters_by false m.parameters ++ m.variables) → look x fr.variables ≡ Some t
  variable_found x t a =
      let inside : Among x t (routine_variables m) = missing_all x t m.parameters m.variables a in
      let word : IsWord x = word_found x (local_variable t) m.scope words (look_each (λ v. find v.name m.scope ≡ Some (local_variable v.ty)) x t (routine_variables m) declared.visible (among_look x t (routine_variables m) declared.different inside)) in
      look_right x (call_variables p m.scope cs') (result_variables m.result ++ (parameters_by false m.parameters ++ m.variables)) (no_call x cs' word)
      ∙ look_right x (result_variables m.result) (parameters_by false m.parameters ++ m.variables) (no_result x m.result word)
      ∙ found_among x t (parameters_by false m.parameters ++ m.variables) (routine_variables m) declared.different (λ u h. missing_all x u m.parameters m.variables h) a

  pub parameters_there : ParametersAre fr m.parameters
  parameters_there = parameter_there m.parameters (λ x t h. reference_found x t h) (λ x t h. variable_found x t (among_left x t (parameters_by false m.parameters) m.variables h))

  pub locals_there : (ps : List Variable) → AreOf (routine_variables m) ps m.scope → (x : Name) (t : Ty) → find x m.scope ≡ Some (local_variable t) → (look x fr.variables ≡ Some t) ⊎ (look x fr.references ≡ Some t)
  locals_there ps visible x t e = go (among_either x t (parameter_variables m.parameters) m.variables (of_local x t (routine_variables m) ps m.scope visible e))
    where
      inner : Among x t (parameters_by false m.parameters) ⊎ Among x t rs → (look x fr.variables ≡ Some t) ⊎ (look x fr.references ≡ Some t)
      inner (inl a) = inl (variable_found x t (among_left x t (parameters_by false m.parameters) m.variables a))
      inner (inr a) = inr (reference_found x t a)

      go : Among x t (parameter_variables m.parameters) ⊎ Among x t m.variables → (look x fr.variables ≡ Some t) ⊎ (look x fr.references ≡ Some t)
      go (inl a) = inner (either_by x t m.parameters a)
      go (inr a) = inl (variable_found x t (among_right x t (parameters_by false m.parameters) m.variables a))
