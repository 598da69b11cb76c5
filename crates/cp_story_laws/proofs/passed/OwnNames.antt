-- A frame has the own variables of its routine, and the temporary names of the function calls in it, which are names of no own variables.
use Rattle.std.proofs.Common.{◌≡◌, ◌∙◌, ℕ, ◌⊎◌, inl, inr, Bool, true, false, if◌then◌else◌, List, [], ◌∷◌, ◌++◌, Option, Some, None, ap, sym, refl, subst}
use Rattle.cp_tree.specs.Read.{IsRead}
use Rattle.cp_tree.specs.Syntax.{Tree}
use Rattle.cp_slots.specs.Tables.{Tables, routine_at}
use Rattle.cp_meaning_laws.specs.Accepted.{IsAccepted}
use Rattle.cp_meaning.specs.Declarations.{Parameter, RoutineMeaning, Variable}
use Rattle.cp_meaning.specs.Names.{Name, result_name, temporary}
use Rattle.cp_meaning.specs.Scopes.{find, local_variable}
use Rattle.cp_meaning.specs.State.{Item}
use Rattle.cp_meaning.specs.Steps.{parameter_variables}
use Rattle.cp_meaning.specs.Types.{Ty}
use Rattle.cp_resolved.specs.Calls.{all_calls_laid}
use Rattle.cp_resolved.specs.Framed.{IsFramed, routine_variables}
use Rattle.cp_resolved.specs.Layouts.{FrameLayout, look}
use Rattle.cp_resolved.specs.LayoutsKnow.{IsPlaced}
use Rattle.cp_resolved.specs.Once.{IsWord}
use Rattle.cp_resolved.specs.Openings.{meaning_at}
use Rattle.cp_resolved.specs.Resolved.{FrameIs, ParameterIs, ParametersAre, ResultIs}
use Rattle.cp_resolved.specs.Small.{Each}
use Rattle.cp_resolved.specs.TreeLayouts.{call_variables, layouts_of, parameters_by, result_variables}
use Rattle.cp_resolved.proofs.agreeing.AgreeingWritten.{each_right}
use Rattle.cp_resolved.proofs.agreeing.ScopeVariables.{Among, among_right, look_among}
use Rattle.cp_resolved.proofs.declarations.FramedOfTrees.{accepted_framed}
use Rattle.cp_resolved.proofs.declarations.Placed.{placed_law}
use Rattle.cp_resolved.proofs.frames.FrameCells.{each_both, look_either, look_left, look_right, none_both, none_left, none_right}
use Rattle.cp_resolved.proofs.frames.FrameKnown.{never_both, no_word, temporary_of}
use Rattle.cp_resolved.proofs.frames.FrameStands.{is_result}
use Rattle.cp_resolved.proofs.frames.FramesBegun.{no_parameter}
use Rattle.cp_legend_laws.specs.Routines.{own_variables, result_variable, value_parameters}

-- ---- lists

values_same : (qs : List Parameter) → value_parameters qs ≡ parameters_by false qs
values_same [] = refl
values_same (q ∷ qs) = go q.is_var (values_same qs)
  where
    go : (b : Bool) → value_parameters qs ≡ parameters_by false qs → (if b then value_parameters qs else (let v : Variable = record { name = q.name; ty = q.ty } in v) ∷ value_parameters qs) ≡ (if b then parameters_by false qs else (let v : Variable = record { name = q.name; ty = q.ty } in v) ∷ parameters_by false qs)
    go true e = e
    go false e = ap (λ (vs : List Variable). (let v : Variable = record { name = q.name; ty = q.ty } in v) ∷ vs) e

result_same : (o : Option Ty) → result_variable o ≡ result_variables o
result_same None = refl
result_same (Some u) = refl

no_result : (x : Name) (o : Option Ty) → (x ≡ result_name → ⊥) → look x (result_variables o) ≡ None
no_result x o bad = go (look x (result_variables o)) refl
  where
    go : (w : Option Ty) → look x (result_variables o) ≡ w → look x (result_variables o) ≡ None
    go None e = e
    go (Some u) e = absurd (bad (is_result x u o e))

-- ---- names

-- neither a name that is spelled nor that of a result
abbrev pub IsHidden : Name → Type 0
IsHidden x = (IsWord x → ⊥) × (x ≡ result_name → ⊥)

-- no own variable has such a name
abbrev pub HasNoHidden : RoutineMeaning → Type 0
HasNoHidden m = (x : Name) → IsHidden x → look x (own_variables m) ≡ None

hidden_temporary : (x : Name) (at : ℕ) → x ≡ temporary at → IsHidden x
hidden_temporary x at e = (λ (h : IsWord x). (let bad : IsWord (temporary at) = subst IsWord e h in bad), λ f. (let bad : temporary at ≡ result_name = sym e ∙ f in absurd cc))

module _ (t : Tree) (read : IsRead t.program) (ok : IsAccepted t) (n : ℕ) where
  abbrev m : RoutineMeaning
  m = meaning_at t.program n

  abbrev f : FrameLayout
  f = (layouts_of t).frames n

  abbrev first : List Variable
  first = parameters_by false m.parameters

  abbrev calls : List Item
  calls = all_calls_laid m.scope m.body

  framed : IsFramed t
  framed = accepted_framed t read ok

  place : IsPlaced t
  place = placed_law t read ok

  own_is : own_variables m ≡ first ++ (result_variables m.result ++ m.variables)
  own_is = ap (λ (vs : List Variable). vs ++ (result_variable m.result ++ m.variables)) (values_same m.parameters) ∙ ap (λ (vs : List Variable). first ++ (vs ++ m.variables)) (result_same m.result)

  pub no_hidden : HasNoHidden m
  no_hidden x h =
      let none : look x (routine_variables m) ≡ None = no_word x m.scope (routine_variables m) h.0 (place.words n) (framed.locals n).visible in
      ap (look x) own_is
      ∙ none_both x first (result_variables m.result ++ m.variables) (no_parameter false x m.parameters (none_left x (parameter_variables m.parameters) m.variables none))
      (none_both x (result_variables m.result) m.variables (no_result x m.result h.1) (none_right x (parameter_variables m.parameters) m.variables none))

  -- in the layout the result stands before the parameters
  turned : (x : Name) (w : Ty) → look x (result_variables m.result ++ (first ++ m.variables)) ≡ Some w → look x (first ++ (result_variables m.result ++ m.variables)) ≡ Some w
  turned x w e = go (look_either x w (result_variables m.result) (first ++ m.variables) e)
    where
      no_first : x ≡ result_name → look x first ≡ None
      no_first same =
          let none : look result_name (routine_variables m) ≡ None = no_word result_name m.scope (routine_variables m) (λ i. i) (place.words n) (framed.locals n).visible in
          subst (λ (y : Name). look y first ≡ None) (sym same) (no_parameter false result_name m.parameters (none_left result_name (parameter_variables m.parameters) m.variables none))

      after : (look x first ≡ Some w) ⊎ ((look x first ≡ None) × (look x m.variables ≡ Some w)) → look x (result_variables m.result) ≡ None → look x (first ++ (result_variables m.result ++ m.variables)) ≡ Some w
      after (inl g) none = look_left x w first (result_variables m.result ++ m.variables) g
      after (inr g) none = look_right x first (result_variables m.result ++ m.variables) g.0 ∙ (look_right x (result_variables m.result) m.variables none ∙ g.1)

      go : (look x (result_variables m.result) ≡ Some w) ⊎ ((look x (result_variables m.result) ≡ None) × (look x (first ++ m.variables) ≡ Some w)) → look x (first ++ (result_variables m.result ++ m.variables)) ≡ Some w
      go (inl g) = look_right x first (result_variables m.result ++ m.variables) (no_first (is_result x w m.result g)) ∙ look_left x w (result_variables m.result) m.variables g
      go (inr g) = after (look_either x w first m.variables g.1) g.0

  -- a variable of the frame
  pub own_or_hidden : (x : Name) (w : Ty) → look x f.variables ≡ Some w → (look x (own_variables m) ≡ Some w) ⊎ IsHidden x
  own_or_hidden x w e = go (look_either x w (call_variables t.program m.scope calls) (result_variables m.result ++ (first ++ m.variables)) e)
    where
      go : (look x (call_variables t.program m.scope calls) ≡ Some w) ⊎ ((look x (call_variables t.program m.scope calls) ≡ None) × (look x (result_variables m.result ++ (first ++ m.variables)) ≡ Some w)) → (look x (own_variables m) ≡ Some w) ⊎ IsHidden x
      go (inl g) = let i = temporary_of t.program m.scope x w calls (place.apart n) (framed.calls n) g in inr (hidden_temporary x i.at i.is)
      go (inr g) = inl (ap (look x) own_is ∙ turned x w g.1)

  module _ (r : Tables) (is : FrameIs f (routine_at r n) m) where
    values_looked : (qs : List Parameter) → ParametersAre f qs → Each (λ (v : Variable). look v.name f.variables ≡ Some v.ty) (value_parameters qs)
    values_looked [] h = tt
    values_looked (q ∷ qs) h = go q.is_var h.0 (values_looked qs h.1)
      where
        go : (b : Bool) → ParameterIs f b q → Each (λ (v : Variable). look v.name f.variables ≡ Some v.ty) (value_parameters qs) →
            Each (λ (v : Variable). look v.name f.variables ≡ Some v.ty) (if b then value_parameters qs else (let v : Variable = record { name = q.name; ty = q.ty } in v) ∷ value_parameters qs)
        go true k rest = rest
        go false k rest = (k, rest)

    result_looked : (o : Option Ty) → ResultIs f (routine_at r n) o → Each (λ (v : Variable). look v.name f.variables ≡ Some v.ty) (result_variable o)
    result_looked None h = tt
    result_looked (Some u) h = (h.0, tt)

    local_looked : (x : Name) (u : Ty) → Among x u m.variables → find x m.scope ≡ Some (local_variable u) → look x f.variables ≡ Some u
    local_looked x u a e = go (is.locals x u e)
      where
        go : (look x f.variables ≡ Some u) ⊎ (look x f.references ≡ Some u) → look x f.variables ≡ Some u
        go (inl k) = k
        go (inr k) = absurd (never_both x u u m.parameters m.variables (framed.locals n).different (among_right x u first m.variables a) (look_among x u (parameters_by true m.parameters) k))

    all_seen : (vs : List Variable) → ((x : Name) (u : Ty) → Among x u vs → Among x u m.variables) → Each (λ (v : Variable). find v.name m.scope ≡ Some (local_variable v.ty)) vs → Each (λ (v : Variable). look v.name f.variables ≡ Some v.ty) vs
    all_seen [] i h = tt
    all_seen (v ∷ vs) i h = (local_looked v.name v.ty (i v.name v.ty (inl (refl, refl))) h.0, all_seen vs (λ x u a. i x u (inr a)) h.1)

    -- the frame has each of the own variables
    pub own_looked : Each (λ (v : Variable). look v.name f.variables ≡ Some v.ty) (own_variables m)
    own_looked =
        each_both (λ (v : Variable). look v.name f.variables ≡ Some v.ty) (value_parameters m.parameters) (result_variable m.result ++ m.variables) (values_looked m.parameters is.parameters)
        (each_both (λ (v : Variable). look v.name f.variables ≡ Some v.ty) (result_variable m.result) m.variables (result_looked m.result is.result)
        (all_seen m.variables (λ x u a. a) (each_right (λ (v : Variable). find v.name m.scope ≡ Some (local_variable v.ty)) (parameter_variables m.parameters) m.variables (framed.locals n).visible)))
