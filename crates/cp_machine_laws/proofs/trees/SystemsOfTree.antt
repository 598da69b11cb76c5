-- The layouts of the system types of a tree: what has cells stands, is no parameter that is a component, and all that has neither has no content at first.
use Rattle.std.proofs.Common.{◌≡◌, ◌∙◌, ℕ, Bool, true, false, if◌then◌else◌, List, [], ◌∷◌, ◌++◌, Some, None, inl, inr, ap, sym, refl, subst}
use Rattle.cp_machine_laws.proofs.Words.{Tree, Program, least_of, Variable, Parameter, Name, same_name, content_of, Environment, system_of, Ty, has_components, look, Each}
use Rattle.cp_machine_laws.proofs.Words.{AreDifferent, parameter_variables, first_environment, is_standing, IsStandingVariable}
use Rattle.cp_resolved.specs.Framed as framed
use Rattle.cp_resolved.specs.Framed.{system_variables, IsFramed}
use Rattle.cp_resolved.specs.TreeLayouts.{components_among, layouts_of}
use Rattle.cp_resolved.proofs.frames.FrameCells.{same_is}
use Rattle.cp_resolved.proofs.agreeing.ScopeVariables.{Among, among_left, look_among, among_look, components_append, among_all}
use Rattle.cp_machine_laws.proofs.calls.NewFrame.{others_named as is_other}
use Rattle.cp_resolved.proofs.systems.SystemKnown.{least_none as none_least}

-- ---- different names

pub different_left : (vs ws : List Variable) → framed.AreDifferent (vs ++ ws) → framed.AreDifferent vs
different_left [] ws d = tt
different_left (v ∷ vs) ws d = (missing_left v.name vs ws d.0, different_left vs ws d.1)
  where
    missing_left : (x : Name) (vs ws : List Variable) → look x (vs ++ ws) ≡ None → look x vs ≡ None
    missing_left x [] ws h = refl
    missing_left x (v ∷ vs) ws h = go (same_name x v.name) h (missing_left x vs ws)
      where
        go : (b : Bool) → (if b then Some v.ty else look x (vs ++ ws)) ≡ None → (look x (vs ++ ws) ≡ None → look x vs ≡ None) → (if b then Some v.ty else look x vs) ≡ None
        go true e rest = absurd (let bad : Some v.ty ≡ None = e in cc)
        go false e rest = rest e

pub parameters_different : (qs : List Parameter) → framed.AreDifferent (parameter_variables qs) → AreDifferent qs
parameters_different [] d = tt
parameters_different (q ∷ qs) d = (is_other q.name qs d.0, parameters_different qs d.1)

each_among : (P : Variable → Type 0) (Q : Ty → Type 0) (x : Name) (u : Ty) (vs : List Variable) → ((v : Variable) → P v → Q v.ty) → Each P vs → Among x u vs → Q u
each_among P Q x u [] out h a = absurd a
each_among P Q x u (v ∷ vs) out h (inl a) = subst Q a.1 (out v h.0)
each_among P Q x u (v ∷ vs) out h (inr a) = each_among P Q x u vs out h.1 a

-- ---- what has no content at first

none_of_two : (x : Name) (d e : Environment) → content_of x d ≡ None → content_of x e ≡ None → content_of x (d ++ e) ≡ None
none_of_two x [] e h k = k
none_of_two x (b ∷ d) e h k = go (same_name x b.0) h (λ i. none_of_two x d e i k)
  where
    go : (c : Bool) → (if c then Some b.1 else content_of x d) ≡ None → (content_of x d ≡ None → content_of x (d ++ e) ≡ None) → (if c then Some b.1 else content_of x (d ++ e)) ≡ None
    go true i rest = absurd (let bad : Some b.1 ≡ None = i in cc)
    go false i rest = rest i

none_right : (x : Name) (vs ws : List Variable) → look x (vs ++ ws) ≡ None → (look x vs ≡ None) × (look x ws ≡ None)
none_right x [] ws h = (refl, h)
none_right x (v ∷ vs) ws h = go (same_name x v.name) h (none_right x vs ws)
  where
    go : (b : Bool) → (if b then Some v.ty else look x (vs ++ ws)) ≡ None → (look x (vs ++ ws) ≡ None → (look x vs ≡ None) × (look x ws ≡ None)) → ((if b then Some v.ty else look x vs) ≡ None) × (look x ws ≡ None)
    go true e rest = absurd (let bad : Some v.ty ≡ None = e in cc)
    go false e rest = rest e

-- ---- the layouts

module _ (t : Tree) (good : IsFramed t) (k : ℕ) where
  abbrev p : Program
  p = t.program

  abbrev parameters : List Variable
  parameters = parameter_variables (system_of p k).parameters

  abbrev variables : List Variable
  variables = (system_of p k).variables

  all_different : framed.AreDifferent (system_variables (system_of p k))
  all_different = (good.permanents k).different

  pub standing_so : (x : Name) (u : Ty) → look x ((layouts_of t).systems k).variables ≡ Some u → is_standing u ≡ true
  standing_so x u e =
      each_among IsStandingVariable (λ w. is_standing w ≡ true) x u (parameters ++ variables) (λ v h. h) (good.standing k)
      (among_all false x u (parameters ++ variables) (look_among x u (components_among false (parameters ++ variables)) e)).0

  pub apart_so : (x w : Name) (v u : Ty) → look x ((layouts_of t).systems k).parts ≡ Some v → look w ((layouts_of t).systems k).variables ≡ Some u → same_name x w ≡ false
  apart_so x w v u e f = go (same_name x w) refl
    where
      part : Among x v parameters × (has_components v ≡ true)
      part = among_all true x v parameters (look_among x v (components_among true parameters) e)

      other : Among w u (parameters ++ variables) × (has_components u ≡ false)
      other = among_all false w u (parameters ++ variables) (look_among w u (components_among false (parameters ++ variables)) f)

      go : (b : Bool) → same_name x w ≡ b → same_name x w ≡ false
      go false i = i
      go true i =
          let a : look x (parameters ++ variables) ≡ Some v = among_look x v (parameters ++ variables) all_different (among_left x v parameters variables part.0) in
          let c : look w (parameters ++ variables) ≡ Some u = among_look w u (parameters ++ variables) all_different other.0 in
          let same : x ≡ w = same_is x w i in
          let both : Some v ≡ Some u = sym a ∙ (ap (λ y. look y (parameters ++ variables)) same ∙ c) in
          let types : v ≡ u = cc in
          let bad : true ≡ false = sym part.1 ∙ (ap has_components types ∙ other.1) in
          absurd cc

  pub closed_so : (x : Name) (u : Ty) → look x ((layouts_of t).systems k).parts ≡ Some u → look x parameters ≡ Some u
  closed_so x u e = among_look x u parameters (different_left parameters variables all_different) (among_all true x u parameters (look_among x u (components_among true parameters) e)).0

  pub different_so : AreDifferent (system_of p k).parameters
  different_so = parameters_different (system_of p k).parameters (different_left parameters variables all_different)

  pub silent_so : (x : Name) → look x ((layouts_of t).systems k).variables ≡ None → content_of x (first_environment (system_of p k)) ≡ None
  silent_so x e =
      let two = none_right x (components_among false parameters) (components_among false variables) (subst (λ vs. look x vs ≡ None) (components_append false parameters variables) e) in
      none_of_two x (least_of parameters) (least_of variables) (none_least x parameters two.0) (none_least x variables two.1)
