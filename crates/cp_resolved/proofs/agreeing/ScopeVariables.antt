-- The variables that are visible in a scope are those that were declared.
use Rattle.std.proofs.Common.{◌≡◌, ℕ, suc, Bool, true, false, if◌then◌else◌, List, [], ◌∷◌, ◌++◌, Some, None, refl, sym, ap, subst, ◌∙◌, ◌⊎◌, inl, inr, append_assoc, append-nil}
use Rattle.cp_resolved.proofs.Words.{none-some, same_Some, Name, same_name, parameter_variables, AreDifferent, look, Each, components_among}
use Rattle.cp_tree.specs.Syntax as syntax
use Rattle.cp_meaning.specs.Types.{Base, enumerated, Ty, has_components}
use Rattle.cp_meaning.specs.Scopes.{Meaning, constant_meaning, type_meaning, local_variable, permanent_variable, routine_meaning, standard_meaning, Scope, find, seen_inside}
use Rattle.cp_meaning.specs.Declarations.{Variable, Block, Heading, names_of, named_variables, parameters_named, with_names, with_constants, simple_in, type_in, fields_in, constants_in, types_in, variables_in, part_in, parts_in, with_group, with_groups, with_parameter_groups, type_named}
use Rattle.cp_resolved.proofs.frames.FrameCells.{itself, same_is}
use Rattle.cp_resolved.proofs.frames.FrameSteps.{one_variable}
use Rattle.cp_resolved.proofs.frames.FramesBegun.{variables_append, named_parameters}

-- ---- variables among others

abbrev pub Among : Name → Ty → List Variable → Type 0
Among x t [] = ⊥
Among x t (v ∷ vs) = ((v.name ≡ x) × (v.ty ≡ t)) ⊎ Among x t vs

pub among_left : (x : Name) (t : Ty) (vs ws : List Variable) → Among x t vs → Among x t (vs ++ ws)
among_left x t [] ws h = absurd h
among_left x t (v ∷ vs) ws (inl h) = inl h
among_left x t (v ∷ vs) ws (inr h) = inr (among_left x t vs ws h)

pub among_right : (x : Name) (t : Ty) (vs ws : List Variable) → Among x t ws → Among x t (vs ++ ws)
among_right x t [] ws h = h
among_right x t (v ∷ vs) ws h = inr (among_right x t vs ws h)

pub look_among : (x : Name) (t : Ty) (vs : List Variable) → look x vs ≡ Some t → Among x t vs
look_among x t [] h = absurd (none-some t h)
look_among x t (v ∷ vs) h = go (same_name x v.name) refl h (look_among x t vs)
  where
    go : (b : Bool) → same_name x v.name ≡ b → (if b then Some v.ty else look x vs) ≡ Some t → (look x vs ≡ Some t → Among x t vs) → ((v.name ≡ x) × (v.ty ≡ t)) ⊎ Among x t vs
    go true e f rest = inl (sym (same_is x v.name e), same_Some v.ty t f)
    go false e f rest = inr (rest f)

-- one that is among others is not missing
pub never_missing : (x : Name) (t : Ty) (vs : List Variable) → Among x t vs → look x vs ≡ None → ⊥
never_missing x t [] h e = h
never_missing x t (v ∷ vs) h e = go (same_name x v.name) refl e h (never_missing x t vs)
  where
    go : (b : Bool) → same_name x v.name ≡ b → (if b then Some v.ty else look x vs) ≡ None → ((v.name ≡ x) × (v.ty ≡ t)) ⊎ Among x t vs → (Among x t vs → look x vs ≡ None → ⊥) → ⊥
    go true f g i rest = absurd (none-some v.ty (sym g))
    go false f g (inl i) rest = absurd (let bad : true ≡ false = sym (itself x) ∙ subst (λ y. same_name x y ≡ false) i.0 f in cc)
    go false f g (inr i) rest = rest i g

pub among_look : (x : Name) (t : Ty) (vs : List Variable) → AreDifferent vs → Among x t vs → look x vs ≡ Some t
among_look x t [] d h = absurd h
among_look x t (v ∷ vs) d (inl h) = ap (λ b. if b then Some v.ty else look x vs) (subst (λ y. same_name x y ≡ true) (sym h.0) (itself x)) ∙ ap (λ u. Some u) h.1
among_look x t (v ∷ vs) d (inr h) = go (same_name x v.name) refl (among_look x t vs d.1 h)
  where
    go : (b : Bool) → same_name x v.name ≡ b → look x vs ≡ Some t → (if b then Some v.ty else look x vs) ≡ Some t
    go true e rest = absurd (never_missing x t vs h (subst (λ y. look y vs ≡ None) (sym (same_is x v.name e)) d.0))
    go false e rest = rest

pub components_append : (b : Bool) (vs ws : List Variable) → components_among b (vs ++ ws) ≡ components_among b vs ++ components_among b ws
components_append true [] ws = refl
components_append false [] ws = refl
components_append true (v ∷ vs) ws = go (has_components v.ty) (components_append true vs ws)
  where
    go : (c : Bool) → components_among true (vs ++ ws) ≡ components_among true vs ++ components_among true ws → (if c then v ∷ components_among true (vs ++ ws) else components_among true (vs ++ ws)) ≡ (if c then v ∷ components_among true vs else components_among true vs) ++ components_among true ws
    go true e = ap (λ us. v ∷ us) e
    go false e = e
components_append false (v ∷ vs) ws = go (has_components v.ty) (components_append false vs ws)
  where
    go : (c : Bool) → components_among false (vs ++ ws) ≡ components_among false vs ++ components_among false ws → (if c then components_among false (vs ++ ws) else v ∷ components_among false (vs ++ ws)) ≡ (if c then components_among false vs else v ∷ components_among false vs) ++ components_among false ws
    go true e = e
    go false e = ap (λ us. v ∷ us) e

-- those without components, or with them, are among all
pub among_all : (b : Bool) (x : Name) (t : Ty) (vs : List Variable) → Among x t (components_among b vs) → Among x t vs × (has_components t ≡ b)
among_all true x t [] h = absurd h
among_all false x t [] h = absurd h
among_all true x t (v ∷ vs) h = go (has_components v.ty) refl h (among_all true x t vs)
  where
    go : (c : Bool) → has_components v.ty ≡ c → Among x t (if c then v ∷ components_among true vs else components_among true vs) → (Among x t (components_among true vs) → Among x t vs × (has_components t ≡ true)) → (((v.name ≡ x) × (v.ty ≡ t)) ⊎ Among x t vs) × (has_components t ≡ true)
    go true e (inl f) rest = (inl f, ap has_components (sym f.1) ∙ e)
    go true e (inr f) rest = let g = rest f in (inr g.0, g.1)
    go false e f rest = let g = rest f in (inr g.0, g.1)
among_all false x t (v ∷ vs) h = go (has_components v.ty) refl h (among_all false x t vs)
  where
    go : (c : Bool) → has_components v.ty ≡ c → Among x t (if c then components_among false vs else v ∷ components_among false vs) → (Among x t (components_among false vs) → Among x t vs × (has_components t ≡ false)) → (((v.name ≡ x) × (v.ty ≡ t)) ⊎ Among x t vs) × (has_components t ≡ false)
    go true e f rest = let g = rest f in (inr g.0, g.1)
    go false e (inl f) rest = (inl f, ap has_components (sym f.1) ∙ e)
    go false e (inr f) rest = let g = rest f in (inr g.0, g.1)

pub among_some : (b : Bool) (x : Name) (t : Ty) (vs : List Variable) → has_components t ≡ b → Among x t vs → Among x t (components_among b vs)
among_some true x t [] w h = absurd h
among_some false x t [] w h = absurd h
among_some true x t (v ∷ vs) w h = go (has_components v.ty) refl h (among_some true x t vs w)
  where
    go : (c : Bool) → has_components v.ty ≡ c → ((v.name ≡ x) × (v.ty ≡ t)) ⊎ Among x t vs → (Among x t vs → Among x t (components_among true vs)) → Among x t (if c then v ∷ components_among true vs else components_among true vs)
    go true e (inl f) rest = inl f
    go true e (inr f) rest = inr (rest f)
    go false e (inl f) rest = absurd (let bad : true ≡ false = sym w ∙ ap has_components (sym f.1) ∙ e in cc)
    go false e (inr f) rest = rest f
among_some false x t (v ∷ vs) w h = go (has_components v.ty) refl h (among_some false x t vs w)
  where
    go : (c : Bool) → has_components v.ty ≡ c → ((v.name ≡ x) × (v.ty ≡ t)) ⊎ Among x t vs → (Among x t vs → Among x t (components_among false vs)) → Among x t (if c then components_among false vs else v ∷ components_among false vs)
    go true e (inl f) rest = absurd (let bad : true ≡ false = sym e ∙ ap has_components f.1 ∙ w in cc)
    go true e (inr f) rest = rest f
    go false e (inl f) rest = inl f
    go false e (inr f) rest = inr (rest f)

-- ---- scopes

-- each visible variable is one of these
abbrev pub IsOf : (ls ps : List Variable) → Name × Meaning → Type 0
IsOf ls ps (x, local_variable t) = Among x t ls
IsOf ls ps (x, permanent_variable t) = Among x t ps
IsOf ls ps d = Unit {0}

abbrev pub AreOf : (ls ps : List Variable) → Scope → Type 0
AreOf ls ps s = Each (IsOf ls ps) s

pub of_more : (ls ps ms qs : List Variable) (s : Scope) → AreOf ls ps s → AreOf (ls ++ ms) (ps ++ qs) s
of_more ls ps ms qs [] h = tt
of_more ls ps ms qs ((x, local_variable t) ∷ s) h = (among_left x t ls ms h.0, of_more ls ps ms qs s h.1)
of_more ls ps ms qs ((x, permanent_variable t) ∷ s) h = (among_left x t ps qs h.0, of_more ls ps ms qs s h.1)
of_more ls ps ms qs ((x, constant_meaning b z) ∷ s) h = (tt, of_more ls ps ms qs s h.1)
of_more ls ps ms qs ((x, type_meaning t) ∷ s) h = (tt, of_more ls ps ms qs s h.1)
of_more ls ps ms qs ((x, routine_meaning r) ∷ s) h = (tt, of_more ls ps ms qs s h.1)
of_more ls ps ms qs ((x, standard_meaning q) ∷ s) h = (tt, of_more ls ps ms qs s h.1)

pub of_local : (x : Name) (t : Ty) (ls ps : List Variable) (s : Scope) → AreOf ls ps s → find x s ≡ Some (local_variable t) → Among x t ls
of_local x t ls ps [] h e = absurd (none-some _ e)
of_local x t ls ps (d ∷ s) h e = go (same_name x d.0) refl e (of_local x t ls ps s h.1)
  where
    go : (b : Bool) → same_name x d.0 ≡ b → (if b then Some d.1 else find x s) ≡ Some (local_variable t) → (find x s ≡ Some (local_variable t) → Among x t ls) → Among x t ls
    go true w f rest = subst (λ y. Among y t ls) (sym (same_is x d.0 w)) (subst (λ m. IsOf ls ps (d.0, m)) (same_Some d.1 (local_variable t) f) h.0)
    go false w f rest = rest f

pub of_permanent : (x : Name) (t : Ty) (ls ps : List Variable) (s : Scope) → AreOf ls ps s → find x s ≡ Some (permanent_variable t) → Among x t ps
of_permanent x t ls ps [] h e = absurd (none-some _ e)
of_permanent x t ls ps (d ∷ s) h e = go (same_name x d.0) refl e (of_permanent x t ls ps s h.1)
  where
    go : (b : Bool) → same_name x d.0 ≡ b → (if b then Some d.1 else find x s) ≡ Some (permanent_variable t) → (find x s ≡ Some (permanent_variable t) → Among x t ps) → Among x t ps
    go true w f rest = subst (λ y. Among y t ps) (sym (same_is x d.0 w)) (subst (λ m. IsOf ls ps (d.0, m)) (same_Some d.1 (permanent_variable t) f) h.0)
    go false w f rest = rest f

-- a system type sees no variables of the program
pub inside_of : (ps : List Variable) (s : Scope) → AreOf [] ps s → AreOf [] [] (seen_inside s)
inside_of ps [] h = tt
inside_of ps ((x, local_variable t) ∷ s) h = absurd h.0
inside_of ps ((x, permanent_variable t) ∷ s) h = inside_of ps s h.1
inside_of ps ((x, constant_meaning b z) ∷ s) h = (tt, inside_of ps s h.1)
inside_of ps ((x, type_meaning t) ∷ s) h = (tt, inside_of ps s h.1)
inside_of ps ((x, routine_meaning r) ∷ s) h = (tt, inside_of ps s h.1)
inside_of ps ((x, standard_meaning q) ∷ s) h = (tt, inside_of ps s h.1)

-- ---- types and constants

module _ (ls ps : List Variable) where
  of_counted : (b : Base) (n : ℕ) (xs : List Name) (s : Scope) → AreOf ls ps s → AreOf ls ps (with_constants b n xs s)
  of_counted b n [] s h = h
  of_counted b n (x ∷ xs) s h = of_counted b (suc n) xs (_ ∷ s) (tt, h)

  of_simple : (s : Scope) (t : syntax.Simple) → AreOf ls ps s → AreOf ls ps (simple_in s t).1
  of_simple s (syntax.enumeration at is) h = of_counted (enumerated at (names_of is)) 0 (names_of is) s h
  of_simple s _ h = h

  mutual
    pub of_type : (s : Scope) (t : syntax.TypeTerm) → AreOf ls ps s → AreOf ls ps (type_in s t).1
    of_type s (syntax.simple at t) h = of_simple s t h
    of_type s (syntax.array_of at t u) h = of_type (simple_in s t).1 u (of_simple s t h)
    of_type s (syntax.set_type at t) h = of_simple s t h
    of_type s (syntax.record_of at gs b) h = of_fields s gs h

    of_fields : (s : Scope) (gs : syntax.FieldGroups) → AreOf ls ps s → AreOf ls ps (fields_in s gs).1
    of_fields s syntax.no_fields h = h
    of_fields s (syntax.more_fields (syntax.fields is t) gs) h = of_fields (type_in s t).1 gs (of_type s t h)

  pub of_constants : (s : Scope) (ds : List syntax.ConstantDefinition) → AreOf ls ps s → AreOf ls ps (constants_in s ds)
  of_constants s [] h = h
  of_constants s (d ∷ ds) h = of_constants (_ ∷ s) ds (tt, h)

  pub of_types : (s : Scope) (ds : List syntax.TypeDefinition) → AreOf ls ps s → AreOf ls ps (types_in s ds)
  of_types s [] h = h
  of_types s (d ∷ ds) h = of_types (_ ∷ (type_in s d.value).1) ds (tt, of_type s d.value h)

-- ---- names of one declaration

-- By what holds of the variables so far, and by what a variable of a type means here.
module _ (m : Ty → Meaning) (P : List Variable → Scope → Type 0) (constants_may : (vs : List Variable) (s : Scope) (ds : List syntax.ConstantDefinition) → P vs s → P vs (constants_in s ds)) (types_may : (vs : List Variable) (s : Scope) (ds : List syntax.TypeDefinition) → P vs s → P vs (types_in s ds))
    (type_may : (vs : List Variable) (s : Scope) (t : syntax.TypeTerm) → P vs s → P vs (type_in s t).1) (one_may : (vs : List Variable) (s : Scope) (x : Name) (t : Ty) → P vs s → P (vs ++ one_variable x t ∷ []) ((x, m t) ∷ s)) where
  names_hold : (vs : List Variable) (s : Scope) (xs : List Name) (t : Ty) → P vs s → P (vs ++ named_variables xs t) (with_names xs (m t) s)
  names_hold vs s [] t h = subst (λ us. P us s) (sym (append-nil vs)) h
  names_hold vs s (x ∷ xs) t h =
      subst (λ us. P us (with_names xs (m t) ((x, m t) ∷ s))) (append_assoc vs (one_variable x t ∷ []) (named_variables xs t)) (names_hold (vs ++ one_variable x t ∷ []) ((x, m t) ∷ s) xs t (one_may vs s x t h))

  pub variables_hold : (b : Block) (gs : List syntax.VariableGroup) → P b.variables b.scope → P (variables_in m b gs).variables (variables_in m b gs).scope
  variables_hold b [] h = h
  variables_hold b (g ∷ gs) h =
      let y : Ty × Scope = type_in b.scope g.variable_type in
      variables_hold (record { variables = b.variables ++ named_variables (names_of g.names) y.0; scope = with_names (names_of g.names) (m y.0) y.1 }) gs (names_hold b.variables y.1 (names_of g.names) y.0 (type_may b.variables b.scope g.variable_type h))

  part_holds : (b : Block) (p : syntax.Part) → P b.variables b.scope → P (part_in m b p).variables (part_in m b p).scope
  part_holds b (syntax.constants at ds) h = constants_may b.variables b.scope ds h
  part_holds b (syntax.types at ds) h = types_may b.variables b.scope ds h
  part_holds b (syntax.variables at gs) h = variables_hold b gs h

  pub parts_hold : (b : Block) (qs : List syntax.Part) → P b.variables b.scope → P (parts_in m b qs).variables (parts_in m b qs).scope
  parts_hold b [] h = h
  parts_hold b (q ∷ qs) h = parts_hold (part_in m b q) qs (part_holds b q h)

  group_holds : (c : Bool) (h : Heading) (g : syntax.Group) → P (parameter_variables h.parameters) h.scope → P (parameter_variables (with_group m c h g).parameters) (with_group m c h g).scope
  group_holds c h g i =
      let t : Ty = type_named h.scope g.type_name.name in
      let xs : List Name = names_of g.names in
      subst (λ us. P us (with_names xs (m t) h.scope)) (sym (variables_append h.parameters (parameters_named xs t c) ∙ ap (λ us. parameter_variables h.parameters ++ us) (named_parameters xs t c))) (names_hold (parameter_variables h.parameters) h.scope xs t i)

  pub groups_hold : (h : Heading) (gs : List syntax.Group) → P (parameter_variables h.parameters) h.scope → P (parameter_variables (with_groups m h gs).parameters) (with_groups m h gs).scope
  groups_hold h [] i = i
  groups_hold h (g ∷ gs) i = groups_hold (with_group m false h g) gs (group_holds false h g i)

module _ (P : List Variable → Scope → Type 0) (one_may : (vs : List Variable) (s : Scope) (x : Name) (t : Ty) → P vs s → P (vs ++ one_variable x t ∷ []) ((x, local_variable t) ∷ s)) where
  local_names_hold : (vs : List Variable) (s : Scope) (xs : List Name) (t : Ty) → P vs s → P (vs ++ named_variables xs t) (with_names xs (local_variable t) s)
  local_names_hold vs s [] t h = subst (λ us. P us s) (sym (append-nil vs)) h
  local_names_hold vs s (x ∷ xs) t h =
      subst (λ us. P us (with_names xs (local_variable t) ((x, local_variable t) ∷ s))) (append_assoc vs (one_variable x t ∷ []) (named_variables xs t)) (local_names_hold (vs ++ one_variable x t ∷ []) ((x, local_variable t) ∷ s) xs t (one_may vs s x t h))

  pub parameters_hold : (h : Heading) (gs : List syntax.ParameterGroup) → P (parameter_variables h.parameters) h.scope → P (parameter_variables (with_parameter_groups h gs).parameters) (with_parameter_groups h gs).scope
  parameters_hold h [] i = i
  parameters_hold h (g ∷ gs) i =
      let t : Ty = type_named h.scope g.group.type_name.name in
      let xs : List Name = names_of g.group.names in
      parameters_hold (with_group local_variable g.is_var h g.group) gs
      (subst (λ us. P us (with_names xs (local_variable t) h.scope)) (sym (variables_append h.parameters (parameters_named xs t g.is_var) ∙ ap (λ us. parameter_variables h.parameters ++ us) (named_parameters xs t g.is_var))) (local_names_hold (parameter_variables h.parameters) h.scope xs t i))

-- ---- local variables of a routine

module _ (pre ps : List Variable) where
  abbrev Locals : List Variable → Scope → Type 0
  Locals vs s = AreOf (pre ++ vs) ps s

  one_local : (vs : List Variable) (s : Scope) (x : Name) (t : Ty) → Locals vs s → Locals (vs ++ one_variable x t ∷ []) ((x, local_variable t) ∷ s)
  one_local vs s x t h = (
    among_right x t pre (vs ++ one_variable x t ∷ []) (among_right x t vs (one_variable x t ∷ []) (inl (refl, refl))),
    subst (λ us. AreOf us ps s) (append_assoc pre vs (one_variable x t ∷ [])) (subst (λ us. AreOf ((pre ++ vs) ++ one_variable x t ∷ []) us s) (append-nil ps) (of_more (pre ++ vs) ps (one_variable x t ∷ []) [] s h)),
  )

  pub local_parts_of : (b : Block) (qs : List syntax.Part) → Locals b.variables b.scope → Locals (parts_in local_variable b qs).variables (parts_in local_variable b qs).scope
  local_parts_of = parts_hold local_variable Locals (λ vs s ds h. of_constants (pre ++ vs) ps s ds h) (λ vs s ds h. of_types (pre ++ vs) ps s ds h) (λ vs s t h. of_type (pre ++ vs) ps s t h) one_local

  pub local_groups_of : (j : Heading) (gs : List syntax.Group) → Locals (parameter_variables j.parameters) j.scope → Locals (parameter_variables (with_groups local_variable j gs).parameters) (with_groups local_variable j gs).scope
  local_groups_of = groups_hold local_variable Locals (λ vs s ds h. of_constants (pre ++ vs) ps s ds h) (λ vs s ds h. of_types (pre ++ vs) ps s ds h) (λ vs s t h. of_type (pre ++ vs) ps s t h) one_local

  pub local_parameters_of : (j : Heading) (gs : List syntax.ParameterGroup) → Locals (parameter_variables j.parameters) j.scope → Locals (parameter_variables (with_parameter_groups j gs).parameters) (with_parameter_groups j gs).scope
  local_parameters_of = parameters_hold Locals one_local

-- ---- permanent variables of a system type

module _ (pre : List Variable) where
  abbrev Permanents : List Variable → Scope → Type 0
  Permanents vs s = AreOf [] (pre ++ vs) s

  one_permanent : (vs : List Variable) (s : Scope) (x : Name) (t : Ty) → Permanents vs s → Permanents (vs ++ one_variable x t ∷ []) ((x, permanent_variable t) ∷ s)
  one_permanent vs s x t h = (
    among_right x t pre (vs ++ one_variable x t ∷ []) (among_right x t vs (one_variable x t ∷ []) (inl (refl, refl))),
    subst (λ us. AreOf [] us s) (append_assoc pre vs (one_variable x t ∷ [])) (of_more [] (pre ++ vs) [] (one_variable x t ∷ []) s h),
  )

  pub permanent_parts_of : (b : Block) (qs : List syntax.Part) → Permanents b.variables b.scope → Permanents (parts_in permanent_variable b qs).variables (parts_in permanent_variable b qs).scope
  permanent_parts_of = parts_hold permanent_variable Permanents (λ vs s ds h. of_constants [] (pre ++ vs) s ds h) (λ vs s ds h. of_types [] (pre ++ vs) s ds h) (λ vs s t h. of_type [] (pre ++ vs) s t h) one_permanent

  pub permanent_variables_of : (b : Block) (gs : List syntax.VariableGroup) → Permanents b.variables b.scope → Permanents (variables_in permanent_variable b gs).variables (variables_in permanent_variable b gs).scope
  permanent_variables_of = variables_hold permanent_variable Permanents (λ vs s ds h. of_constants [] (pre ++ vs) s ds h) (λ vs s ds h. of_types [] (pre ++ vs) s ds h) (λ vs s t h. of_type [] (pre ++ vs) s t h) one_permanent

  pub permanent_groups_of : (j : Heading) (gs : List syntax.Group) → Permanents (parameter_variables j.parameters) j.scope → Permanents (parameter_variables (with_groups permanent_variable j gs).parameters) (with_groups permanent_variable j gs).scope
  permanent_groups_of = groups_hold permanent_variable Permanents (λ vs s ds h. of_constants [] (pre ++ vs) s ds h) (λ vs s ds h. of_types [] (pre ++ vs) s ds h) (λ vs s t h. of_type [] (pre ++ vs) s t h) one_permanent
