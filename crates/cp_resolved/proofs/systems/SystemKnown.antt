-- Each system type of a tree stands for its declaration: its initial statement, its cells and its parameters.
use Rattle.std.proofs.Common.{◌≡◌, ◌+◌, ◌<◌, ◌≤◌, ◌⊎◌, inl, inr, ℕ, Bool, true, false, if◌then◌else◌, List, [], ◌∷◌, ◌++◌, Option, Some, None, refl, sym, ap, subst, ◌∙◌, arith, append_assoc}
use Rattle.cp_resolved.proofs.Words.{min, none-some, same_Some, CellType, LayoutMeaning, most, Layer, Name, same_name, Ty, has_components, permanent_variable, find}
use Rattle.cp_resolved.proofs.Words.{Variable, content_of, value_held, least_of, parameter_variables, SystemMeaning, HasType, AreDifferent, AreDeclared, system_variables}
use Rattle.cp_resolved.proofs.Words.{Numbering, InStep, FoundIs, cells_of, look, Each, is_standing, IsStandingVariable, slot_in, components_among}
use Rattle.cp_slots.specs.declared.place.PlaceOrigin.TheVariants as origin
use Rattle.cp_symbols.specs.declared.names.LayoutMeaning.TheVariants as meaning
use Rattle.cp_layout.specs.Layers as layers
use Rattle.cp_meaning.specs.Values.{least}
use Rattle.cp_meaning.specs.Scopes as scopes
use Rattle.cp_meaning.specs.State.{Content, holds, Environment}
use Rattle.cp_resolved.specs.Resolved.{AreApart, first_permanent}
use Rattle.cp_resolved.proofs.frames.FrameCells.{look_right, look_either, look_each, none_left, none_right, same_is, before_inside, before_apart}
use Rattle.cp_resolved.proofs.frames.LeastCells.{standing_typed}
use Rattle.cp_resolved.proofs.systems.PermanentCells.{width, width_plain, taken, taken_before, Holds, Owns, Follow, Firsts}
use Rattle.cp_resolved.proofs.agreeing.ScopeVariables.{Among, among_left, among_right, look_among, never_missing, among_look, components_append, among_all, among_some}
use Rattle.cp_resolved.proofs.names.Steps.{found_in}
use Rattle.cp_meaning.proofs.Held.{nothing_append as content_right}

-- ---- what a variable has at first

pub content_left : (x : Name) (c : Content) (es fs : Environment) → content_of x es ≡ Some c → content_of x (es ++ fs) ≡ Some c
content_left x c [] fs h = absurd (none-some c h)
content_left x c (e ∷ es) fs h = go (same_name x e.0) h (content_left x c es fs)
  where
    go : (b : Bool) → (if b then Some e.1 else content_of x es) ≡ Some c → (content_of x es ≡ Some c → content_of x (es ++ fs) ≡ Some c) → (if b then Some e.1 else content_of x (es ++ fs)) ≡ Some c
    go true f rest = f
    go false f rest = rest f

pub least_none : (x : Name) (vs : List Variable) → look x (components_among false vs) ≡ None → content_of x (least_of vs) ≡ None
least_none x [] h = refl
least_none x (v ∷ vs) h = go (has_components v.ty) h (least_none x vs)
  where
    go : (c : Bool) → look x (if c then components_among false vs else v ∷ components_among false vs) ≡ None → (look x (components_among false vs) ≡ None → content_of x (least_of vs) ≡ None) → content_of x (if c then least_of vs else (v.name, holds (least v.ty)) ∷ least_of vs) ≡ None
    go true e rest = rest e
    go false e rest = here (same_name x v.name) e
      where
        here : (b : Bool) → (if b then Some v.ty else look x (components_among false vs)) ≡ None → (if b then Some (holds (least v.ty)) else content_of x (least_of vs)) ≡ None
        here true f = absurd (none-some v.ty (sym f))
        here false f = rest f

pub least_some : (x : Name) (t : Ty) (vs : List Variable) → look x (components_among false vs) ≡ Some t → content_of x (least_of vs) ≡ Some (holds (least t))
least_some x t [] h = absurd (none-some t h)
least_some x t (v ∷ vs) h = go (has_components v.ty) h (least_some x t vs)
  where
    go : (c : Bool) → look x (if c then components_among false vs else v ∷ components_among false vs) ≡ Some t → (look x (components_among false vs) ≡ Some t → content_of x (least_of vs) ≡ Some (holds (least t))) → content_of x (if c then least_of vs else (v.name, holds (least v.ty)) ∷ least_of vs) ≡ Some (holds (least t))
    go true e rest = rest e
    go false e rest = here (same_name x v.name) e
      where
        here : (b : Bool) → (if b then Some v.ty else look x (components_among false vs)) ≡ Some t → (if b then Some (holds (least v.ty)) else content_of x (least_of vs)) ≡ Some (holds (least t))
        here true f = ap (λ u. Some (holds (least u))) (same_Some v.ty t f)
        here false f = rest f

permanent_first : (m : SystemMeaning) (x : Name) (t : Ty) → look x (components_among false (system_variables m)) ≡ Some t → first_permanent m x ≡ least t
permanent_first m x t h = go (look_either x t (components_among false qs) (components_among false m.variables) (sym (ap (look x) (components_append false qs m.variables)) ∙ h))
  where
    qs : List Variable
    qs = parameter_variables m.parameters

    go : (look x (components_among false qs) ≡ Some t) ⊎ ((look x (components_among false qs) ≡ None) × (look x (components_among false m.variables) ≡ Some t)) → first_permanent m x ≡ least t
    go (inl e) = ap value_held (content_left x (holds (least t)) (least_of qs) (least_of m.variables) (least_some x t qs e))
    go (inr e) = ap value_held (content_right x (least_of qs) (least_of m.variables) (least_none x qs e.0) ∙ least_some x t m.variables e.1)

-- ---- lists of which no two have one name

-- one of some of them is found among these
pub found_among : (x : Name) (t : Ty) (some all : List Variable) → AreDifferent all → ((u : Ty) → Among x u some → Among x u all) → Among x t some → look x some ≡ Some t
found_among x t some all d f h = go (look x some) refl
  where
    go : (o : Option Ty) → look x some ≡ o → look x some ≡ Some t
    go None e = absurd (never_missing x t some h e)
    go (Some u) e =
        let a : look x all ≡ Some u = among_look x u all d (f u (look_among x u some e)) in
        let b : look x all ≡ Some t = among_look x t all d (f t h) in
        e ∙ sym a ∙ b

pub among_either : (x : Name) (t : Ty) (vs ws : List Variable) → Among x t (vs ++ ws) → Among x t vs ⊎ Among x t ws
among_either x t [] ws h = inr h
among_either x t (v ∷ vs) ws (inl h) = inl (inl h)
among_either x t (v ∷ vs) ws (inr h) = go (among_either x t vs ws h)
  where
    go : Among x t vs ⊎ Among x t ws → (((v.name ≡ x) × (v.ty ≡ t)) ⊎ Among x t vs) ⊎ Among x t ws
    go (inl i) = inl (inr i)
    go (inr i) = inr i

-- each later one is new
pub later_new : (us vs : List Variable) (w : Variable) → AreDifferent (us ++ w ∷ vs) → look w.name us ≡ None
later_new [] vs w d = refl
later_new (u ∷ us) vs w d = go (same_name w.name u.name) refl (later_new us vs w d.1)
  where
    go : (b : Bool) → same_name w.name u.name ≡ b → look w.name us ≡ None → (if b then Some u.ty else look w.name us) ≡ None
    go true e rest =
        let same : w.name ≡ u.name = same_is w.name u.name e in
        absurd (never_missing u.name w.ty (us ++ w ∷ vs) (among_right u.name w.ty us (w ∷ vs) (inl (same, refl))) d.0)
    go false e rest = rest

abbrev IsSmallVariable : Variable → Type 0
IsSmallVariable v = cells_of v.ty ≤ most

module _ (k : Numbering) where
  firsts : (ws vs us : List Variable) → AreDifferent (ws ++ (vs ++ us)) → Each IsSmallVariable vs → Firsts k ws vs
  firsts ws [] us d h = tt
  firsts ws (v ∷ vs) us d h = (record { other = later_new ws (vs ++ us) v d; few = h.0 }, firsts (ws ++ v ∷ []) vs us (subst AreDifferent (sym (append_assoc ws (v ∷ []) (vs ++ us))) d) h.1)

  -- those that have cells, after all that stand before them
  follows : (ws all vs : List Variable) → ((x : Name) → look x all ≡ None → look x ws ≡ None) → AreDifferent (all ++ vs) → Each (λ v. has_components v.ty ≡ false → IsSmallVariable v) vs → Follow k ws vs
  follows ws all [] f d h = tt
  follows ws all (v ∷ vs) f d h = (
    λ w. record { other = f v.name (later_new all vs v d); few = h.0 w },
    follows (ws ++ components_among false (v ∷ [])) (all ++ v ∷ []) vs fewer (subst AreDifferent (sym (append_assoc all (v ∷ []) vs)) d) h.1,
  )
    where
      one : (x : Name) → look x (v ∷ []) ≡ None → look x (components_among false (v ∷ [])) ≡ None
      one x e = go (has_components v.ty)
        where
          go : (c : Bool) → look x (if c then [] else v ∷ []) ≡ None
          go true = refl
          go false = e

      fewer : (x : Name) → look x (all ++ v ∷ []) ≡ None → look x (ws ++ components_among false (v ∷ [])) ≡ None
      fewer x e = look_right x ws (components_among false (v ∷ [])) (f x (none_left x all (v ∷ []) e)) ∙ one x (none_right x all (v ∷ []) e)

  pub system_fits : (m : SystemMeaning) → AreDifferent (system_variables m) → Each IsSmallVariable (parameter_variables m.parameters) → Each (λ v. has_components v.ty ≡ false → IsSmallVariable v) m.variables → Firsts k [] (parameter_variables m.parameters) × Follow k (parameter_variables m.parameters) m.variables
  system_fits m d h i = (firsts [] (parameter_variables m.parameters) m.variables d h, follows (parameter_variables m.parameters) (parameter_variables m.parameters) m.variables (λ x e. e) d i)

  -- ---- cells and parameters

  -- what is wanted where the routines begin in the state z, and the initial statement in the state l
  module _ (m : SystemMeaning) (z l : Layer) (declared : AreDeclared permanent_variable m.scope (system_variables m)) (standing : Each IsStandingVariable (system_variables m)) (owns : Owns z (parameter_variables m.parameters ++ components_among false m.variables))
      (few : z.owned.cells < most) (named : InStep k l.types l.names m.scope) (under : (x : Name) (n : ℕ) (v : CellType) → layers.find x l.names ≡ Some (meaning.Variable (origin.Permanent n) v) → layers.find x z.names ≡ Some (meaning.Variable (origin.Permanent n) v)) where
    abbrev ws : List Variable
    ws = parameter_variables m.parameters ++ components_among false m.variables

    abbrev held : List Variable
    held = components_among false (system_variables m)

    all_held : (x : Name) (u : Ty) → Among x u ws → Among x u (system_variables m)
    all_held x u h = go (among_either x u (parameter_variables m.parameters) (components_among false m.variables) h)
      where
        go : Among x u (parameter_variables m.parameters) ⊎ Among x u (components_among false m.variables) → Among x u (system_variables m)
        go (inl i) = among_left x u (parameter_variables m.parameters) m.variables i
        go (inr i) = among_right x u (parameter_variables m.parameters) m.variables (among_all false x u m.variables i).0

    held_taken : (x : Name) (t : Ty) → look x held ≡ Some t → look x ws ≡ Some t
    held_taken x t e = found_among x t ws (system_variables m) declared.different (all_held x) (go (among_either x t (parameter_variables m.parameters) m.variables both.0))
      where
        both : Among x t (system_variables m) × (has_components t ≡ false)
        both = among_all false x t (system_variables m) (look_among x t held e)

        go : Among x t (parameter_variables m.parameters) ⊎ Among x t m.variables → Among x t ws
        go (inl i) = among_left x t (parameter_variables m.parameters) (components_among false m.variables) i
        go (inr i) = among_right x t (parameter_variables m.parameters) (components_among false m.variables) (among_some false x t m.variables both.1 i)

    held_plain : (x : Name) (t : Ty) → look x held ≡ Some t → has_components t ≡ false
    held_plain x t e = (among_all false x t (system_variables m) (look_among x t held e)).1

    held_look : (x : Name) (t : Ty) → look x held ≡ Some t → look x (system_variables m) ≡ Some t
    held_look x t e = among_look x t (system_variables m) declared.different (among_all false x t (system_variables m) (look_among x t held e)).0

    -- the first cell of a variable
    pub slot_is : (x : Name) (t : Ty) → look x held ≡ Some t → slot_in (layers.find x z.names) ≡ taken_before x ws
    slot_is x t e = go (layers.find x l.names) refl (subst (λ o. FoundIs k l.types (layers.find x l.names) o (scopes.since x m.scope)) seen (found_in k l.types x l.names m.scope named))
      where
        seen : find x m.scope ≡ Some (permanent_variable t)
        seen = look_each (λ v. find v.name m.scope ≡ Some (permanent_variable v.ty)) x t (system_variables m) declared.visible (held_look x t e)

        all : taken ws ≡ z.owned.cells
        all = let c : z.owned.cells ≡ min (taken ws) most = owns.cells in omega (arith, c, few)

        inside : taken_before x ws ≤ most
        inside = let i = before_inside width x t ws (held_taken x t e) in omega (arith, i, all, few)

        go : (o : Option LayoutMeaning) → layers.find x l.names ≡ o → FoundIs k l.types o (Some (permanent_variable t)) (scopes.since x m.scope) → slot_in (layers.find x z.names) ≡ taken_before x ws
        go None f g = absurd g
        go (Some n) f (inl c) =
            let there : layers.find x z.names ≡ Some (meaning.Variable (origin.Permanent c.slot) c.value_type) = under x c.slot c.value_type (f ∙ ap (λ y. Some y) c.is) in
            let h : Holds ws x (meaning.Variable (origin.Permanent c.slot) c.value_type) = owns.holding x (meaning.Variable (origin.Permanent c.slot) c.value_type) there in
            let s : c.slot ≡ min (taken_before x ws) most = h.2 in
            ap slot_in there ∙ omega (arith, s, inside)
        go (Some n) f (inr (inl c)) = absurd (let bad : true ≡ false = sym c.has ∙ held_plain x t e in cc)
        go (Some n) f (inr (inr c)) = absurd (let bad : true ≡ false = sym (ap has_components c.component) ∙ held_plain x t e in cc)

    pub cells_inside : (x : Name) (t : Ty) → look x held ≡ Some t → slot_in (layers.find x z.names) + cells_of t ≤ z.owned.cells
    cells_inside x t e =
        let s = slot_is x t e in
        let i = before_inside width x t ws (held_taken x t e) in
        let w = width_plain t (held_plain x t e) in
        let c : z.owned.cells ≡ min (taken ws) most = owns.cells in
        omega (arith, s, i, w, c, few)

    pub cells_apart : AreApart (λ x. slot_in (layers.find x z.names)) held
    cells_apart x y t u o e f = go (before_apart width x y t u ws o (held_taken x t e) (held_taken y u f))
      where
        go : (taken_before x ws + width t ≤ taken_before y ws) ⊎ (taken_before y ws + width u ≤ taken_before x ws) →
            (slot_in (layers.find x z.names) + cells_of t ≤ slot_in (layers.find y z.names)) ⊎ (slot_in (layers.find y z.names) + cells_of u ≤ slot_in (layers.find x z.names))
        go (inl a) = inl (let s = slot_is x t e in let r = slot_is y u f in let w = width_plain t (held_plain x t e) in omega (arith, s, r, w, a))
        go (inr a) = inr (let s = slot_is x t e in let r = slot_is y u f in let w = width_plain u (held_plain y u f) in omega (arith, s, r, w, a))

    pub first_typed : (x : Name) (t : Ty) → look x held ≡ Some t → HasType t (first_permanent m x)
    first_typed x t e =
        let s : is_standing t ≡ true = look_each IsStandingVariable x t (system_variables m) standing (held_look x t e) in
        subst (HasType t) (sym (permanent_first m x t e)) (standing_typed t s (held_plain x t e))
