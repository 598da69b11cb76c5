-- What a name stands for, and a field or an element of it, are those of its form.
use Rattle.std.proofs.Common.{◌≡◌, ◌+◌, ◌≤◌, ℕ, true, false, Option, Some, None, refl, sym, ap, subst, ◌∙◌, arith, inl, inr}
use Rattle.cp_resolved.proofs.Words.{◌⊎◌, CellType, LayoutMeaning, place_at, Layer, Name, Ty, has_components, system_of, cells_of, Here, system_here, frame_here}
use Rattle.cp_resolved.proofs.Words.{is_parameter, PlaceIs, DesignatedIs, Knows, meaning_of, name_meaning, component_found, component_of_array, element_of_designated, field_of_designated}
use Rattle.cp_slots.specs.declared.place.PlaceOrigin.TheVariants as origin
use Rattle.cp_symbols.specs.declared.kinds.CellType.TheVariants as types
use Rattle.cp_symbols.specs.declared.names.LayoutMeaning.TheVariants as meaning
use Rattle.cp_layout.specs.Kinds as kinds
use Rattle.cp_symbols.specs.Kinds.{most}
use Rattle.cp_layout.specs.Kinds.{as_array, array_of}
use Rattle.cp_slots.specs.Code as code
use Rattle.cp_layout.specs.Values as values
use Rattle.cp_layout.specs.Layers as layers
use Rattle.cp_meaning.specs.Types as named
use Rattle.cp_meaning.specs.Scopes as scopes
use Rattle.cp_resolved.specs.InStep.{Numbering, range_on, TypeIs, VariableIs, CellsAre, PartsAre, BoundIs, FoundIs}
use Rattle.cp_resolved.specs.Compiled.{Designated, a_variable, some_components, a_component, component_begun, permanent_begun, begun_form, with_field_form, with_element_form}
use Rattle.cp_resolved.proofs.names.Alike.{same_inside}
use Rattle.cp_resolved.proofs.names.Steps.{found_in}
use Rattle.cp_resolved.proofs.forms.Selecting.{field_selected_same, element_selected_same}

-- a name that is no routine's
abbrev pub IsNoRoutine : Option scopes.Meaning → Type 0
IsNoRoutine (Some (scopes.routine_meaning r)) = ⊥
IsNoRoutine o = Unit {0}

at_zero : (n m : ℕ) → n ≤ m → 0 + n ≤ m
at_zero n m h = omega (arith, h)

module _ (k : Numbering) (h : Here) (l : Layer) (g : Knows k h l) where
  -- ---- names

  local_begun : (x : Name) (m : LayoutMeaning) (t : Ty) → layers.find x l.names ≡ Some m → scopes.find x h.scope ≡ Some (scopes.local_variable t) → VariableIs k l.types t m →
      PlaceIs k l.types (code.place ((frame_here h).origins x) 0 code.no_indices) t (name_meaning l x)
  local_begun x m t i j v =
      let there : layers.find x l.names ≡ Some (meaning.Variable v.origin v.value_type) = i ∙ ap (λ n. Some n) v.is in
      let lies : (frame_here h).origins x ≡ v.origin = g.frame x v.origin v.value_type there v.in_frame in
      record {
        value_type = v.value_type;
        is = ap meaning_of there ∙ ap (λ o. values.a_variable (place_at o) v.value_type) (sym lies);
        belongs = v.belongs;
        ends = at_zero (cells_of t) most (g.local x t j).0;
        full = (g.local x t j).1;
      }

  pub without_components : (x : Name) (t : Ty) → has_components t ≡ false → permanent_begun h x t ≡ a_variable (code.place (origin.Permanent ((system_here h).slots x)) 0 code.no_indices) t
  without_components x (named.array_over r (named.component_of n)) e = absurd (cc)
  without_components x (named.component_of n) e = absurd (cc)
  without_components x _ e = refl

  parts_begun_same : (x : Name) (m : LayoutMeaning) (t : Ty) → layers.find x l.names ≡ Some m → PartsAre k l.types t m → DesignatedIs k l.types (permanent_begun h x t) (name_meaning l x)
  parts_begun_same x m (named.component_of n) i v =
      let there : layers.find x l.names ≡ Some (meaning.Contained v.first v.value_type) = i ∙ ap (λ n. Some n) v.is in
      let f : ((system_here h).firsts x ≡ v.first) × (is_parameter x (system_of h.program h.system).parameters ≡ false) = g.first x v.first v.value_type there in
      let b : name_meaning l x ≡ values.a_component (code.contained ((system_here h).firsts x)) n =
      ap meaning_of there ∙ ap (λ w. meaning_of (Some (meaning.Contained v.first w))) v.belongs ∙ ap (λ q. values.a_component (code.contained q) n) (sym f.0) in
      subst (λ p. DesignatedIs k l.types (component_begun h x n p) (name_meaning l x)) (sym f.1) b
  parts_begun_same x m (named.array_over r (named.component_of n)) i v =
      let there : layers.find x l.names ≡ Some (meaning.Contained v.first v.value_type) = i ∙ ap (λ n. Some n) v.is in
      let f : ((system_here h).firsts x ≡ v.first) × (is_parameter x (system_of h.program h.system).parameters ≡ false) = g.first x v.first v.value_type there in
      record {
        value_type = types.Array v.belongs.number;
        is = ap meaning_of there ∙ ap (λ w. meaning_of (Some (meaning.Contained v.first w))) v.belongs.is ∙ ap (λ q. values.a_contained q (types.Array v.belongs.number)) (sym f.0);
        belongs = subst (TypeIs k l.types (named.array_over r (named.component_of n))) v.belongs.is v.belongs;
      }
  parts_begun_same x m y i v = absurd (let w : false ≡ true = v.has in cc)

  permanent_begun_same : (x : Name) (m : LayoutMeaning) (t : Ty) → layers.find x l.names ≡ Some m → scopes.find x h.scope ≡ Some (scopes.permanent_variable t) → CellsAre k l.types t m ⊎ (PartsAre k l.types t m ⊎ BoundIs t m) → DesignatedIs k l.types (permanent_begun h x t) (name_meaning l x)
  permanent_begun_same x m t i j (inl v) =
      let there : layers.find x l.names ≡ Some (meaning.Variable (origin.Permanent v.slot) v.value_type) = i ∙ ap (λ n. Some n) v.is in
      let lies : (system_here h).slots x ≡ v.slot = g.slot x v.slot v.value_type there in
      let p : PlaceIs k l.types (code.place (origin.Permanent ((system_here h).slots x)) 0 code.no_indices) t (name_meaning l x) = record {
        value_type = v.value_type;
        is = ap meaning_of there ∙ ap (λ n. values.a_variable (place_at (origin.Permanent n)) v.value_type) (sym lies);
        belongs = v.belongs;
        ends = at_zero (cells_of t) most (g.permanent x t j).0;
        full = (g.permanent x t j).1;
      } in
      subst (λ d. DesignatedIs k l.types d (name_meaning l x)) (sym (without_components x t v.without)) p
  permanent_begun_same x m t i j (inr (inl v)) = parts_begun_same x m t i v
  permanent_begun_same x m t i j (inr (inr v)) =
      let there : layers.find x l.names ≡ Some (meaning.Bound v.slot v.system) = i ∙ ap (λ n. Some n) v.is in
      let f : ((system_here h).slots x ≡ v.slot) × (is_parameter x (system_of h.program h.system).parameters ≡ true) = g.bound x v.slot v.system there in
      let b : name_meaning l x ≡ values.a_component (code.parameter ((system_here h).slots x)) v.system = ap meaning_of there ∙ ap (λ q. values.a_component (code.parameter q) v.system) (sym f.0) in
      let c : DesignatedIs k l.types (permanent_begun h x (named.component_of v.system)) (name_meaning l x) = subst (λ p. DesignatedIs k l.types (component_begun h x v.system p) (name_meaning l x)) (sym f.1) b in
      subst (λ u. DesignatedIs k l.types (permanent_begun h x u) (name_meaning l x)) (sym v.component) c

  found_begun : (x : Name) (p : Option LayoutMeaning) (q : Option scopes.Meaning) (s : scopes.Scope) (d : Designated) → layers.find x l.names ≡ p → scopes.find x h.scope ≡ q → FoundIs k l.types p q s → IsNoRoutine q → begun_form h x q ≡ Some d → DesignatedIs k l.types d (name_meaning l x)
  found_begun x (Some m) (Some (scopes.local_variable t)) s d i j f r e = subst (λ y. DesignatedIs k l.types y (name_meaning l x)) (same_inside _ d e) (local_begun x m t i j f)
  found_begun x (Some m) (Some (scopes.permanent_variable t)) s d i j f r e = subst (λ y. DesignatedIs k l.types y (name_meaning l x)) (same_inside _ d e) (permanent_begun_same x m t i j f)
  found_begun x (Some m) (Some (scopes.routine_meaning q)) s d i j f r e = absurd r
  found_begun x (Some m) None s d i j f r e = absurd f
  found_begun x None (Some n) s d i j f r e = absurd f
  found_begun x y z s d i j f r e = absurd (cc)

  pub begun_same : (x : Name) (d : Designated) → IsNoRoutine (scopes.find x h.scope) → begun_form h x (scopes.find x h.scope) ≡ Some d → DesignatedIs k l.types d (name_meaning l x)
  begun_same x d r e = found_begun x (layers.find x l.names) (scopes.find x h.scope) (scopes.since x h.scope) d refl refl (found_in k l.types x l.names h.scope g.names) r e

  -- ---- selectors

  component_same : (first : ℕ) (r : named.Range) (n : ℕ) (w : CellType) (c : code.OrdinalExpression) → TypeIs k l.types (named.array_over r (named.component_of n)) w → component_found l first (array_of l.types w) c ≡ values.a_component (code.element first r.low r.high (h.layouts.systems n).count c) n
  component_same first r n w c v =
      let there : array_of l.types w ≡ Some (kinds.array_type l.types (range_on k r) v.element) = ap (array_of l.types) v.is ∙ ap as_array v.there in
      ap (λ a. component_found l first a c) there
      ∙ ap (λ u. component_of_array l first (kinds.array_type l.types (range_on k r) v.element) u c) v.belongs
      ∙ ap (λ q. values.a_component (code.element first r.low r.high q c) n) (g.count v.number n (kinds.array_type l.types (range_on k r) v.element) v.there v.belongs)

  pub element_same : (d q : Designated) (x : values.Designated) (c : code.OrdinalExpression) → DesignatedIs k l.types d x → with_element_form h d c ≡ Some q → DesignatedIs k l.types q (element_of_designated l x c)
  element_same (a_variable p t) q x c v e = subst (λ y. DesignatedIs k l.types q (element_of_designated l y c)) (sym v.is) (element_selected_same k l.types p t v.value_type c q v.belongs v.ends v.full e)
  element_same (some_components first r n) q x c v e =
      subst (λ y. DesignatedIs k l.types y (element_of_designated l x c)) (same_inside (a_component (code.element first r.low r.high (h.layouts.systems n).count c) n) q e)
      (ap (λ y. element_of_designated l y c) v.is ∙ component_same first r n v.value_type c v.belongs)
  element_same (a_component c' n) q x c v e = absurd (cc)

  -- a field of a record
  pub field_same : (p : code.Place) (t : Ty) (q : Designated) (x : values.Designated) (y : Name) → DesignatedIs k l.types (a_variable p t) x → with_field_form (a_variable p t) y ≡ Some q → DesignatedIs k l.types q (field_of_designated l x y)
  field_same p t q x y v e = subst (λ z. DesignatedIs k l.types q (field_of_designated l z y)) (sym v.is) (field_selected_same k l.types p t v.value_type y q v.belongs v.ends v.full e)
