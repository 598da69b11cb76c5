-- Fields and elements of what a name stands for, and its value, are those of its form.
use Rattle.std.proofs.Common.{◌≡◌, ◌+◌, ◌*◌, ◌≤◌, ℕ, zero, suc, Bool, true, false, if◌then◌else◌, List, Option, Some, None, refl, sym, ap, subst, ◌∙◌, arith}
use Rattle.cp_resolved.proofs.Words.{bytes_eq, PlaceOrigin, CellType, Ty, FieldTypes, length_of_range, cells_of, cells_in, Chosen, field_chosen, further_chosen, value_loaded_from}
use Rattle.cp_symbols.specs.declared.kinds.CellType.TheVariants as types
use Rattle.cp_symbols.specs.Kinds as symbol_kinds
use Rattle.cp_layout.specs.Kinds as kinds
use Rattle.cp_symbols.specs.Kinds.{Compounds, most, plus}
use Rattle.cp_layout.specs.Kinds.{as_field, field_of, as_array, array_of}
use Rattle.cp_slots.specs.Code as code
use Rattle.cp_layout.specs.Values as values
use Rattle.cp_layout.specs.LaidExpressions.{with_last, with_offset, field_found, element_found}
use Rattle.cp_meaning.specs.Types as named
use Rattle.cp_resolved.specs.InStep.{Numbering, range_on, TypeIs}
use Rattle.cp_resolved.specs.Compiled.{Designated, a_variable, loaded_form, with_index, then_form, part_of_form, field_of_form, element_of_form}
use Rattle.cp_resolved.specs.Valued.{ValueIs, IsFull, AreFull, Ends, PlaceIs, DesignatedIs}
use Rattle.cp_resolved.proofs.names.Alike.{same_inside}
use Rattle.cp_resolved.proofs.frames.Cells.{cells_same, Found, field_same, capped, one_more}

module _ (k : Numbering) (ts : Compounds) where
  -- the value of a variable
  pub loaded_same : (p : code.Place) (t : Ty) (w : CellType) → TypeIs k ts t w → ValueIs k ts (record { ty = t; form = loaded_form p t }) (value_loaded_from p w)
  loaded_same p (named.ordinal r) w h = (r, refl, ap (value_loaded_from p) h)
  loaded_same p named.queue_type w h = (types.Queue, ap (value_loaded_from p) h, refl)
  loaded_same p (named.set_over r) w h = ap (value_loaded_from p) h
  loaded_same p (named.array_over r t) w h = (types.Array h.number, ap (value_loaded_from p) h.is, subst (TypeIs k ts (named.array_over r t)) h.is h)
  loaded_same p (named.record_with us) w h = (types.Record h.number, ap (value_loaded_from p) h.is, subst (TypeIs k ts (named.record_with us)) h.is h)
  loaded_same p (named.component_of n) w h = (types.System n, ap (value_loaded_from p) h, refl)

  -- ---- fields

  further_full : (n : ℕ) (o : Option Chosen) (c : Chosen) → ((d : Chosen) → o ≡ Some d → IsFull d.1) → further_chosen n o ≡ Some c → IsFull c.1
  further_full n None c f h = absurd (cc)
  further_full n (Some d) c f h = subst (λ (q : Chosen). IsFull q.1) (same_inside (n + d.0, d.1) c h) (f d refl)

  field_full : (us : FieldTypes) (x : List ℕ) (c : Chosen) → AreFull us → field_chosen us x ≡ Some c → IsFull c.1
  field_full named.no_field_types x c h e = absurd (cc)
  field_full (named.more_field_types y t us) x c h e = go (bytes_eq x y) (λ d i. field_full us x d h.1 i) e
    where
      go : (b : Bool) → ((d : Chosen) → field_chosen us x ≡ Some d → IsFull d.1) → (if b then Some (0, t) else further_chosen (cells_of t) (field_chosen us x)) ≡ Some c → IsFull c.1
      go true ih g = subst (λ (q : Chosen). IsFull q.1) (same_inside (0, t) c g) h.0
      go false ih g = further_full (cells_of t) (field_chosen us x) c ih g

  offset_same : (o : PlaceOrigin) (n m : ℕ) (is : code.Indices) (j : ℕ) → m ≡ 0 + j → n + j ≤ most → with_offset (code.place o n is) m ≡ code.place o (n + j) is
  offset_same o n m is j h i =
      let e : m ≡ j = omega (arith, h) in
      ap (λ q. code.place o (plus n q) is) e ∙ ap (λ q. code.place o q is) (capped (n + j) most i)

  -- the part of a record
  part_same : (o : PlaceOrigin) (n : ℕ) (is : code.Indices) (us : FieldTypes) (w : CellType) (x : List ℕ) (q : Option Chosen) (d : Designated) → q ≡ field_chosen us x → TypeIs k ts (named.record_with us) w → n + cells_in us ≤ most → AreFull us →
      then_form q (λ c. Some (part_of_form (code.place o n is) c)) ≡ Some d → DesignatedIs k ts d (field_found (code.place o n is) (field_of ts w x))
  part_same o n is us w x None d g h i f e = absurd (cc)
  part_same o n is us w x (Some c) d g h i f e =
      let v : Found k ts us h.fields 0 x c = field_same k ts us h.fields 0 h.cells x c h.each (omega (arith, i)) (sym g) in
      let there : field_of ts w x ≡ Some v.field = ap (λ u. field_of ts u x) h.is ∙ ap (as_field x) h.there ∙ v.there in
      let inside : n + c.0 ≤ most = omega (arith, i, v.inside) in
      let ends : n + c.0 + cells_of c.1 ≤ most = omega (arith, i, v.inside) in
      let place : with_offset (code.place o n is) v.field.offset ≡ code.place o (n + c.0) is = offset_same o n v.field.offset is c.0 v.offset inside in
      let z : PlaceIs k ts (code.place o (n + c.0) is) c.1 (field_found (code.place o n is) (field_of ts w x)) = record {
        value_type = v.field.value_type;
        is = ap (field_found (code.place o n is)) there ∙ ap (λ p. values.a_variable p v.field.value_type) place;
        belongs = v.belongs;
        ends = ends;
        full = field_full us x c f (sym g);
      } in
      subst (λ y. DesignatedIs k ts y (field_found (code.place o n is) (field_of ts w x))) (same_inside (part_of_form (code.place o n is) c) d e) z

  pub field_selected_same : (p : code.Place) (t : Ty) (w : CellType) (x : List ℕ) (d : Designated) → TypeIs k ts t w → Ends p t → IsFull t → field_of_form t p x ≡ Some d → DesignatedIs k ts d (field_found p (field_of ts w x))
  field_selected_same (code.place o n is) (named.record_with us) w x d h i f e = part_same o n is us w x (field_chosen us x) d refl h i f e
  field_selected_same p (named.ordinal r) w x d h i f e = absurd (cc)
  field_selected_same p y w x d h i f e = absurd (cc)

  -- ---- elements

  last_same : (is : code.Indices) (c : code.OrdinalExpression) (r : named.Range) (n : ℕ) → with_last is (code.index c r.low r.high n) ≡ with_index is c r n
  last_same code.no_indices c r n = refl
  last_same (code.more_indices (code.index d low high m) is) c r n = ap (code.more_indices (code.index d low high m)) (last_same is c r n)

  -- an element has no more cells than the array
  element_inside : (n x : ℕ) → 1 ≤ n → x ≤ n * x
  element_inside zero x h = absurd (omega (arith, h))
  element_inside (suc n) x h = omega (arith, one_more n x)

  pub element_selected_same : (p : code.Place) (t : Ty) (w : CellType) (c : code.OrdinalExpression) (d : Designated) → TypeIs k ts t w → Ends p t → IsFull t → element_of_form t p c ≡ Some d → DesignatedIs k ts d (element_found p (array_of ts w) c)
  element_selected_same (code.place o n is) (named.array_over r t) w c d h i f e =
      let less : cells_of t ≤ length_of_range r * cells_of t = element_inside (length_of_range r) (cells_of t) f.0 in
      let few : cells_of t ≤ most = omega (arith, i, less) in
      let ends : n + cells_of t ≤ most = omega (arith, i, less) in
      let there : array_of ts w ≡ Some (kinds.array_type ts (range_on k r) h.element) = ap (array_of ts) h.is ∙ ap as_array h.there in
      let size : symbol_kinds.cells_of ts h.element ≡ cells_of t = cells_same k ts t h.element h.belongs few in
      let z : PlaceIs k ts (code.place o n (with_index is c r (cells_of t))) t (element_found (code.place o n is) (array_of ts w) c) = record {
        value_type = h.element;
        is = ap (λ a. element_found (code.place o n is) a c) there ∙ ap (λ m. values.a_variable (code.place o n (with_last is (code.index c r.low r.high m))) h.element) size ∙ ap (λ js. values.a_variable (code.place o n js) h.element) (last_same is c r (cells_of t));
        belongs = h.belongs;
        ends = ends;
        full = f.1;
      } in
      subst (λ y. DesignatedIs k ts y (element_found (code.place o n is) (array_of ts w) c)) (same_inside (a_variable (code.place o n (with_index is c r (cells_of t))) t) d e) z
  element_selected_same p (named.ordinal r) w c d h i f e = absurd (cc)
  element_selected_same p x w c d h i f e = absurd (cc)
