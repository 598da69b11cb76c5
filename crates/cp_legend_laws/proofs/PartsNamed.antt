-- What leads to a part of a variable in the legend is what the source has for it.
use Rattle.std.proofs.Common.{◌≡◌, ℕ, zero, suc, ◌+◌, ◌*◌, ◌/◌, ◌<◌, ◌≤◌, Bool, true, false, if◌then◌else◌, List, [], ◌∷◌, ◌++◌, Option, Some, None, ◌==◌, refl, sym, ap, ap₂, subst, ◌∙◌, arith, le-leb}
use Rattle.std.proofs.Math.Nat.{div-eq_of_lt-le}
use Rattle.std.proofs.lemmas.Bool.{eqb-false, eqb-true, lt-leb, ltb-true}
use Rattle.std.specs.Prelude.{◌-◌, nat_le, nat_lt, codes}
use Rattle.cp_legend_laws.proofs.Words.{CellType, Compound, Compounds, Name, Numbering, TypeIs, array, is_bounded, range_on}
use Rattle.cp_symbols.specs.declared.kinds.ArrayType.{ArrayType}
use Rattle.cp_symbols.specs.declared.kinds.CellType.TheVariants as types
use Rattle.cp_symbols.specs.Kinds as kinds
use Rattle.cp_symbols.specs.Kinds.{Field, most, plus, times}
use Rattle.cp_layout.specs.Kinds.{array_type}
use Rattle.cp_meaning.specs.Names.{same_name}
use Rattle.cp_meaning.specs.Types.{Range, Ty, array_over, record_with, FieldTypes, no_field_types, more_field_types, length_of_range}
use Rattle.cp_meaning.specs.Values.{Choice, the_field, the_element}
use Rattle.cp_resolved.specs.Encoded.{Chosen, further_chosen, field_chosen, one_chosen, chosen_at}
use Rattle.cp_resolved.specs.InStep.{FieldsAre}
use Rattle.cp_resolved.specs.Layouts.{cells_of, cells_in}
use Rattle.cp_resolved.proofs.declarations.StandingParts.{no_part}
use Rattle.cp_resolved.proofs.frames.Cells.{capped, cells_same, one_more}
use Rattle.cp_resolved.proofs.frames.EncodedCells.{AreBelow, HoldEarlier, IsBelow}
use Rattle.cp_resolved.proofs.frames.FrameCells.{same_is}
use Rattle.cp_resolved.proofs.names.Alike.{same_inside}
use Rattle.cp_legend.specs.Names as legend
use Rattle.cp_legend.specs.Places.{element_at, element_part, element_text, field_at, field_from, field_part, field_text, inner_by, inner_part, later_field, part, parts_text, step_text, step_text_by}
use Rattle.cp_legend.specs.Values.{as_array, fields_in}
use Rattle.cp_legend_laws.specs.PlacesTold.{choice_text, choices_text, part_type, type_at}
use Rattle.cp_legend_laws.proofs.IndexTexts.{index_same}
use Rattle.cp_legend_laws.proofs.KnownConstants.{KnownBase}
use Rattle.cp_legend_laws.proofs.ChosenParts.{IsAt, IsTellable, Leads, Steps, chosen_same, leads, one_of, part_is, some_cells, steps}

-- ---- numbers

quotient : (n x i : ℕ) → i < x → (if x == 0 then 0 else ((n * x + i) / x)) ≡ n
quotient n x i lt = go (x == 0) refl
  where
    go : (b : Bool) → (x == 0) ≡ b → (if b then 0 else ((n * x + i) / x)) ≡ n
    go true e = let a = eqb-true x 0 e in absurd (omega (arith, a, lt))
    go false e = div-eq_of_lt-le x (omega arith) (let a = one_more n x in omega (arith, a, lt))

-- ---- one of the first types

type_higher : (m n : ℕ) (v : CellType) → m ≤ n → IsBelow m v → IsBelow n v
type_higher m n (types.Array j) le h = omega (arith, le, h)
type_higher m n (types.Record j) le h = omega (arith, le, h)
type_higher m n _ le h = tt

module _ (k : Numbering) (ts : Compounds) (names : List Name) (earlier : HoldEarlier ts) where
  abbrev Tellable : Ty → Type 0
  Tellable u = IsTellable names k.firsts u

  -- ---- fields

  fields_after : (us : FieldTypes) (fs : List Field) (n end at : ℕ) → FieldsAre k ts us fs n end → n + cells_in us ≤ most → at < n → (found : Option Field) → field_from found fs at ≡ found
  fields_after no_field_types fs n end at h few lt found = ap (λ (gs : List Field). field_from found gs at) h.0
  fields_after (more_field_types y t us) fs n end at h few lt found =
      let c : kinds.cells_of ts h.value_type ≡ cells_of t = cells_same k ts t h.value_type h.belongs (omega (arith, few)) in
      let p : plus n (kinds.cells_of ts h.value_type) ≡ n + cells_of t = ap (plus n) c ∙ capped (n + cells_of t) most (omega (arith, few)) in
      let r : FieldsAre k ts us h.rest (n + cells_of t) end = subst (λ m. FieldsAre k ts us h.rest m end) p h.others in
      let f : Field = record { name = y; value_type = h.value_type; offset = n } in
      ap (λ (gs : List Field). field_from found gs at) h.first
      ∙ (ap (λ (b : Bool). field_from (if b then Some f else found) h.rest at) (lt-leb n at lt)
      ∙ fields_after us h.rest (n + cells_of t) end at r (omega (arith, few)) (omega (arith, lt)) found)

  -- the field of a name, which has these cells
  record FieldTold (fs : List Field) (first : ℕ) (x : Name) (v : Ty) (below : ℕ) : Type 0 where
    field : Field
    name : field.name ≡ x
    offset : field.offset ≡ first
    is : TypeIs k ts v field.value_type
    earlier_type : IsBelow below field.value_type
    there : (found : Option Field) (at : ℕ) → first ≤ at → at < first + cells_of v → field_from found fs at ≡ Some field

  field_told : (us : FieldTypes) (fs : List Field) (n end below : ℕ) (x : Name) (b : ℕ) (v : Ty) → FieldsAre k ts us fs n end → n + cells_in us ≤ most → AreBelow below fs → field_chosen us x ≡ Some (b, v) → FieldTold fs (n + b) x v below
  field_told no_field_types fs n end below x b v h few low e = absurd (no_part (b, v) e)
  field_told (more_field_types y t us) fs n end below x b v h few low e =
      let c : kinds.cells_of ts h.value_type ≡ cells_of t = cells_same k ts t h.value_type h.belongs (omega (arith, few)) in
      let p : plus n (kinds.cells_of ts h.value_type) ≡ n + cells_of t = ap (plus n) c ∙ capped (n + cells_of t) most (omega (arith, few)) in
      let r : FieldsAre k ts us h.rest (n + cells_of t) end = subst (λ m. FieldsAre k ts us h.rest m end) p h.others in
      let f : Field = record { name = y; value_type = h.value_type; offset = n } in
      let lower : AreBelow below (f ∷ h.rest) = subst (AreBelow below) h.first low in
      subst (λ (gs : List Field). FieldTold gs (n + b) x v below) (sym h.first) (go f h.rest r lower refl h.belongs refl (same_name x y) refl e (λ d g. field_told us h.rest (n + cells_of t) end below x d v r (omega (arith, few)) lower.1 g))
    where
      further : (f : Field) (rest : List Field) → (o : Option Chosen) → field_chosen us x ≡ o → further_chosen (cells_of t) o ≡ Some (b, v) → ((d : ℕ) → field_chosen us x ≡ Some (d, v) → FieldTold rest (n + cells_of t + d) x v below) → FieldTold (f ∷ rest) (n + b) x v below
      further f rest None g i others = absurd (no_part (b, v) i)
      further f rest (Some d) g i others =
          let s = chosen_same (cells_of t + d.0, d.1) (b, v) i in
          let before : cells_of t + d.0 ≡ b = s.0 in
          let last = others d.0 (g ∙ ap (λ (w : Ty). Some (d.0, w)) (s.1)) in
          let at_offset = last.offset in
          record {
            field = last.field;
            name = last.name;
            offset = omega (arith, at_offset, before);
            is = last.is;
            earlier_type = last.earlier_type;
            there = λ found at low high. last.there (later_field found f at) at (omega (arith, low, before)) (omega (arith, high, before));
          }

      go : (f : Field) (rest : List Field) → FieldsAre k ts us rest (n + cells_of t) end → AreBelow below (f ∷ rest) → f.name ≡ y → TypeIs k ts t f.value_type → f.offset ≡ n →
          (c : Bool) → same_name x y ≡ c → (if c then Some (0, t) else further_chosen (cells_of t) (field_chosen us x)) ≡ Some (b, v) → ((d : ℕ) → field_chosen us x ≡ Some (d, v) → FieldTold rest (n + cells_of t + d) x v below) → FieldTold (f ∷ rest) (n + b) x v below
      go f rest r lower named typed begins true same g others =
          let s = chosen_same (0, t) (b, v) g in
          let first : 0 ≡ b = s.0 in
          let type_same : t ≡ v = s.1 in
          let cells : cells_of t ≡ cells_of v = ap cells_of type_same in
          record {
            field = f;
            name = named ∙ sym (same_is x y same);
            offset = omega (arith, begins, first);
            is = subst (λ (w : Ty). TypeIs k ts w f.value_type) type_same typed;
            earlier_type = lower.0;
            there = λ found at low high.
                ap (λ (c : Bool). field_from (if c then Some f else found) rest at) (le-leb f.offset at (omega (arith, begins, low)))
                ∙ fields_after us rest (n + cells_of t) end at r (omega (arith, few)) (omega (arith, high, first, cells)) (Some f);
          }
      go f rest r lower named typed begins false other g others = further f rest (field_chosen us x) refl g others

  -- ---- one step

  -- where a choice leads from a shape
  record Inner (u : Ty) (c : Choice) (b : ℕ) (v : Ty) (shape : CellType) (m : ℕ) : Type 0 where
    steps : ℕ
    some : m ≡ suc steps
    inner : CellType
    is : TypeIs k ts v inner
    below : IsBelow steps inner
    text : (i : ℕ) → i < cells_of v → step_text names ts (part shape (b + i)) ≡ choice_text u c
    part_in : (i : ℕ) → i < cells_of v → inner_part ts (part shape (b + i)) ≡ part inner i

  record_inner : (us : FieldTypes) (x : Name) (b : ℕ) (v : Ty) (shape : CellType) (m : ℕ) → IsBelow m shape → TypeIs k ts (record_with us) shape → cells_in us ≤ most → field_chosen us x ≡ Some (b, v) → Inner (record_with us) (the_field x) b v shape m
  record_inner us x b v shape m low h few e =
      let number_low : h.number < m = subst (IsBelow m) h.is low in
      let none : 0 + cells_in us ≤ most = omega (arith, few) in
      let told : FieldTold h.fields (0 + b) x v h.number = field_told us h.fields 0 h.cells h.number x b v h.each none (earlier h.number (kinds.record_with h.fields h.cells) h.there) e in
      let at : (i : ℕ) → i < cells_of v → field_at h.fields (b + i) ≡ Some told.field = λ i lt. told.there None (b + i) (omega (arith, lt)) (omega (arith, lt)) in
      record {
        steps = m - 1;
        some = omega (arith, number_low);
        inner = told.field.value_type;
        is = told.is;
        below = type_higher h.number (m - 1) told.field.value_type (omega (arith, number_low)) told.earlier_type;
        text = λ i lt.
            ap (λ (w : CellType). step_text_by names ts w (b + i)) h.is
            ∙ (ap (λ (o : Option Compound). field_text (field_at (fields_in o) (b + i))) h.there
            ∙ (ap field_text (at i lt) ∙ ap (λ (y : Name). codes "." ++ y) told.name));
        part_in = λ i lt.
            ap (λ (w : CellType). inner_by ts (part w (b + i)) w) h.is
            ∙ (ap (λ (o : Option Compound). field_part (part (types.Record h.number) (b + i)) (field_at (fields_in o) (b + i))) h.there
            ∙ (ap (field_part (part (types.Record h.number) (b + i))) (at i lt)
            ∙ ap (part told.field.value_type) (let begins = told.offset in let rest : (b + i) - told.field.offset ≡ i = omega (arith, begins) in rest)));
      }

  array_inner : (r : Range) (t : Ty) (n : ℕ) (shape : CellType) (m : ℕ) → IsBelow m shape → TypeIs k ts (array_over r t) shape → length_of_range r * cells_of t ≤ most → KnownBase names k.firsts r.base → is_bounded r ≡ true → n < length_of_range r →
      Inner (array_over r t) (the_element n) (n * cells_of t) t shape m
  array_inner r t n shape m low h few known bounded less =
      let number_low : h.number < m = subst (IsBelow m) h.is low in
      let a : ArrayType = array_type ts (range_on k r) h.element in
      let fits = one_of n (length_of_range r) (cells_of t) less in
      let cells : kinds.cells_of ts h.element ≡ cells_of t = cells_same k ts t h.element h.belongs (omega (arith, few, fits)) in
      let at : (i : ℕ) → i < cells_of t → element_at a (n * cells_of t + i) ≡ n = λ i lt. ap (λ (c : ℕ). if c == 0 then 0 else ((n * cells_of t + i) / c)) cells ∙ quotient n (cells_of t) i lt in
      record {
        steps = m - 1;
        some = omega (arith, number_low);
        inner = h.element;
        is = h.belongs;
        below = type_higher h.number (m - 1) h.element (omega (arith, number_low)) (earlier h.number (array a) h.there);
        text = λ i lt.
            ap (λ (w : CellType). step_text_by names ts w (n * cells_of t + i)) h.is
            ∙ (ap (λ (o : Option Compound). element_text names (as_array o) (n * cells_of t + i)) h.there
            ∙ (ap (legend.index_text names (range_on k r)) (at i lt) ∙ index_same names k r n known bounded less));
        part_in = λ i lt.
            ap (λ (w : CellType). inner_by ts (part w (n * cells_of t + i)) w) h.is
            ∙ (ap (λ (o : Option Compound). element_part (part (types.Array h.number) (n * cells_of t + i)) (as_array o)) h.there
            ∙ (ap₂ (λ (j c : ℕ). part h.element ((n * cells_of t + i) - times j c)) (at i lt) cells
            ∙ ap (part h.element) (let whole : times n (cells_of t) ≡ n * cells_of t = capped (n * cells_of t) most (omega (arith, few, fits)) in let rest : (n * cells_of t + i) - times n (cells_of t) ≡ i = omega (arith, whole) in rest)));
      }

  inner_of : (u : Ty) (c : Choice) (b : ℕ) (v : Ty) (shape : CellType) (m : ℕ) → IsBelow m shape → TypeIs k ts u shape → Tellable u → cells_of u ≤ most → one_chosen u c ≡ Some (b, v) → Inner u c b v shape m
  inner_of (record_with us) (the_field x) b v shape m low h tell few e = record_inner us x b v shape m low h few e
  inner_of (array_over r t) (the_element n) b v shape m low h tell few e = go (nat_lt n (length_of_range r)) refl e
    where
      go : (c : Bool) → nat_lt n (length_of_range r) ≡ c → (let d : Chosen = (n * cells_of t, t) in (if c then Some d else None) ≡ Some (b, v)) → Inner (array_over r t) (the_element n) b v shape m
      go true less f =
          subst (λ (c : Chosen). Inner (array_over r t) (the_element n) c.0 c.1 shape m) (same_inside (n * cells_of t, t) (b, v) f) (array_inner r t n shape m low h few tell.0 tell.1 (ltb-true n (length_of_range r) less))
      go false more f = absurd (no_part (b, v) f)
  inner_of _ _ b v shape m low h tell few e = absurd (no_part (b, v) e)

  -- ---- all steps

  no_step : (shape : CellType) (cells m i : ℕ) → nat_le (kinds.cells_of ts shape) cells ≡ true → parts_text names ts cells m (part shape i) ≡ []
  unfolding parts_text
  no_step shape cells zero i all = refl
  no_step shape cells (suc m) i all = ap (λ (b : Bool). if b then [] else step_text names ts (part shape i) ++ parts_text names ts cells m (inner_part ts (part shape i))) all

  one_step : (shape : CellType) (cells m i : ℕ) → nat_le (kinds.cells_of ts shape) cells ≡ false → parts_text names ts cells (suc m) (part shape i) ≡ step_text names ts (part shape i) ++ parts_text names ts cells m (inner_part ts (part shape i))
  unfolding parts_text
  one_step shape cells m i some = ap (λ (b : Bool). if b then [] else step_text names ts (part shape i) ++ parts_text names ts cells m (inner_part ts (part shape i))) some

  pub parts_told : (cs : List Choice) (u : Ty) (shape : CellType) (i : ℕ) (w : Ty) (m : ℕ) → IsBelow m shape → TypeIs k ts u shape → Tellable u → cells_of u ≤ most → chosen_at u cs ≡ Some (i, w) → parts_text names ts (cells_of w) m (part shape i) ≡ choices_text u cs
  parts_told [] u shape i w m low is tell few e =
      let s = chosen_same (0, u) (i, w) e in
      let cells : cells_of u ≡ cells_of w = ap cells_of s.1 in
      let all : kinds.cells_of ts shape ≡ cells_of u = cells_same k ts u shape is few in
      no_step shape (cells_of w) m i (le-leb (kinds.cells_of ts shape) (cells_of w) (omega (arith, all, cells)))
  parts_told (c ∷ cs) u shape i w m low is tell few e = go (cells_of (type_at u (c ∷ cs)) == cells_of u) refl (λ v j t l h g f d. parts_told cs v t j w l h g f d)
    where
      s : Steps names k.firsts u c cs i w
      s = steps names k.firsts u c cs i w e

      one : Leads names k.firsts u c s.before s.next
      one = leads names k.firsts u c s.before s.next tell s.one

      here : IsAt names k.firsts u (c ∷ cs) i w
      here = part_is names k.firsts (c ∷ cs) u i w tell e

      there : IsAt names k.firsts s.next cs s.rest w
      there = part_is names k.firsts cs s.next s.rest w one.part.tellable s.others

      inner : Inner u c s.before s.next shape m
      inner = inner_of u c s.before s.next shape m low is tell few s.one

      all : kinds.cells_of ts shape ≡ cells_of u
      all = cells_same k ts u shape is few

      cells : cells_of (type_at u (c ∷ cs)) ≡ cells_of w
      cells = ap cells_of here.type_is

      inside : s.rest < cells_of s.next
      inside = let a = there.part.inside in let b = some_cells names k.firsts w there.part.tellable in omega (arith, a, b)

      go : (b : Bool) → (cells_of (type_at u (c ∷ cs)) == cells_of u) ≡ b →
          ((v : Ty) (j : ℕ) (t : CellType) (l : ℕ) → IsBelow l t → TypeIs k ts v t → Tellable v → cells_of v ≤ most → chosen_at v cs ≡ Some (j, w) → parts_text names ts (cells_of w) l (part t j) ≡ choices_text v cs) →
          parts_text names ts (cells_of w) m (part shape i) ≡ (if b then [] else choice_text u c ++ choices_text (part_type u c) cs)
      go true same rest =
          let b = eqb-true (cells_of (type_at u (c ∷ cs))) (cells_of u) same in
          no_step shape (cells_of w) m i (le-leb (kinds.cells_of ts shape) (cells_of w) (omega (arith, all, cells, b)))
      go false other rest =
          let b = eqb-false (cells_of (type_at u (c ∷ cs))) (cells_of u) other in
          let fits = here.part.inside in
          let more : nat_le (kinds.cells_of ts shape) (cells_of w) ≡ false = lt-leb (kinds.cells_of ts shape) (cells_of w) (omega (arith, all, cells, b, fits)) in
          let next_few : cells_of s.next ≤ most = (let a = one.part.inside in omega (arith, a, few)) in
          ap₂ (λ (l j : ℕ). parts_text names ts (cells_of w) l (part shape j)) inner.some (sym s.same)
          ∙ (one_step shape (cells_of w) inner.steps (s.before + s.rest) more
          ∙ ap₂ (λ (x y : Name). x ++ y) (inner.text s.rest inside)
          (ap (parts_text names ts (cells_of w) inner.steps) (inner.part_in s.rest inside)
          ∙ (rest s.next s.rest inner.inner inner.steps inner.below inner.is one.part.tellable next_few s.others
          ∙ ap (λ (v : Ty). choices_text v cs) (sym one.type_is))))
