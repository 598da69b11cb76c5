-- The cells of a type, and where a field lies among them, are those of the type that it stands for, if these are few.
use Rattle.std.proofs.Common.{◌≡◌, ◌+◌, ◌*◌, ◌≤◌, ℕ, zero, suc, ℤ, pos, negsuc, Bool, true, false, if◌then◌else◌, List, ◌∷◌, Option, Some, None, refl, sym, ap, subst, ◌∙◌, arith}
use Rattle.cp_resolved.proofs.Words.{min, ◌+ℤ◌, ◌-ℤ◌, bytes_eq, CellType, Ty, FieldTypes, length_of_range, natural_of, cells_of, cells_in, Chosen, field_chosen}
use Rattle.cp_resolved.proofs.Words.{further_chosen, leb-zero, mul_comm}
use Rattle.cp_symbols.specs.Kinds as kinds
use Rattle.cp_symbols.specs.Kinds.{Compounds, Field, compound_cells, count_of, not_below_zero, most, times, plus}
use Rattle.cp_layout.specs.Kinds.{field_in}
use Rattle.cp_meaning.specs.Types as named
use Rattle.cp_resolved.specs.InStep.{Numbering, range_on, TypeIs, FieldsAre}
use Rattle.cp_resolved.proofs.names.Alike.{same_inside}
use Rattle.cp_resolved.proofs.names.Steps.{bytes_turned}

pub capped : (a m : ℕ) → a ≤ m → min a m ≡ a
capped a m h = omega (arith, h)

natural_same : (z : ℤ) → not_below_zero z ≡ natural_of z
natural_same (pos n) = rw (leb-zero n) refl
natural_same (negsuc n) = refl

pub count_same : (k : Numbering) (s : named.Range) → count_of (range_on k s) ≡ length_of_range s
count_same k s = natural_same (((range_on k s).high -ℤ (range_on k s).low) +ℤ pos 1)

pub one_more : (n x : ℕ) → suc n * x ≡ x + n * x
one_more n x = omega arith

-- this many elements, of which each has these cells
elements : (n x y : ℕ) → n * x ≤ most → (x ≤ most → y ≡ x) → times y n ≡ n * x
elements zero x y h i =
    let e : y * 0 ≡ 0 = omega arith in
    let f : 0 ≡ 0 * x = omega arith in
    ap (λ z. min z most) e ∙ capped 0 most (omega arith) ∙ f
elements (suc n) x y h i =
    let e : y ≡ x = i (omega (arith, h, one_more n x)) in
    ap (λ z. times z (suc n)) e ∙ ap (λ z. min z most) (mul_comm x (suc n)) ∙ capped (suc n * x) most h

module _ (k : Numbering) (ts : Compounds) where
  mutual
    pub cells_same : (t : Ty) (v : CellType) → TypeIs k ts t v → cells_of t ≤ most → kinds.cells_of ts v ≡ cells_of t
    cells_same (named.array_over s t) v h i =
        ap (kinds.cells_of ts) h.is ∙ ap compound_cells h.there ∙ ap (times (kinds.cells_of ts h.element)) (count_same k s)
        ∙ elements (length_of_range s) (cells_of t) (kinds.cells_of ts h.element) i (λ j. cells_same t h.element h.belongs j)
    cells_same (named.record_with us) v h i = ap (kinds.cells_of ts) h.is ∙ ap compound_cells h.there ∙ fields_end us h.fields 0 h.cells h.each (let z : 0 + cells_in us ≤ most = omega (arith, i) in z) ∙ (let z : 0 + cells_in us ≡ cells_in us = omega arith in z)
    cells_same _ v h i = ap (kinds.cells_of ts) h

    pub fields_end : (us : FieldTypes) (fs : List Field) (n end : ℕ) → FieldsAre k ts us fs n end → n + cells_in us ≤ most → end ≡ n + cells_in us
    fields_end named.no_field_types fs n end h i = omega (arith, h.1)
    fields_end (named.more_field_types x t us) fs n end h i =
        let c : kinds.cells_of ts h.value_type ≡ cells_of t = cells_same t h.value_type h.belongs (omega (arith, i)) in
        let p : plus n (kinds.cells_of ts h.value_type) ≡ n + cells_of t = ap (plus n) c ∙ capped (n + cells_of t) most (omega (arith, i)) in
        let j : n + cells_of t + cells_in us ≤ most = omega (arith, i) in
        let e : end ≡ n + cells_of t + cells_in us = fields_end us h.rest (n + cells_of t) end (subst (λ m. FieldsAre k ts us h.rest m end) p h.others) j in
        omega (arith, e)

  -- the field of the name, at its offset, with its type, inside the record
  pub record Found (us : FieldTypes) (fs : List Field) (n : ℕ) (x : List ℕ) (c : Chosen) : Type 0 where
    pub field : Field
    pub there : field_in x fs ≡ Some field
    pub offset : field.offset ≡ n + c.0
    pub belongs : TypeIs k ts c.1 field.value_type
    pub inside : c.0 + cells_of c.1 ≤ cells_in us

  further : (n : ℕ) (o : Option Chosen) (c : Chosen) → further_chosen n o ≡ Some c → (d : Chosen) × (o ≡ Some d) × ((n + d.0, d.1) ≡ c)
  further n None c h = absurd (cc)
  further n (Some d) c h = (d, refl, same_inside (n + d.0, d.1) c h)

  pub field_same : (us : FieldTypes) (fs : List Field) (n end : ℕ) (x : List ℕ) (c : Chosen) → FieldsAre k ts us fs n end → n + cells_in us ≤ most → field_chosen us x ≡ Some c → Found us fs n x c
  field_same named.no_field_types fs n end x c h i e = absurd (cc)
  field_same (named.more_field_types y t us) fs n end x c h i e =
      let f : Field = record { name = y; value_type = h.value_type; offset = n } in
      let d : kinds.cells_of ts h.value_type ≡ cells_of t = cells_same t h.value_type h.belongs (omega (arith, i)) in
      let p : plus n (kinds.cells_of ts h.value_type) ≡ n + cells_of t = ap (plus n) d ∙ capped (n + cells_of t) most (omega (arith, i)) in
      let r : FieldsAre k ts us h.rest (n + cells_of t) end = subst (λ m. FieldsAre k ts us h.rest m end) p h.others in
      let j : n + cells_of t + cells_in us ≤ most = omega (arith, i) in
      subst (λ gs. Found (named.more_field_types y t us) gs n x c) (sym h.first) (go (bytes_eq x y) f h.rest (bytes_turned y x) h.belongs refl (λ q g. field_same us h.rest (n + cells_of t) end x q r j g) e)
    where
      go : (b : Bool) (f : Field) (rest : List Field) → bytes_eq f.name x ≡ b → TypeIs k ts t f.value_type → f.offset ≡ n →
          ((q : Chosen) → field_chosen us x ≡ Some q → Found us rest (n + cells_of t) x q) → (if b then Some (0, t) else further_chosen (cells_of t) (field_chosen us x)) ≡ Some c → Found (named.more_field_types y t us) (f ∷ rest) n x c
      go true f rest w u o ih g =
          let z : (0, t) ≡ c = same_inside (0, t) c g in
          subst (λ (q : Chosen). Found (named.more_field_types y t us) (f ∷ rest) n x q) z
          (record { field = f; there = ap (λ b. if b then Some f else field_in x rest) w; offset = omega (arith, o); belongs = u; inside = omega arith })
      go false f rest w u o ih g =
          let z : (q : Chosen) × (field_chosen us x ≡ Some q) × ((cells_of t + q.0, q.1) ≡ c) = further (cells_of t) (field_chosen us x) c g in
          let v : Found us rest (n + cells_of t) x z.0 = ih z.0 z.1 in
          subst (λ (q : Chosen). Found (named.more_field_types y t us) (f ∷ rest) n x q) z.2
          (record { field = v.field; there = ap (λ b. if b then Some f else field_in x rest) w ∙ v.there; offset = omega (arith, v.offset); belongs = v.belongs; inside = omega (arith, v.inside) })
