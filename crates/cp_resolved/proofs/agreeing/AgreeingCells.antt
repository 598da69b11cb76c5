-- What the checker counts of the cells of a type that breaks no rule is what the type takes.
use Rattle.std.proofs.Common.{◌≡◌, ◌+◌, ◌*◌, ◌<◌, ◌≤◌, ℕ, zero, suc, ℤ, pos, negsuc, Bool, true, false, refl, ap, subst, ◌∙◌, arith}
use Rattle.cp_resolved.proofs.Words.{min, nat_le, nat_lt, ◌+ℤ◌, ◌-ℤ◌, int_le, unsigned_abs, leb-true, leb-false, ltb-false, Range, ValueType, ArrayShape, Census, Ty}
use Rattle.cp_resolved.proofs.Words.{FieldTypes, natural_of, length_of_range, cells_of, cells_in, is_indexed, is_free, are_free}
use Rattle.cp_scope.specs.Counts.{times}
use Rattle.cp_scope.specs.Scopes as checker
use Rattle.cp_scope.specs.Scopes.{Names, shape_in, shape_cells, count_of, both_census, element_census, array_census, variable_census, census_from, census, no_census}
use Rattle.cp_meaning.specs.Types as named
use Rattle.cp_resolved.specs.Typed.{Tokens, Written, RangeIs, TypeIs, FieldsAre}
use Rattle.cp_resolved.proofs.agreeing.AgreeingNames.{array_is}
use Rattle.cp_resolved.proofs.counts.FewCells.{left_of, not_negative}
use Rattle.cp_resolved.proofs.frames.LeastCells.{right_true as right_of}

-- ---- counts, which stop just past the greatest limit

few_min : (a : ℕ) → min a 8193 ≤ 8192 → min a 8193 ≡ a
few_min a h = omega (arith, h)

few_times : (m c : ℕ) → times (min m 8193) c ≤ 8192 → times (min m 8193) c ≡ m * c
few_times m zero h =
    let e : min m 8193 * 0 ≡ 0 = omega arith in
    let f : 0 ≡ m * 0 = omega arith in
    ap (λ x. min x 8193) e ∙ f
few_times m (suc c) h = go (nat_le m 8192) refl
  where
    go : (b : Bool) → nat_le m 8192 ≡ b → times (min m 8193) (suc c) ≡ m * suc c
    go true e =
        let le : m ≤ 8192 = leb-true m 8192 e in
        let same : min m 8193 ≡ m = omega (arith, le) in
        let all : times (min m 8193) (suc c) ≡ min (m * suc c) 8193 = ap (λ x. min (x * suc c) 8193) same in
        all ∙ few_min (m * suc c) (subst (λ x. x ≤ 8192) all h)
    go false e =
        let more : 8192 < m = leb-false m 8192 e in
        let same : min m 8193 ≡ 8193 = omega (arith, more) in
        let all : times (min m 8193) (suc c) ≡ min (8193 * suc c) 8193 = ap (λ x. min (x * suc c) 8193) same in
        absurd (omega (arith, h, all))

one_more : (z : ℤ) → int_le (pos 0) z ≡ true → unsigned_abs z + 1 ≡ natural_of (z +ℤ pos 1)
one_more (pos n) h = refl
one_more (negsuc n) h = absurd (let bad : false ≡ true = h in cc)

-- how many values
values_are : (k : Tokens) (q : named.Range) (r : Range) → RangeIs k q r → int_le q.low q.high ≡ true → count_of r ≡ min (length_of_range q) 8193
values_are k q r h o =
    ap (λ z. min (unsigned_abs (z -ℤ r.low) + 1) 8193) h.high ∙ ap (λ z. min (unsigned_abs (q.high -ℤ z) + 1) 8193) h.low
    ∙ ap (λ n. min n 8193) (one_more (q.high -ℤ q.low) (not_negative q.low q.high o))

module _ (w : Written) where
  abbrev counted : ValueType → ℕ
  counted v = checker.cells_of v w.shapes

  cells_are : (t : Ty) (v : ValueType) → TypeIs w t v → counted v ≡ cells_of t
  cells_are named.queue_type v h = ap counted h
  cells_are (named.array_over q t) v h = ap counted h.is ∙ ap shape_cells (array_is (shape_in h.token w.shapes) h.shape h.there) ∙ h.takes
  cells_are (named.record_with ts) v h = ap counted h.is ∙ ap shape_cells h.there
  cells_are _ v h = ap counted h.is

  -- an array that is not too large
  pub array_takes : (q : named.Range) (r : Range) (t : Ty) (v : ValueType) → RangeIs w.tokens q r → int_le q.low q.high ≡ true → TypeIs w t v → nat_lt 8192 (times (count_of r) (counted v)) ≡ false → times (count_of r) (counted v) ≡ length_of_range q * cells_of t
  array_takes q r t v h o g few =
      let same : times (count_of r) (counted v) ≡ times (min (length_of_range q) 8193) (cells_of t) = ap (λ n. times n (counted v)) (values_are w.tokens q r h o) ∙ ap (times (min (length_of_range q) 8193)) (cells_are t v g) in
      same ∙ few_times (length_of_range q) (cells_of t) (subst (λ n. n ≤ 8192) same (ltb-false 8192 (times (count_of r) (counted v)) few))

  -- ---- records

  element_takes : (t : Ty) (a : ArrayShape) (v : ValueType) → is_free t ≡ true → TypeIs w t v → (element_census a v w.shapes).cells ≡ a.cells
  element_takes named.queue_type a v f h = ap (λ u. (element_census a u w.shapes).cells) h
  element_takes (named.component_of n) a v f h = absurd (let bad : false ≡ true = f in cc)
  element_takes _ a v f h = ap (λ u. (element_census a u w.shapes).cells) h.is

  variable_takes : (t : Ty) (v : ValueType) → is_free t ≡ true → TypeIs w t v → (variable_census v w.shapes).cells ≡ cells_of t
  variable_takes named.queue_type v f h = absurd (let bad : false ≡ true = f in cc)
  variable_takes (named.array_over q t) v f h =
      ap (λ u. (variable_census u w.shapes).cells) h.is ∙ ap (λ o. (array_census o w.shapes).cells) h.there ∙ element_takes t h.shape h.shape.element (right_of (is_indexed q t) (is_free t) f) h.belongs ∙ h.takes
  variable_takes (named.record_with ts) v f h = ap (λ u. (variable_census u w.shapes).cells) h.is ∙ ap shape_cells h.there
  variable_takes (named.component_of n) v f h = absurd (let bad : false ≡ true = f in cc)
  variable_takes _ v f h = ap (λ u. (variable_census u w.shapes).cells) h.is

  fields_take : (ts : FieldTypes) (ds : Names) (total : Census) → are_free ts ≡ true → FieldsAre w ts ds → (census_from total ds w.shapes).cells ≤ 8192 → (census_from total ds w.shapes).cells ≡ total.cells + cells_in ts
  unfolding census_from
  fields_take named.no_field_types ds total f h few =
      let e : (census_from total ds w.shapes).cells ≡ total.cells = ap (λ es. (census_from total es w.shapes).cells) h in
      omega (arith, e)
  fields_take (named.more_field_types x t ts) ds total f h few =
      let c : Census = variable_census h.value_type w.shapes in
      let n : ℕ = (census_from (both_census total c) h.rest w.shapes).cells in
      let e : (census_from total ds w.shapes).cells ≡ n = ap (λ es. (census_from total es w.shapes).cells) h.first in
      let less : n ≤ 8192 = subst (λ m. m ≤ 8192) e few in
      let rest : n ≡ min (total.cells + c.cells) 8193 + cells_in ts = fields_take ts h.rest (both_census total c) (right_of (is_free t) (are_free ts) f) h.others less in
      let one : c.cells ≡ cells_of t = variable_takes t h.value_type (left_of (is_free t) (are_free ts) f) h.belongs in
      omega (arith, e, less, rest, one)

  -- a record that is not too large
  pub record_takes : (ts : FieldTypes) (ds : Names) → are_free ts ≡ true → FieldsAre w ts ds → nat_lt 8192 (census ds w.shapes).cells ≡ false → (census ds w.shapes).cells ≡ cells_in ts
  record_takes ts ds f h few =
      let e : (census ds w.shapes).cells ≡ 0 + cells_in ts = fields_take ts ds no_census f h (ltb-false 8192 (census ds w.shapes).cells few) in
      omega (arith, e)
