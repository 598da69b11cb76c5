-- The cells with which a variable begins are those of its type, and no fewer where there are more types.
use Rattle.std.proofs.Common.{◌≡◌, ℕ, zero, suc, ◌+◌, ◌*◌, ◌≤◌, ◌==◌, ℤ, Bool, true, false, if◌then◌else◌, List, [], ◌∷◌, ◌++◌, length, Option, Some, None, slice_get, refl, sym, ap, subst, ◌∙◌, arith, length-append}
use Rattle.cp_resolved.proofs.Words.{eqb-true, eqb-false, mul-le, CellType, Ty, FieldTypes, length_of_range, cells_of, cells_in}
use Rattle.cp_symbols.specs.declared.kinds.CellType.TheVariants as types
use Rattle.cp_symbols.specs.Kinds.{Field, Compound, array, record_with, Compounds, count_of}
use Rattle.cp_layout.specs.Kinds.{least_by, fields_least, compound_least, compound_below, least_below, least}
use Rattle.cp_meaning.specs.Types as named
use Rattle.cp_resolved.specs.InStep.{Numbering, range_on, TypeIs, FieldsAre}
use Rattle.cp_resolved.proofs.frames.Cells.{count_same}
use Rattle.cp_resolved.proofs.names.Entries.{still_there}
use Rattle.cp_resolved.proofs.systems.Sizes.{copies_length}
use Rattle.cp_layout.proofs.Least.{compound_outside as below_none}

-- ---- where a type is one of the first

below_at : (ts : Compounds) (number cells : ℕ) → ((b : ℕ) → length (compound_least (compound_below ts b) (slice_get ts number)) ≤ cells) → (bound : ℕ) → length (compound_below ts bound number) ≤ cells
unfolding compound_below
below_at ts number cells h zero = omega arith
below_at ts number cells h (suc b) = go (number == b) refl (below_at ts number cells h b)
  where
    go : (c : Bool) → (number == b) ≡ c → length (compound_below ts b number) ≤ cells → length (if c then compound_least (compound_below ts b) (slice_get ts b) else compound_below ts b number) ≤ cells
    go true e rest = subst (λ n. length (compound_least (compound_below ts b) (slice_get ts n)) ≤ cells) (eqb-true number b e) (h b)
    go false e rest = rest

module _ (k : Numbering) (ts : Compounds) where
  mutual
    unfolding fields_least

    below_cells : (bound : ℕ) (t : Ty) (v : CellType) → TypeIs k ts t v → length (least_below ts bound v) ≤ cells_of t
    below_cells bound (named.set_over s) v h = subst (λ u. length (least_below ts bound u) ≤ 8) (sym h) (omega arith)
    below_cells bound (named.array_over s t) v h =
        subst (λ u. length (least_below ts bound u) ≤ length_of_range s * cells_of t) (sym h.is)
        (below_at ts h.number (length_of_range s * cells_of t) (λ b. subst (λ o. length (compound_least (compound_below ts b) o) ≤ length_of_range s * cells_of t) (sym h.there)
        (subst (λ n. n ≤ length_of_range s * cells_of t) (sym (copies_length (count_of (range_on k s)) (least_below ts b h.element)))
        (subst (λ n. n * length (least_below ts b h.element) ≤ length_of_range s * cells_of t) (sym (count_same k s)) (mul-le (length_of_range s) (length (least_below ts b h.element)) (length_of_range s) (cells_of t) (omega arith) (below_cells b t h.element h.belongs))))) bound)
    below_cells bound (named.record_with us) v h =
        subst (λ u. length (least_below ts bound u) ≤ cells_in us) (sym h.is)
        (below_at ts h.number (cells_in us) (λ b. subst (λ o. length (compound_least (compound_below ts b) o) ≤ cells_in us) (sym h.there) (fields_below b us h.fields 0 h.cells h.each)) bound)
    below_cells bound (named.component_of n) v h = subst (λ u. length (least_below ts bound u) ≤ 0) (sym h) (omega arith)
    below_cells bound x v h = subst (λ u. length (least_below ts bound u) ≤ 1) (sym h) (omega arith)

    fields_below : (bound : ℕ) (us : FieldTypes) (fs : List Field) (n end : ℕ) → FieldsAre k ts us fs n end → length (fields_least (compound_below ts bound) fs) ≤ cells_in us
    fields_below bound named.no_field_types fs n end h = subst (λ gs. length (fields_least (compound_below ts bound) gs) ≤ 0) (sym h.0) (omega arith)
    fields_below bound (named.more_field_types x t us) fs n end h =
        let a = below_cells bound t h.value_type h.belongs in
        let b = fields_below bound us h.rest _ end h.others in
        let e = length-append (least_below ts bound h.value_type) (fields_least (compound_below ts bound) h.rest) in
        subst (λ gs. length (fields_least (compound_below ts bound) gs) ≤ cells_of t + cells_in us) (sym h.first) (omega (arith, a, b, e))

  pub least_cells : (t : Ty) (v : CellType) → TypeIs k ts t v → length (least ts v) ≤ cells_of t
  unfolding least
  least_cells t v h = below_cells (length ts) t v h

-- ---- more types

-- by what gives more for each number
module _ (f g : ℕ → List ℤ) (more : (n : ℕ) → length (f n) ≤ length (g n)) where
  by_more : (t : CellType) → length (least_by f t) ≤ length (least_by g t)
  by_more (types.Array n) = more n
  by_more (types.Record n) = more n
  by_more x = omega arith

  fields_by_more : (fs : List Field) → length (fields_least f fs) ≤ length (fields_least g fs)
  unfolding fields_least
  fields_by_more [] = omega arith
  fields_by_more (d ∷ fs) =
      let a = by_more d.value_type in
      let b = fields_by_more fs in
      let e = length-append (least_by f d.value_type) (fields_least f fs) in
      let i = length-append (least_by g d.value_type) (fields_least g fs) in
      omega (arith, a, b, e, i)

  compound_by_more : (c : Compound) → length (compound_least f (Some c)) ≤ length (compound_least g (Some c))
  compound_by_more (array a) =
      let m = mul-le (count_of a.index) (length (least_by f a.element)) (count_of a.index) (length (least_by g a.element)) (omega arith) (by_more a.element) in
      rw (copies_length (count_of a.index) (least_by f a.element), copies_length (count_of a.index) (least_by g a.element)) m
  compound_by_more (record_with fs n) = fields_by_more fs

module _ (ts more : Compounds) where
  entry_more : (f g : ℕ → List ℤ) → ((n : ℕ) → length (f n) ≤ length (g n)) → (n : ℕ) (o : Option Compound) → slice_get ts n ≡ o → length (compound_least f o) ≤ length (compound_least g (slice_get (ts ++ more) n))
  entry_more f g h n None e = omega arith
  entry_more f g h n (Some c) e = subst (λ o. length (compound_least f (Some c)) ≤ length (compound_least g o)) (sym (still_there ts more n c e)) (compound_by_more f g h c)

  abbrev us : Compounds
  us = ts ++ more

  abbrev IsMoreUntil : ℕ → Type 0
  IsMoreUntil high = (low : ℕ) → low ≤ high → (n : ℕ) → length (compound_below ts low n) ≤ length (compound_below us high n)

  less_than : (a c : ℕ) → a ≤ c → (a ≡ c → ⊥) → suc a ≤ c
  less_than a c le other = grind (arith, le, other)

  below_step : (c a n : ℕ) → a ≤ c → IsMoreUntil c → (p q : Bool) → (n == a) ≡ p → (n == c) ≡ q →
      length (if p then compound_least (compound_below ts a) (slice_get ts a) else compound_below ts a n) ≤ length (if q then compound_least (compound_below us c) (slice_get us c) else compound_below us c n)
  unfolding compound_below
  below_step c a n le h true true e i =
      let same : a ≡ c = sym (eqb-true n a e) ∙ eqb-true n c i in
      subst (λ j. length (compound_least (compound_below ts a) (slice_get ts a)) ≤ length (compound_least (compound_below us c) (slice_get us j))) same
      (entry_more (compound_below ts a) (compound_below us c) (h a le) a (slice_get ts a) refl)
  below_step c a n le h true false e i =
      let same : n ≡ a = eqb-true n a e in
      let other : n ≡ c → ⊥ = eqb-false n c i in
      subst (λ p. length (if p then compound_least (compound_below ts a) (slice_get ts a) else compound_below ts a n) ≤ length (compound_below us c n)) e (h (suc a) (less_than a c le (λ j. other (same ∙ j))) n)
  below_step c a n le h false true e i =
      let same : n ≡ c = eqb-true n c i in
      let none : length (compound_below ts a n) ≡ 0 = ap (λ (zs : List ℤ). length zs) (below_none ts a n (omega (arith, same, le))) in
      omega (arith, none)
  below_step c a n le h false false e i = h a le n

  below_more : (high : ℕ) → IsMoreUntil high
  unfolding compound_below
  below_more high zero le n = omega arith
  below_more zero (suc a) le n = absurd (omega (arith, le))
  below_more (suc c) (suc a) le n = below_step c a n (omega (arith, le)) (below_more c) (n == a) (n == c) refl refl

  pub least_more : (v : CellType) → length (least ts v) ≤ length (least (ts ++ more) v)
  unfolding least
  least_more v = by_more (compound_below ts (length ts)) (compound_below (ts ++ more) (length (ts ++ more))) (below_more (length (ts ++ more)) (length ts) (let e = length-append ts more in omega (arith, e))) v
