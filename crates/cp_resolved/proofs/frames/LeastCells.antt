-- What a variable of a routine begins with: the cells of the least value of its type, which is a value of the type.
use Rattle.std.proofs.Common.{◌≡◌, ◌+◌, ◌-◌, ◌*◌, ◌<◌, ◌≤◌, ◌==◌, ℕ, zero, suc, ℤ, pos, negsuc, Bool, true, false, ◌&&◌, if◌then◌else◌, List, [], ◌∷◌, ◌++◌, take, drop, length, Some, None, slice_get, refl, sym, ap, subst, ◌∙◌, ◌⊎◌, inl, inr, arith, length-append, append_assoc, append-nil}
use Rattle.cp_resolved.proofs.Words.{min, int_le, int_lt, slice_get_within, CellType, range_of_base, cells_of, cells_in, IsFull, AreFull, mul_comm}
use Rattle.std.proofs.Math.Dec.{T, eqb_refl, leb-zero}
use Rattle.cp_symbols.specs.declared.kinds.CellType.TheVariants as types
use Rattle.cp_symbols.specs.Kinds as symbol_kinds
use Rattle.cp_layout.specs.Kinds as kinds
use Rattle.cp_symbols.specs.Kinds.{array, record_with, Compounds, Field, compound_cells, count_of, most, times}
use Rattle.cp_layout.specs.Kinds.{array_type, fields_least, compound_least, compound_below, least_below}
use Rattle.cp_meaning.specs.Types as named
use Rattle.cp_meaning.specs.Types.{Base, Range, Ty, FieldTypes, length_of_range, is_within, has_components}
use Rattle.cp_meaning.specs.Values.{Value, number_value, least_number, least, least_fields, copies}
use Rattle.cp_resolved.specs.Encoded.{encode, encode_all, encode_fields, AllHave, HasType, HaveTypes}
use Rattle.cp_resolved.specs.InStep.{Numbering, range_on, TypeIs, FieldsAre}
use Rattle.cp_resolved.specs.Standing.{is_bounded, is_indexed, are_few, is_free, are_free, is_element, is_standing}
use Rattle.cp_resolved.proofs.frames.Cells.{capped, count_same, one_more, cells_same, fields_end}
use Rattle.cp_resolved.proofs.systems.Sizes.{Counted, fields_cells, cells_more, times_more as times_apart}
use Rattle.cp_layout.proofs.Least.{compound_inside as below_at, compound_outside as below_past}

pub left_true : (a b : Bool) → (a && b) ≡ true → a ≡ true
left_true true b h = refl
left_true false b h = absurd (let bad : false ≡ true = h in cc)

pub right_true : (a b : Bool) → (a && b) ≡ true → b ≡ true
right_true true b h = h
right_true false b h = absurd (let bad : false ≡ true = h in cc)

-- ---- as many cells as the type has

copied_length : (n : ℕ) (v : Value) → length (encode_all (copies n v)) ≡ n * length (encode v)
copied_length zero v = omega arith
copied_length (suc n) v =
    let e = copied_length n v in
    let f = length-append (encode v) (encode_all (copies n v)) in
    omega (arith, e, f, one_more n (length (encode v)))

mutual
  pub least_length : (t : Ty) → is_free t ≡ true → length (encode (least t)) ≡ cells_of t
  least_length (named.array_over r t) h = copied_length (length_of_range r) (least t) ∙ ap (λ n. length_of_range r * n) (least_length t (right_true (is_indexed r t) (is_free t) h))
  least_length (named.record_with ts) h = fields_length ts (right_true (are_few (cells_in ts)) (are_free ts) h)
  least_length (named.component_of n) h = absurd (let bad : false ≡ true = h in cc)
  least_length _ h = refl

  fields_length : (ts : FieldTypes) → are_free ts ≡ true → length (encode_fields (least_fields ts)) ≡ cells_in ts
  fields_length named.no_field_types h = refl
  fields_length (named.more_field_types x t ts) h =
      let a = least_length t (left_true (is_free t) (are_free ts) h) in
      let b = fields_length ts (right_true (is_free t) (are_free ts) h) in
      length-append (encode (least t)) (encode_fields (least_fields ts)) ∙ omega (arith, a, b)

nothing_left : (xs : List ℤ) → length xs ≡ 0 → xs ≡ []
nothing_left [] h = refl
nothing_left (x ∷ xs) h = absurd (omega (arith, h))

-- ---- a value of the type

zero_within : (b : Base) → is_within (range_of_base b) (pos 0) ≡ true
zero_within (named.enumerated at xs) = leb-zero (length xs - 1)
zero_within _ = refl

number_typed : (r : Range) → is_bounded r ≡ true → is_within (range_of_base r.base) (least_number r) ≡ true
number_typed r h = go (int_lt r.low (negsuc 32766))
  where
    go : (b : Bool) → is_within (range_of_base r.base) (if b then pos 0 else r.low) ≡ true
    go true = zero_within r.base
    go false = left_true (is_within (range_of_base r.base) r.low) (is_within (range_of_base r.base) r.high && int_le r.low r.high) h

-- the result of a call begins with 0
pub zero_typed : (r : Range) → HasType (named.ordinal r) (number_value (pos 0))
zero_typed r = zero_within r.base

all_have : (Has : Value → Type 0) (n : ℕ) (v : Value) → Has v → AllHave Has n (copies n v)
all_have Has zero v h = tt
all_have Has (suc n) v h = (h, all_have Has n v h)

mutual
  pub least_typed : (t : Ty) → is_free t ≡ true → HasType t (least t)
  least_typed (named.ordinal r) h = number_typed r h
  least_typed (named.array_over r t) h = all_have (HasType t) (length_of_range r) (least t) (least_typed t (right_true (is_indexed r t) (is_free t) h))
  least_typed (named.record_with ts) h = fields_typed ts (right_true (are_few (cells_in ts)) (are_free ts) h)
  least_typed (named.component_of n) h = absurd (let bad : false ≡ true = h in cc)
  least_typed _ h = tt

  fields_typed : (ts : FieldTypes) → are_free ts ≡ true → HaveTypes ts (least_fields ts)
  fields_typed named.no_field_types h = tt
  fields_typed (named.more_field_types x t ts) h = (refl, least_typed t (left_true (is_free t) (are_free ts) h), fields_typed ts (right_true (is_free t) (are_free ts) h))

element_typed : (r : Range) (t : Ty) → is_element t ≡ true → has_components (named.array_over r t) ≡ false → HasType t (least t)
element_typed r (named.ordinal q) h w = least_typed (named.ordinal q) h
element_typed r (named.array_over q t) h w = least_typed (named.array_over q t) h
element_typed r (named.record_with ts) h w = least_typed (named.record_with ts) h
element_typed r (named.component_of n) h w = absurd (let bad : true ≡ false = w in cc)
element_typed r _ h w = tt

-- of a permanent variable that has cells
pub standing_typed : (t : Ty) → is_standing t ≡ true → has_components t ≡ false → HasType t (least t)
standing_typed (named.ordinal r) h w = least_typed (named.ordinal r) h
standing_typed (named.array_over r t) h w = all_have (HasType t) (length_of_range r) (least t) (element_typed r t (right_true (is_indexed r t) (is_element t) h) w)
standing_typed (named.record_with ts) h w = least_typed (named.record_with ts) h
standing_typed (named.component_of n) h w = absurd (let bad : true ≡ false = w in cc)
standing_typed _ h w = tt

-- ---- the cells that are laid out

pub least_of_same : (k : Numbering) (r : Range) → symbol_kinds.least_of (range_on k r) ≡ least_number r
least_of_same k r = go r.low
  where
    go : (z : ℤ) → (if int_le z (negsuc 32767) then pos 0 else z) ≡ (if int_lt z (negsuc 32766) then pos 0 else z)
    go (pos n) = refl
    go (negsuc n) = refl

-- one more at the end is one more at the beginning
copies_turned : (n : ℕ) (zs : List ℤ) → kinds.copies n zs ++ zs ≡ zs ++ kinds.copies n zs
unfolding kinds.copies
copies_turned zero zs = sym (append-nil zs)
copies_turned (suc n) zs = ap (λ ys. ys ++ zs) (copies_turned n zs) ∙ append_assoc zs (kinds.copies n zs) zs

copies_same : (n : ℕ) (zs : List ℤ) (v : Value) → zs ≡ encode v → kinds.copies n zs ≡ encode_all (copies n v)
unfolding kinds.copies
copies_same zero zs v e = refl
copies_same (suc n) zs v e = copies_turned n zs ∙ ap (λ ys. ys ++ kinds.copies n zs) e ∙ ap (λ ys. encode v ++ ys) (copies_same n zs v e)

pub holds : (b : Bool) → T b → b ≡ true
holds true t = refl
holds false t = absurd t

pub same_number : (n : ℕ) → (n == n) ≡ true
same_number n = holds (n == n) (eqb_refl n)

below_or_not : (n bound : ℕ) → (n < bound) ⊎ (bound ≤ n)
below_or_not n zero = inr (omega arith)
below_or_not zero (suc bound) = inl (omega arith)
below_or_not (suc n) (suc bound) = go (below_or_not n bound)
  where
    go : (n < bound) ⊎ (bound ≤ n) → (suc n < suc bound) ⊎ (suc bound ≤ suc n)
    go (inl h) = inl (omega (arith, h))
    go (inr h) = inr (omega (arith, h))

-- of one among several
fewer : (m x : ℕ) → 1 ≤ m → m * x ≤ most → x ≤ most
fewer zero x h few = absurd (omega (arith, h))
fewer (suc m) x h few = omega (arith, few, one_more m x)

take_drop : {X : Type 0} (n : ℕ) (xs : List X) → take n xs ++ drop n xs ≡ xs
take_drop (suc n) (x ∷ xs) = ap (λ ys. x ∷ ys) (take_drop n xs)
take_drop _ _ = refl

past_taken : {X : Type 0} (n j : ℕ) (xs : List X) → n ≤ j → slice_get (take n xs) j ≡ None
past_taken zero j xs h = refl
past_taken (suc n) j [] h = refl
past_taken (suc n) zero (x ∷ xs) h = absurd (omega (arith, h))
past_taken (suc n) (suc j) (x ∷ xs) h = past_taken n j xs (omega (arith, h))

module _ (k : Numbering) (ts : Compounds) where
  cells_before : (n : ℕ) (v : CellType) → symbol_kinds.cells_of (take n ts) v ≤ symbol_kinds.cells_of ts v
  cells_before n v = subst (λ us. symbol_kinds.cells_of (take n ts) v ≤ symbol_kinds.cells_of us v) (take_drop n ts) (cells_more (take n ts) (drop n ts) v)

  -- a compound type is one of the first, if it has cells
  abbrev Reaches : ℕ → CellType → ℕ → Type 0
  Reaches bound (types.Array n) c = (n < bound) ⊎ (c ≡ 0)
  Reaches bound (types.Record n) c = (n < bound) ⊎ (c ≡ 0)
  Reaches bound v c = Unit {0}

  compound_reaches : (n j c : ℕ) → compound_cells (slice_get (take n ts) j) ≡ c → (j < n) ⊎ (c ≡ 0)
  compound_reaches n j c e = go (below_or_not j n)
    where
      go : (j < n) ⊎ (n ≤ j) → (j < n) ⊎ (c ≡ 0)
      go (inl h) = inl h
      go (inr h) = inr (sym e ∙ ap compound_cells (past_taken n j ts h))

  -- by the cells that it has among the first ones
  reaches : (n c : ℕ) (v : CellType) → symbol_kinds.cells_of (take n ts) v ≡ c → Reaches n v c
  reaches n c (types.Array j) e = compound_reaches n j c e
  reaches n c (types.Record j) e = compound_reaches n j c e
  reaches n c _ e = tt

  fields_before : (n : ℕ) (us : FieldTypes) (fs : List Field) (from end : ℕ) → FieldsAre k ts us fs from end → cells_in us ≤ most → fields_cells (take n ts) fs ≤ cells_in us
  fields_before n named.no_field_types fs from end h i = rw h.0 (omega arith)
  fields_before n (named.more_field_types x t us) fs from end h i =
      let a = cells_before n h.value_type in
      let b : symbol_kinds.cells_of ts h.value_type ≡ cells_of t = cells_same k ts t h.value_type h.belongs (omega (arith, i)) in
      let c = fields_before n us h.rest (symbol_kinds.plus from (symbol_kinds.cells_of ts h.value_type)) end h.others (omega (arith, i)) in
      rw h.first (omega (arith, a, b, c))

  module _ (counted : Counted ts) where
    -- the element of an array stands before it, if it has cells
    element_reaches : (n : ℕ) (s : Range) (t : Ty) (v : CellType) → slice_get ts n ≡ Some (array (array_type ts (range_on k s) v)) → TypeIs k ts t v → 1 ≤ length_of_range s → length_of_range s * cells_of t ≤ most → Reaches n v (cells_of t)
    element_reaches n s t v there belongs full few = reaches n (cells_of t) v (go (length_of_range s) refl full)
      where
        go : (m : ℕ) → length_of_range s ≡ m → 1 ≤ m → symbol_kinds.cells_of (take n ts) v ≡ cells_of t
        go zero e h = absurd (omega (arith, h))
        go (suc m) e h =
            let small : suc m * cells_of t ≤ most = subst (λ j. j * cells_of t ≤ most) e few in
            let one = one_more m (cells_of t) in
            let same : symbol_kinds.cells_of ts v ≡ cells_of t = cells_same k ts t v belongs (omega (arith, small, one)) in
            let many : count_of (range_on k s) ≡ suc m = count_same k s ∙ e in
            let c : times (symbol_kinds.cells_of ts v) (count_of (range_on k s)) ≤ count_of (range_on k s) * symbol_kinds.cells_of (take n ts) v = counted n (array (array_type ts (range_on k s) v)) there in
            let d : times (cells_of t) (suc m) ≤ suc m * symbol_kinds.cells_of (take n ts) v = subst (λ j. times (cells_of t) j ≤ j * symbol_kinds.cells_of (take n ts) v) many (subst (λ j. times j (count_of (range_on k s)) ≤ count_of (range_on k s) * symbol_kinds.cells_of (take n ts) v) same c) in
            let e2 : times (cells_of t) (suc m) ≡ suc m * cells_of t = ap (λ z. min z most) (mul_comm (cells_of t) (suc m)) ∙ capped (suc m * cells_of t) most small in
            let below = cells_before n v in
            let more = times_apart m (symbol_kinds.cells_of (take n ts) v) (cells_of t) (omega (arith, below, same)) in
            omega (arith, d, e2, more, one, below, same)

    array_least : (bound n : ℕ) (s : Range) (t : Ty) (v : CellType) → slice_get ts n ≡ Some (array (array_type ts (range_on k s) v)) → is_free (named.array_over s t) ≡ true → least_below ts n v ≡ encode (least t) → (n < bound) ⊎ (length_of_range s * cells_of t ≡ 0) →
        compound_below ts bound n ≡ encode_all (copies (length_of_range s) (least t))
    array_least bound n s t v there f inner r = go (below_or_not n bound) r
      where
        go : (n < bound) ⊎ (bound ≤ n) → (n < bound) ⊎ (length_of_range s * cells_of t ≡ 0) → compound_below ts bound n ≡ encode_all (copies (length_of_range s) (least t))
        go (inl lt) i = below_at ts bound n lt ∙ ap (compound_least (compound_below ts n)) there ∙ ap (λ m. kinds.copies m (least_below ts n v)) (count_same k s) ∙ copies_same (length_of_range s) (least_below ts n v) (least t) inner
        go (inr ge) (inl lt) = absurd (omega (arith, ge, lt))
        go (inr ge) (inr none) = below_past ts bound n ge ∙ sym (nothing_left (encode_all (copies (length_of_range s) (least t))) (least_length (named.array_over s t) f ∙ none))

    record_least : (bound n : ℕ) (us : FieldTypes) (fs : List Field) (cells : ℕ) → slice_get ts n ≡ Some (record_with fs cells) → are_free us ≡ true → fields_least (compound_below ts n) fs ≡ encode_fields (least_fields us) → (n < bound) ⊎ (cells_in us ≡ 0) →
        compound_below ts bound n ≡ encode_fields (least_fields us)
    record_least bound n us fs cells there f inner r = go (below_or_not n bound) r
      where
        go : (n < bound) ⊎ (bound ≤ n) → (n < bound) ⊎ (cells_in us ≡ 0) → compound_below ts bound n ≡ encode_fields (least_fields us)
        go (inl lt) i = below_at ts bound n lt ∙ ap (compound_least (compound_below ts n)) there ∙ inner
        go (inr ge) (inl lt) = absurd (omega (arith, ge, lt))
        go (inr ge) (inr none) = below_past ts bound n ge ∙ sym (nothing_left (encode_fields (least_fields us)) (fields_length us f ∙ none))

    -- all cells of a record are among those of the first ones
    record_reaches : (n : ℕ) (us : FieldTypes) (fs : List Field) (cells : ℕ) → slice_get ts n ≡ Some (record_with fs cells) → FieldsAre k ts us fs 0 cells → cells_in us ≤ most → cells_in us ≤ fields_cells (take n ts) fs
    record_reaches n us fs cells there each few =
        let z : 0 + cells_in us ≤ most = omega (arith, few) in
        let end : cells ≡ 0 + cells_in us = fields_end k ts us fs 0 cells each z in
        let c : cells ≤ fields_cells (take n ts) fs = counted n (record_with fs cells) there in
        omega (arith, c, end)

    mutual
      unfolding fields_least

      pub least_same : (bound : ℕ) (t : Ty) (v : CellType) → TypeIs k ts t v → is_free t ≡ true → cells_of t ≤ most → IsFull t → Reaches bound v (cells_of t) → least_below ts bound v ≡ encode (least t)
      least_same bound (named.ordinal s) v h f few full r = ap (least_below ts bound) h ∙ ap (λ z. z ∷ []) (least_of_same k s)
      least_same bound (named.set_over s) v h f few full r = ap (least_below ts bound) h
      least_same bound (named.array_over s t) v h f few full r =
          let free : is_free t ≡ true = right_true (is_indexed s t) (is_free t) f in
          let inner = least_same h.number t h.element h.belongs free (fewer (length_of_range s) (cells_of t) full.0 few) full.1 (element_reaches h.number s t h.element h.there h.belongs full.0 few) in
          ap (least_below ts bound) h.is ∙ array_least bound h.number s t h.element h.there f inner (subst (λ u. Reaches bound u (cells_of (named.array_over s t))) h.is r)
      least_same bound (named.record_with us) v h f few full r =
          let inner = fields_same h.number us h.fields 0 h.cells h.each (right_true (are_few (cells_in us)) (are_free us) f) few full (record_reaches h.number us h.fields h.cells h.there h.each few) in
          ap (least_below ts bound) h.is ∙ record_least bound h.number us h.fields h.cells h.there (right_true (are_few (cells_in us)) (are_free us) f) inner (subst (λ u. Reaches bound u (cells_of (named.record_with us))) h.is r)
      least_same bound x v h f few full r = absurd (let bad : false ≡ true = f in cc)

      fields_same : (n : ℕ) (us : FieldTypes) (fs : List Field) (from end : ℕ) → FieldsAre k ts us fs from end → are_free us ≡ true → cells_in us ≤ most → AreFull us → cells_in us ≤ fields_cells (take n ts) fs → fields_least (compound_below ts n) fs ≡ encode_fields (least_fields us)
      fields_same n named.no_field_types fs from end h f few full c = ap (fields_least (compound_below ts n)) h.0
      fields_same n (named.more_field_types x t us) fs from end h f few full c =
          let g : Field = record { name = x; value_type = h.value_type; offset = from } in
          let less = cells_before n h.value_type in
          let same : symbol_kinds.cells_of ts h.value_type ≡ cells_of t = cells_same k ts t h.value_type h.belongs (omega (arith, few)) in
          let rest = fields_before n us h.rest (symbol_kinds.plus from (symbol_kinds.cells_of ts h.value_type)) end h.others (omega (arith, few)) in
          let all : cells_of t + cells_in us ≤ symbol_kinds.cells_of (take n ts) h.value_type + fields_cells (take n ts) h.rest = subst (λ gs. cells_of t + cells_in us ≤ fields_cells (take n ts) gs) h.first c in
          let one : least_below ts n h.value_type ≡ encode (least t) = least_same n t h.value_type h.belongs (left_true (is_free t) (are_free us) f) (omega (arith, few)) full.0 (reaches n (cells_of t) h.value_type (omega (arith, all, less, same, rest))) in
          let others = fields_same n us h.rest (symbol_kinds.plus from (symbol_kinds.cells_of ts h.value_type)) end h.others (right_true (is_free t) (are_free us) f) (omega (arith, few)) full.1 (omega (arith, all, less, same)) in
          ap (fields_least (compound_below ts n)) h.first ∙ ap (λ ys. ys ++ fields_least (compound_below ts n) h.rest) one ∙ ap (λ ys. encode (least t) ++ ys) others

    -- the cells of a variable are those of its least value
    there_reaches : (t : Ty) (v : CellType) → TypeIs k ts t v → Reaches (length ts) v (cells_of t)
    there_reaches (named.array_over s t) v h = rw h.is (inl (slice_get_within ts h.number _ h.there))
    there_reaches (named.record_with us) v h = rw h.is (inl (slice_get_within ts h.number _ h.there))
    there_reaches x v h = rw h tt

    pub least_laid : (t : Ty) (v : CellType) → TypeIs k ts t v → is_free t ≡ true → cells_of t ≤ most → IsFull t → kinds.least ts v ≡ encode (least t)
    unfolding kinds.least
    least_laid t v h f few full = least_same (length ts) t v h f few full (there_reaches t v h)
