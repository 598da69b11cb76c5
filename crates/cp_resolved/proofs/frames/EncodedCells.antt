-- The cells with which a variable begins are those of the least value of its type, and as many as are counted for it.
use Rattle.std.proofs.Common.{◌≡◌, ℕ, zero, suc, ◌+◌, ◌*◌, ◌<◌, ◌==◌, ℤ, Bool, true, false, if◌then◌else◌, List, [], ◌∷◌, ◌++◌, length, Some, slice_get, refl, sym, ap, subst, ◌∙◌, arith, append_assoc, append-nil, length-append}
use Rattle.cp_resolved.proofs.Words.{Each, min, eqb-true, eqb-false, slice_get_within, CellType, Ty, FieldTypes, length_of_range, least_fields}
use Rattle.cp_symbols.specs.declared.kinds.CellType.TheVariants as types
use Rattle.cp_symbols.specs.Kinds as symbol_kinds
use Rattle.cp_layout.specs.Kinds as kinds
use Rattle.cp_symbols.specs.Kinds.{Field, Compound, array, record_with, Compounds, compound_cells, count_of, most, plus, times}
use Rattle.cp_layout.specs.Kinds.{array_type, least_by, fields_least, compound_least, compound_below}
use Rattle.cp_meaning.specs.Types as named
use Rattle.cp_meaning.specs.Values as values
use Rattle.cp_resolved.specs.InStep.{Numbering, range_on, TypeIs, FieldsAre}
use Rattle.cp_resolved.specs.Encoded.{encode, encode_all, encode_fields}
use Rattle.cp_resolved.proofs.frames.Cells.{count_same}
use Rattle.cp_resolved.proofs.frames.LeastCells.{least_of_same as range_least}
use Rattle.cp_resolved.proofs.systems.Sizes.{copies_length}

-- ---- types that hold earlier ones alone

-- one of the first
abbrev pub IsBelow : ℕ → CellType → Type 0
IsBelow n (types.Array m) = m < n
IsBelow n (types.Record m) = m < n
IsBelow n v = Unit {0}

abbrev pub AreBelow : ℕ → List Field → Type 0
AreBelow n fs = Each (λ (f : Field). IsBelow n f.value_type) fs

abbrev pub HoldsBelow : ℕ → Compound → Type 0
HoldsBelow n (array a) = IsBelow n a.element
HoldsBelow n (record_with fs cells) = AreBelow n fs

abbrev pub HoldEarlier : Compounds → Type 0
HoldEarlier ts = (n : ℕ) (c : Compound) → slice_get ts n ≡ Some c → HoldsBelow n c

module _ (f g : ℕ → List ℤ) (n : ℕ) (same : (m : ℕ) → m < n → f m ≡ g m) where
  type_same : (v : CellType) → IsBelow n v → least_by f v ≡ least_by g v
  type_same (types.Array m) h = same m h
  type_same (types.Record m) h = same m h
  type_same _ h = refl

  fields_same : (fs : List Field) → AreBelow n fs → fields_least f fs ≡ fields_least g fs
  unfolding fields_least
  fields_same [] h = refl
  fields_same (x ∷ fs) h = rw (type_same x.value_type h.0) (ap (λ zs. least_by g x.value_type ++ zs) (fields_same fs h.1))

  compound_same : (c : Compound) → HoldsBelow n c → compound_least f (Some c) ≡ compound_least g (Some c)
  compound_same (array a) h = ap (λ zs. kinds.copies (count_of a.index) zs) (type_same a.element h)
  compound_same (record_with fs cells) h = fields_same fs h

pub less : (n bound : ℕ) → n < suc bound → (n ≡ bound → ⊥) → n < bound
less zero zero lt other = absurd (other refl)
less zero (suc bound) lt other = omega arith
less (suc n) zero lt other = absurd (omega (arith, lt))
less (suc n) (suc bound) lt other = let h = less n bound (omega (arith, lt)) (λ e. other (ap suc e)) in omega (arith, h)

module _ (ts : Compounds) where
  here : (n : ℕ) → compound_below ts (suc n) n ≡ compound_least (compound_below ts n) (slice_get ts n)
  unfolding compound_below
  here n = go (n == n) refl
    where
      go : (b : Bool) → (n == n) ≡ b → (if b then compound_least (compound_below ts n) (slice_get ts n) else compound_below ts n n) ≡ compound_least (compound_below ts n) (slice_get ts n)
      go true e = refl
      go false e = absurd (eqb-false n n e refl)

  further : (bound n : ℕ) → n < bound → compound_below ts (suc bound) n ≡ compound_below ts bound n
  unfolding compound_below
  further bound n lt = go (n == bound) refl
    where
      go : (b : Bool) → (n == bound) ≡ b → (if b then compound_least (compound_below ts bound) (slice_get ts bound) else compound_below ts bound n) ≡ compound_below ts bound n
      go false e = refl
      go true e = let same : n ≡ bound = eqb-true n bound e in absurd (omega (arith, same, lt))

  below : (bound n : ℕ) → n < bound → compound_below ts bound n ≡ compound_least (compound_below ts n) (slice_get ts n)
  below zero n lt = absurd (omega arith)
  below (suc bound) n lt = go (n == bound) refl (below bound n)
    where
      go : (b : Bool) → (n == bound) ≡ b → (n < bound → compound_below ts bound n ≡ compound_least (compound_below ts n) (slice_get ts n)) → compound_below ts (suc bound) n ≡ compound_least (compound_below ts n) (slice_get ts n)
      go true e rest = let same : bound ≡ n = sym (eqb-true n bound e) in subst (λ m. compound_below ts (suc m) n ≡ compound_least (compound_below ts n) (slice_get ts n)) (sym same) (here n)
      go false e rest = let lt' : n < bound = less n bound lt (eqb-false n bound e) in further bound n lt' ∙ rest lt'

  -- each compound type begins as its parts do
  compound_least_is : HoldEarlier ts → (n : ℕ) (c : Compound) → slice_get ts n ≡ Some c → compound_below ts (length ts) n ≡ compound_least (compound_below ts (length ts)) (Some c)
  compound_least_is h n c e =
      let lt : n < length ts = slice_get_within ts n c e in
      below (length ts) n lt ∙ ap (compound_least (compound_below ts n)) e
      ∙ compound_same (compound_below ts n) (compound_below ts (length ts)) n (λ m less. below n m less ∙ sym (below (length ts) m (omega (arith, less, lt)))) c (h n c e)

-- ---- types without components inside

abbrev mutual
  pub IsValued : Ty → Type 0
  IsValued (named.array_over r t) = IsValued t
  IsValued (named.record_with us) = AreValued us
  IsValued (named.component_of n) = ⊥
  IsValued _ = Unit {0}

  pub AreValued : FieldTypes → Type 0
  AreValued named.no_field_types = Unit {0}
  AreValued (named.more_field_types x t us) = IsValued t × AreValued us

-- ---- least values

copies_last : (n : ℕ) (zs : List ℤ) → zs ++ kinds.copies n zs ≡ kinds.copies n zs ++ zs
unfolding kinds.copies
copies_last zero zs = append-nil zs
copies_last (suc n) zs = sym (append_assoc zs (kinds.copies n zs) zs) ∙ ap (λ ys. ys ++ zs) (copies_last n zs)

copies_encoded : (n : ℕ) (w : values.Value) → kinds.copies n (encode w) ≡ encode_all (values.copies n w)
unfolding kinds.copies
copies_encoded zero w = refl
copies_encoded (suc n) w = sym (copies_last n (encode w)) ∙ ap (λ zs. encode w ++ zs) (copies_encoded n w)

none_before : (n : ℕ) → 0 + n ≡ n
none_before n = omega arith

-- a product of what has stopped stops too
pub times_stopped : (n m : ℕ) → times (min m most) n ≡ min (n * m) most
times_stopped zero m = let a : min m most * 0 ≡ 0 = omega arith in rw a (omega arith)
times_stopped (suc n) m =
    let a : min m most * suc n ≡ min m most + min m most * n = omega arith in
    let e : min (min m most * n) most ≡ min (n * m) most = times_stopped n m in
    let b : suc n * m ≡ m + n * m = omega arith in
    rw (a, b) (omega (arith, e))

module _ (k : Numbering) (ts : Compounds) (earlier : HoldEarlier ts) where
  abbrev cells : CellType → List ℤ
  cells v = least_by (compound_below ts (length ts)) v

  mutual
    unfolding fields_least

    cells_encoded : (t : Ty) (v : CellType) → IsValued t → TypeIs k ts t v → cells v ≡ encode (values.least t)
    cells_encoded (named.ordinal r) v w h = ap cells h ∙ ap (λ z. z ∷ []) (range_least k r)
    cells_encoded (named.array_over r t) v w h =
        ap cells h.is ∙ compound_least_is ts earlier h.number (array (array_type ts (range_on k r) h.element)) h.there
        ∙ ap (λ n. kinds.copies n (cells h.element)) (count_same k r) ∙ ap (kinds.copies (length_of_range r)) (cells_encoded t h.element w h.belongs) ∙ copies_encoded (length_of_range r) (values.least t)
    cells_encoded (named.record_with us) v w h =
        ap cells h.is ∙ compound_least_is ts earlier h.number (record_with h.fields h.cells) h.there ∙ fields_encoded us h.fields 0 h.cells w h.each
    cells_encoded (named.component_of n) v w h = absurd w
    cells_encoded _ v w h = ap cells h

    fields_encoded : (us : FieldTypes) (fs : List Field) (n end : ℕ) → AreValued us → FieldsAre k ts us fs n end → fields_least (compound_below ts (length ts)) fs ≡ encode_fields (least_fields us)
    fields_encoded named.no_field_types fs n end w h = ap (fields_least (compound_below ts (length ts))) h.0
    fields_encoded (named.more_field_types x t us) fs n end w h =
        ap (fields_least (compound_below ts (length ts))) h.first ∙ ap (λ zs. zs ++ fields_least (compound_below ts (length ts)) h.rest) (cells_encoded t h.value_type w.0 h.belongs)
        ∙ ap (λ zs. encode (values.least t) ++ zs) (fields_encoded us h.rest (plus n (symbol_kinds.cells_of ts h.value_type)) end w.1 h.others)

  mutual
    unfolding fields_least

    cells_counted : (t : Ty) (v : CellType) → TypeIs k ts t v → symbol_kinds.cells_of ts v ≡ min (length (cells v)) most
    cells_counted (named.array_over r t) v h =
        let n : ℕ = count_of (range_on k r) in
        let e : cells v ≡ kinds.copies n (cells h.element) = ap cells h.is ∙ compound_least_is ts earlier h.number (array (array_type ts (range_on k r) h.element)) h.there in
        let c : symbol_kinds.cells_of ts v ≡ times (symbol_kinds.cells_of ts h.element) n = ap (symbol_kinds.cells_of ts) h.is ∙ ap compound_cells h.there in
        c ∙ ap (λ m. times m n) (cells_counted t h.element h.belongs) ∙ times_stopped n (length (cells h.element)) ∙ ap (λ m. min m most) (sym (ap (λ (zs : List ℤ). length zs) e ∙ copies_length n (cells h.element)))
    cells_counted (named.record_with us) v h =
        let e : cells v ≡ fields_least (compound_below ts (length ts)) h.fields = ap cells h.is ∙ compound_least_is ts earlier h.number (record_with h.fields h.cells) h.there in
        ap (symbol_kinds.cells_of ts) h.is ∙ ap compound_cells h.there ∙ fields_counted us h.fields 0 h.cells 0 (omega arith) h.each ∙ ap (λ m. min m most) (none_before (length (fields_least (compound_below ts (length ts)) h.fields)) ∙ sym (ap (λ (zs : List ℤ). length zs) e))
    cells_counted x v h = rw h (omega arith)

    fields_counted : (us : FieldTypes) (fs : List Field) (n end m : ℕ) → n ≡ min m most → FieldsAre k ts us fs n end → end ≡ min (m + length (fields_least (compound_below ts (length ts)) fs)) most
    fields_counted named.no_field_types fs n end m i h = rw h.0 (let e : n ≡ end = h.1 in omega (arith, e, i))
    fields_counted (named.more_field_types x t us) fs n end m i h =
        let c : symbol_kinds.cells_of ts h.value_type ≡ min (length (cells h.value_type)) most = cells_counted t h.value_type h.belongs in
        let j : plus n (symbol_kinds.cells_of ts h.value_type) ≡ min (m + length (cells h.value_type)) most = omega (arith, i, c) in
        let e : end ≡ min (m + length (cells h.value_type) + length (fields_least (compound_below ts (length ts)) h.rest)) most = fields_counted us h.rest (plus n (symbol_kinds.cells_of ts h.value_type)) end (m + length (cells h.value_type)) j h.others in
        let l = length-append (cells h.value_type) (fields_least (compound_below ts (length ts)) h.rest) in
        rw h.first (omega (arith, e, l))

  pub least_encoded : (t : Ty) (v : CellType) → IsValued t → TypeIs k ts t v → kinds.least ts v ≡ encode (values.least t)
  unfolding kinds.least
  least_encoded t v w h = cells_encoded t v w h

  pub least_counted : (t : Ty) (v : CellType) → TypeIs k ts t v → symbol_kinds.cells_of ts v ≡ min (length (kinds.least ts v)) most
  unfolding kinds.least
  least_counted t v h = cells_counted t v h
