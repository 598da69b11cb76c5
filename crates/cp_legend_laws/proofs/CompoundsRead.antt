-- An array or a record is read by what its type holds: what is told of it does not depend on how many types there are after its own.
use Rattle.std.proofs.Common.{◌≡◌, ℕ, zero, suc, ◌<◌, ◌==◌, ℤ, Bool, true, false, if◌then◌else◌, List, [], ◌∷◌, ◌++◌, length, map, Option, Some, slice_get, refl, sym, ap, ap₂, ◌∙◌, arith}
use Rattle.cp_legend_laws.proofs.Words.{eqb-true, eqb-false, slice_get_within, Name, CellType, Compound, Compounds, array}
use Rattle.cp_symbols.specs.declared.kinds.ArrayType.{ArrayType}
use Rattle.cp_symbols.specs.declared.kinds.CellType.TheVariants as types
use Rattle.cp_symbols.specs.Kinds.{Field, record_with, count_of, plus, times}
use Rattle.cp_resolved.proofs.frames.EncodedCells.{IsBelow, AreBelow, HoldsBelow, HoldEarlier, less}
use Rattle.cp_legend.specs.Values.{Value, list, record_of, values_of, members_of, value_by, elements_below, field_value, compound_value, compound_below}

module _ (cs : List Name) (ts : Compounds) (cells : List ℤ) where
  module _ (f g : ℕ → ℕ → Value) (n : ℕ) (same : (m : ℕ) → m < n → (at : ℕ) → f m at ≡ g m at) where
    type_same : (v : CellType) (at : ℕ) → IsBelow n v → value_by cs cells f v at ≡ value_by cs cells g v at
    type_same (types.Array m) at h = same m h at
    type_same (types.Record m) at h = same m h at
    type_same _ at h = refl

    elements_same : (a : ArrayType) (at count : ℕ) → IsBelow n a.element → elements_below cs cells f a at count ≡ elements_below cs cells g a at count
    unfolding elements_below
    elements_same a at zero h = refl
    elements_same a at (suc count) h = ap₂ (λ (xs : List Value) (v : Value). xs ++ v ∷ []) (elements_same a at count h) (type_same a.element (plus at (times count a.element_cells)) h)

    fields_same : (fs : List Field) (at : ℕ) → AreBelow n fs → map (field_value cs cells f at) fs ≡ map (field_value cs cells g at) fs
    fields_same [] at h = refl
    fields_same (x ∷ fs) at h = ap₂ (λ (v : Value) (xs : List (List ℕ × Value)). (x.name, v) ∷ xs) (type_same x.value_type (plus at x.offset) h.0) (fields_same fs at h.1)

    compound_same : (c : Compound) (at : ℕ) → HoldsBelow n c → compound_value cs cells f (Some c) at ≡ compound_value cs cells g (Some c) at
    compound_same (array a) at h = ap (λ (xs : List Value). list (values_of xs)) (elements_same a at (count_of a.index) h)
    compound_same (record_with fs many) at h = ap (λ (xs : List (List ℕ × Value)). record_of (members_of xs)) (fields_same fs at h)

  abbrev pub below : ℕ → ℕ → ℕ → Value
  below = compound_below cs ts cells

  here : (n at : ℕ) → below (suc n) n at ≡ compound_value cs cells (below n) (slice_get ts n) at
  unfolding compound_below
  here n at = go (n == n) refl
    where
      go : (b : Bool) → (n == n) ≡ b → (if b then compound_value cs cells (below n) (slice_get ts n) at else below n n at) ≡ compound_value cs cells (below n) (slice_get ts n) at
      go true e = refl
      go false e = absurd (eqb-false n n e refl)

  further : (bound n at : ℕ) → n < bound → below (suc bound) n at ≡ below bound n at
  unfolding compound_below
  further bound n at lt = go (n == bound) refl
    where
      go : (b : Bool) → (n == bound) ≡ b → (if b then compound_value cs cells (below bound) (slice_get ts bound) at else below bound n at) ≡ below bound n at
      go false e = refl
      go true e = let same : n ≡ bound = eqb-true n bound e in absurd (omega (arith, same, lt))

  by_itself : (bound n at : ℕ) → n < bound → below bound n at ≡ compound_value cs cells (below n) (slice_get ts n) at
  by_itself zero n at lt = absurd (omega arith)
  by_itself (suc bound) n at lt = go (n == bound) refl (by_itself bound n at)
    where
      go : (b : Bool) → (n == bound) ≡ b → (n < bound → below bound n at ≡ compound_value cs cells (below n) (slice_get ts n) at) → below (suc bound) n at ≡ compound_value cs cells (below n) (slice_get ts n) at
      go true e rest = ap (λ (m : ℕ). below (suc m) n at) (sym (eqb-true n bound e)) ∙ here n at
      go false e rest = let lower : n < bound = less n bound lt (eqb-false n bound e) in further bound n at lower ∙ rest lower

  pub compound_read : HoldEarlier ts → (n : ℕ) (c : Compound) (at : ℕ) → slice_get ts n ≡ Some c → below (length ts) n at ≡ compound_value cs cells (below (length ts)) (Some c) at
  compound_read h n c at e =
      let lt : n < length ts = slice_get_within ts n c e in
      by_itself (length ts) n at lt ∙ ap (λ (o : Option Compound). compound_value cs cells (below n) o at) e
      ∙ compound_same (below n) (below (length ts)) n (λ m lower there. by_itself n m there lower ∙ sym (by_itself (length ts) m there (omega (arith, lower, lt)))) c at (h n c e)
