-- Values that are gathered from cells: loops over elements, fields and members, and types that hold earlier ones alone.
use Rattle.std.proofs.Common.{◌≡◌, ◌⊎◌, inl, inr, Bool, cond, ℕ, zero, suc, ◌+◌, ◌<◌, ◌≤◌, ℤ, List, [], ◌∷◌, ◌++◌, length, get_or, take, drop, map, slice_get, refl, ap, ◌∙◌, add-one, arith}
use Rattle.std.proofs.Math.Seq.{drop-cons, take-suc}
use Rattle.std.proofs.lemmas.List.{drop_all, take_all, map-append}
use Rattle.std.proofs.lemmas.List.Sums.{sum_by-cons}
use Rattle.std.specs.List.{count_by}
use Rattle.std.proofs.lemmas.Bool.Decides.{nat_tests}
use Rattle.cp_symbols.specs.declared.kinds.ArrayType.{ArrayType}
use Rattle.cp_symbols.specs.declared.kinds.CellBase.{CellBase}
use Rattle.cp_symbols.specs.declared.kinds.CellType.{CellType}
use Rattle.cp_symbols.specs.declared.kinds.CellType.TheVariants as types
use Rattle.cp_symbols.specs.declared.symbols.FieldSymbol as code_field
use Rattle.cp_symbols.specs.Kinds.{Compounds, plus, times}
use Rattle.cp_symbols.specs.Symbols.{field_symbol_seen}
use Rattle.cp_legend.specs.Values.{Value, list, no_values, value_by, value_below, field_value, elements_below, compound_value, compound_below, members_below, member_value}

module _ (names : List (List ℕ)) (ts : Compounds) (cells : List ℤ) where
  pub compound_inside : (bound n at : ℕ) → n < bound → compound_below names ts cells bound n at ≡ compound_value names cells (compound_below names ts cells n) (slice_get ts n) at
  unfolding compound_below
  compound_inside zero n at h = grind (arith, nat_tests)
  compound_inside (suc bound) n at h = let below = compound_inside bound n at in grind (arith, nat_tests, below)

  pub compound_outside : (bound n at : ℕ) → bound ≤ n → compound_below names ts cells bound n at ≡ list no_values
  unfolding compound_below
  compound_outside zero n at h = refl
  compound_outside (suc bound) n at h = let below = compound_outside bound n at in grind (arith, nat_tests, below)

  -- an array or a record that is none of the first ones
  pub compound_none : (bound n at : ℕ) (s : CellType) → bound ≤ n → (s ≡ types.Array n) ⊎ (s ≡ types.Record n) → value_below names ts cells bound s at ≡ list no_values
  compound_none bound n at s h (inl e) = ap (λ (u : CellType). value_below names ts cells bound u at) e ∙ compound_outside bound n at h
  compound_none bound n at s h (inr e) = ap (λ (u : CellType). value_below names ts cells bound u at) e ∙ compound_outside bound n at h

module _ (names : List (List ℕ)) (cells : List ℤ) (compound : ℕ → ℕ → Value) (at : ℕ) where
  pub elements_step : (a : ArrayType) (n : ℕ) → elements_below names cells compound a at n ++ value_by names cells compound a.element (plus at (times n a.element_cells)) ∷ [] ≡ elements_below names cells compound a at (n + 1)
  unfolding elements_below
  elements_step a n = rw add-one refl

  pub elements_none : (a : ArrayType) → elements_below names cells compound a at 0 ≡ []
  unfolding elements_below
  elements_none a = refl

  module _ (xs : List code_field.FieldSymbol) (i : ℕ) where
    pub fields_step : (x : code_field.FieldSymbol) → i < length xs → x ≡ get_or xs i x → map (field_value names cells compound at) (map field_symbol_seen (take (i + 1) xs)) ≡ map (field_value names cells compound at) (map field_symbol_seen (take i xs)) ++ field_value names cells compound at (field_symbol_seen x) ∷ []
    fields_step x within here = rw (add-one, take-suc xs i x within, ← here) (ap (map (field_value names cells compound at)) (map-append field_symbol_seen (take i xs) (x ∷ [])) ∙ map-append (field_value names cells compound at) (map field_symbol_seen (take i xs)) (field_symbol_seen x ∷ []))

    pub fields_none : length xs ≤ i → map (field_value names cells compound at) (map field_symbol_seen (take i xs)) ≡ map (field_value names cells compound at) (map field_symbol_seen xs)
    fields_none h = rw (take_all i xs h) refl

module _ (names : List (List ℕ)) (b : CellBase) (cells : List ℤ) (at : ℕ) where
  pub members_step : (n : ℕ) → members_below names b cells at n ++ member_value names b cells at n ≡ members_below names b cells at (n + 1)
  unfolding members_below
  members_step n = rw add-one refl

  pub members_none : members_below names b cells at 0 ≡ []
  unfolding members_below
  members_none = refl

-- ---- counts

module _ {A B : Type 0} (f : B → Bool) (h : A → B) (xs : List A) (i : ℕ) where
  pub counted_step : (x : A) → i < length xs → x ≡ get_or xs i x → count_by f (map h (drop i xs)) ≡ cond (f (h x)) 1 0 + count_by f (map h (drop (i + 1) xs))
  counted_step x within here = rw (add-one, drop-cons xs i x within, ← here) (sum_by-cons (λ y. cond (f y) 1 0) (h x) (map h (drop (suc i) xs)))

  pub counted_none : length xs ≤ i → count_by f (map h (drop i xs)) ≡ 0
  counted_none none = rw (drop_all i xs none) refl
