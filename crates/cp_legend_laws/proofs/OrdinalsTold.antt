-- Ordinal values and the members of sets are told by the names of their own constants.
use Rattle.std.proofs.Common.{◌≡◌, ℕ, zero, suc, ◌≤◌, ℤ, pos, negsuc, Bool, true, false, if◌then◌else◌, List, [], ◌∷◌, length, map, Option, None, slice_get, refl, sym, ap, ap₂, arith}
use Rattle.std.specs.Fmt.{signed_decimal}
use Rattle.std.specs.Prelude.{◌-◌, int_le}
use Rattle.cp_legend_laws.proofs.Words.{Name, Numbering, Program}
use Rattle.cp_meaning.specs.Operations.{range_of_base}
use Rattle.cp_meaning.specs.Types.{Base, integers, booleans, characters, enumerated, is_within}
use Rattle.cp_resolved.specs.Enumerations.{constant_names}
use Rattle.cp_resolved.specs.InStep.{base_of}
use Rattle.cp_resolved.specs.Openings.{numbering_of}
use Rattle.cp_symbols.specs.Kinds.{plus}
use Rattle.cp_legend.specs.Values as told
use Rattle.cp_legend.specs.Values.{constant_text, ordinal_value}
use Rattle.cp_legend_laws.specs.ValuesTold.{members_told, ordinal_told}
use Rattle.cp_legend_laws.proofs.KnownConstants.{KnownBase}

nothing_there : (xs : List Name) (n : ℕ) → length xs ≤ n → slice_get xs n ≡ None
nothing_there [] n le = refl
nothing_there (x ∷ xs) zero le = absurd (omega (arith, le))
nothing_there (x ∷ xs) (suc n) le = nothing_there xs n (omega (arith, le))

module _ (p : Program) where
  abbrev cs : List Name
  cs = constant_names p

  abbrev k : Numbering
  k = numbering_of p

  -- by the test whether it is one of the constants
  constant_told : (at : ℕ) (xs : List Name) (n : ℕ) → KnownBase cs k.firsts (enumerated at xs) → ordinal_value cs (base_of k (enumerated at xs)) (pos n) ≡ ordinal_told (enumerated at xs) (pos n)
  constant_told at xs n known = ap told.named (go (int_le (pos n) (pos (length xs - 1))) refl)
    where
      go : (b : Bool) → int_le (pos n) (pos (length xs - 1)) ≡ b → (if b then constant_text (slice_get cs (plus (k.firsts at) n)) (pos n) else signed_decimal (pos n)) ≡ constant_text (slice_get xs n) (pos n)
      go true e =
          let some = known.some in
          let le : n ≤ length xs - 1 = search (arith, e) in
          ap (λ (o : Option Name). constant_text o (pos n)) (known.there n (omega (arith, le, some)))
      go false e =
          let le : length xs ≤ n = search (arith, e) in
          ap (λ (o : Option Name). constant_text o (pos n)) (sym (nothing_there xs n le))

  pub number_told : (b : Base) (z : ℤ) → KnownBase cs k.firsts b → is_within (range_of_base b) z ≡ true → ordinal_value cs (base_of k b) z ≡ ordinal_told b z
  number_told integers z known h = refl
  number_told booleans z known h = refl
  number_told characters z known h = refl
  number_told (enumerated at xs) (pos n) known h = constant_told at xs n known
  number_told (enumerated at xs) (negsuc n) known h = absurd (let w : false ≡ true = h in cc)

  member_told : (b : Base) (n : ℕ) → KnownBase cs k.firsts b → ordinal_value cs (base_of k b) (pos n) ≡ ordinal_told b (pos n)
  member_told integers n known = refl
  member_told booleans n known = refl
  member_told characters n known = refl
  member_told (enumerated at xs) n known = constant_told at xs n known

  pub all_members : (b : Base) (ns : List ℕ) → KnownBase cs k.firsts b → map (λ n. ordinal_value cs (base_of k b) (pos n)) ns ≡ members_told b ns
  all_members b [] known = refl
  all_members b (n ∷ ns) known = ap₂ (λ (v : told.Value) (vs : List told.Value). v ∷ vs) (member_told b n known) (all_members b ns known)
