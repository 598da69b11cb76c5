-- The numbers of states, by their rows.
use Rattle.std.proofs.Common.{◌≡◌, ◌⊎◌, inl, inr, ◌<◌, ◌≤◌, ◌∙◌, ◌++◌, ℕ, zero, suc, Bool, true, false, if◌then◌else◌, List, [], ◌∷◌, Option, None, Some, is_some, length, get_or, refl, sym, ap, subst, arith}
use Rattle.std.specs.Prelude.{nat_eq, position, slice_get}
use Rattle.std.specs.Map.{keys_of, lookup}
use Rattle.cp_ends.proofs.Vocabulary.{bytes_decides, same_Some, slice_get_cases, pointwise, Tables, Machine, has, States}
use Rattle.std.proofs.lemmas.List.Quantifiers.{position-Some}
use Rattle.cp_ends.specs.declared.row.HalvedRow.{HalvedRow}
use Rattle.cp_ends.specs.Rows.{IsHalvedRow, IsStated}
use Rattle.cp_ends.proofs.Halves.{one_machine}
use Rattle.cp_ends.specs.Holds.{same_key, AreStates, IsNumberOf}
use Rattle.cp_ends.proofs.Keeping.{Entry, Stated, found_same, owned, state_of}
use Rattle.cp_ends.proofs.named.Keys.{key_self}

pub at_end : {X : Type 0} (xs : List X) (x : X) → slice_get (xs ++ x ∷ []) (length xs) ≡ Some x
at_end [] x = refl
at_end (y ∷ xs) x = at_end xs x

-- what has a number is found
pub numbered_known : (xs : List Stated) (m : Machine) (number : ℕ) → IsNumberOf xs m (Some number) → has same_key xs m ≡ true
numbered_known [] m number is = absurd (none is.0 is.1)
  where
    none : (x : Stated) → slice_get [] number ≡ Some x → ⊥
    none x e = cc
numbered_known (y ∷ xs) m zero is = first (same_key y.0 m) (ap (λ (x : Stated). same_key x.0 m) (same_Some y is.0 is.1) ∙ ap (λ k. same_key k m) is.2 ∙ key_self m)
  where
    first : (b : Bool) → b ≡ true → (if b then true else has same_key xs m) ≡ true
    first true e = refl
    first false e = absurd (cc)
numbered_known (y ∷ xs) m (suc number) is = later (same_key y.0 m) (numbered_known xs m number is)
  where
    later : (b : Bool) → has same_key xs m ≡ true → (if b then true else has same_key xs m) ≡ true
    later true e = refl
    later false e = e

key_at : (es : List Entry) (j : ℕ) (e : Entry) (d : HalvedRow) → slice_get es j ≡ Some e → get_or (keys_of es) j d ≡ e.0
key_at [] j e d at = absurd (cc)
key_at (x ∷ es) zero e d at = ap (λ (y : Entry). y.0) (same_Some x e at)
key_at (x ∷ es) (suc j) e d at = key_at es j e d at

long : (es : List Entry) → length (keys_of es) ≡ length es
long [] = refl
long (e ∷ es) = ap suc (long es)

module _ (r : Tables) (kept : States) (states : List Stated) (held : AreStates r kept states) (m : Machine) (row : HalvedRow) (is : IsStated r kept row.numbers m) where
  here : (j : ℕ) → position (λ k. pointwise nat_eq row.numbers k.numbers) (keys_of kept.known.entries) ≡ Some j → IsNumberOf states m (Some j)
  here j at = by (slice_get_cases kept.known.entries j).1
    where
      found : (j < length (keys_of kept.known.entries)) × (pointwise nat_eq row.numbers (get_or (keys_of kept.known.entries) j row).numbers ≡ true) × ((k : ℕ) → k < j → pointwise nat_eq row.numbers (get_or (keys_of kept.known.entries) k row).numbers ≡ false)
      found = position-Some (λ k. pointwise nat_eq row.numbers k.numbers) (keys_of kept.known.entries) j row at

      by : ((e : Entry) × (j < length kept.known.entries) × (slice_get kept.known.entries j ≡ Some e) × (get_or kept.known.entries j e ≡ e)) ⊎ ((length kept.known.entries ≤ j) × (slice_get kept.known.entries j ≡ None)) → IsNumberOf states m (Some j)
      by (inr past) = let lt = found.0 in let le = past.0 in let same = long kept.known.entries in absurd (omega (arith, lt, le, same))
      by (inl e) =
          let x = state_of r kept states held j e.0 e.2 in
          let same : row.numbers ≡ e.0.0.numbers = (bytes_decides row.numbers e.0.0.numbers).0 (ap (λ (k : HalvedRow). pointwise nat_eq row.numbers k.numbers) (sym (key_at kept.known.entries j e.0 row e.2)) ∙ found.1) in
          (x.0, x.1, one_machine kept r held.cached.placed e.0.0.numbers e.0.0.numbers x.0.0 m x.2.it is.it x.2.row (subst (λ l. IsHalvedRow kept l m) same is.row))

  pub numbered : (o : Option ℕ) → o ≡ position (λ k. pointwise nat_eq row.numbers k.numbers) (keys_of kept.known.entries) → is_some o ≡ is_some (lookup (λ k. pointwise nat_eq row.numbers k.numbers) kept.known.entries) → IsNumberOf states m o
  numbered None index found = sym (found_same r kept held.cached.placed kept.known.entries states row m held.rows (owned r kept states held) is) ∙ sym found
  numbered (Some j) index found = here j (sym index)
