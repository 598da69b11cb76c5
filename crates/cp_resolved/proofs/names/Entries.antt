-- The entries of a list that grows.
use Rattle.std.proofs.Common.{◌≡◌, ℕ, zero, suc, ◌<◌, ◌≤◌, List, [], ◌∷◌, ◌++◌, length, Some, None, slice_get, slice_index_or, refl, sym, ap, ◌⊎◌, inl, inr, arith}
use Rattle.std.proofs.lemmas.Option.{none-some, same_Some}

pub there : {X : Type 0} (xs : List X) (n : ℕ) → n < length xs → (x : X) × (slice_get xs n ≡ Some x)
there [] n h = absurd (omega arith)
there (x ∷ xs) zero h = (x, refl)
there (x ∷ xs) (suc n) h = there xs n (omega arith)

pub still_there : {X : Type 0} (xs ys : List X) (n : ℕ) (x : X) → slice_get xs n ≡ Some x → slice_get (xs ++ ys) n ≡ Some x
still_there [] ys n x e = absurd (none-some x e)
still_there (z ∷ xs) ys zero x e = e
still_there (z ∷ xs) ys (suc n) x e = still_there xs ys n x e

pub last_entry : {X : Type 0} (xs : List X) (y : X) → slice_get (xs ++ y ∷ []) (length xs) ≡ Some y
last_entry [] y = refl
last_entry (x ∷ xs) y = last_entry xs y

-- an entry of a list with one more is an earlier one or the last
pub last_or_before : {X : Type 0} (xs : List X) (y : X) (n : ℕ) (x : X) → slice_get (xs ++ y ∷ []) n ≡ Some x → (slice_get xs n ≡ Some x) ⊎ ((n ≡ length xs) × (x ≡ y))
last_or_before [] y zero x e = inr (refl, sym (same_Some y x e))
last_or_before [] y (suc n) x e = absurd (none-some x e)
last_or_before (z ∷ xs) y zero x e = inl e
last_or_before (z ∷ xs) y (suc n) x e = go (last_or_before xs y n x e)
  where
    go : (slice_get xs n ≡ Some x) ⊎ ((n ≡ length xs) × (x ≡ y)) → (slice_get (z ∷ xs) (suc n) ≡ Some x) ⊎ ((suc n ≡ length (z ∷ xs)) × (x ≡ y))
    go (inl h) = inl h
    go (inr h) = inr (ap suc h.0, h.1)

pub not_there : {X : Type 0} (xs : List X) (n : ℕ) → slice_get xs n ≡ None → length xs ≤ n
not_there [] n e = omega arith
not_there (x ∷ xs) zero e = absurd (none-some x (sym e))
not_there (x ∷ xs) (suc n) e = omega (arith, not_there xs n e)

pub past_there : {X : Type 0} (xs : List X) → slice_get xs (length xs) ≡ None
past_there [] = refl
past_there (x ∷ xs) = past_there xs

pub entry_at : {X : Type 0} (xs : List X) (n : ℕ) (d x : X) → slice_get xs n ≡ Some x → slice_index_or xs n d ≡ x
entry_at [] n d x e = absurd (none-some x e)
entry_at (y ∷ xs) zero d x e = same_Some y x e
entry_at (y ∷ xs) (suc n) d x e = entry_at xs n d x e
