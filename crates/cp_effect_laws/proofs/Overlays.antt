-- Lists that are laid over others: what is read in their own places, and written there.
use Rattle.std.proofs.Common.{◌≡◌, ℕ, zero, suc, Bool, true, List, [], ◌∷◌, length, ap, refl, sym, if◌then◌else◌}
use Rattle.std.specs.Prelude.{slice_index_or, slice_set}
use Rattle.cp_effect_laws.specs.Footprint.{overlaid}

pub own_read : {A : Type 0} (own : ℕ → Bool) (xs ys : List A) (k : ℕ) (d : A) → own k ≡ true → slice_index_or (overlaid own xs ys) k d ≡ slice_index_or xs k d
own_read own [] ys k d h = refl
own_read own (x ∷ xs) [] k d h = refl
own_read own (x ∷ xs) (y ∷ ys) zero d h = ap (λ b. if b then x else y) h
own_read own (x ∷ xs) (y ∷ ys) (suc k) d h = own_read (λ j. own (suc j)) xs ys k d h

pub own_set : {A : Type 0} (own : ℕ → Bool) (xs ys : List A) (k : ℕ) (v : A) → own k ≡ true → slice_set (overlaid own xs ys) k v ≡ overlaid own (slice_set xs k v) ys
own_set own [] ys k v h = refl
own_set own (x ∷ xs) [] zero v h = refl
own_set own (x ∷ xs) [] (suc k) v h = refl
own_set own (x ∷ xs) (y ∷ ys) zero v h = ap (λ b. (if b then v else y) ∷ overlaid (λ j. own (suc j)) xs ys) (sym h)
own_set own (x ∷ xs) (y ∷ ys) (suc k) v h = ap (λ l. (if own 0 then x else y) ∷ l) (own_set (λ j. own (suc j)) xs ys k v h)

pub over_length : {A : Type 0} (own : ℕ → Bool) (xs ys : List A) → length (overlaid own xs ys) ≡ length xs
over_length own [] ys = refl
over_length own (x ∷ xs) [] = refl
over_length own (x ∷ xs) (y ∷ ys) = ap suc (over_length (λ j. own (suc j)) xs ys)
