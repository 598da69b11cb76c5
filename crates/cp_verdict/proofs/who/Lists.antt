-- What is in a list, in the list of what comes of its things, and in those that pass a test.
use Rattle.std.proofs.Common.{◌≡◌, ℕ, zero, suc, Bool, true, false, ◌||◌, List, [], ◌∷◌, map, cond, refl, sym, ap, subst}
use Rattle.std.specs.Prelude.{Contains, filter, Some, slice_get}
use Rattle.std.specs.List.{list_any}
use Rattle.std.proofs.lemmas.List.Elements.{All-contains, All-contains_itself, All-filter, Contains-append_right, filter_passes}
use Rattle.cp_ends.proofs.Searching.Lists.{contains_at, place_of}
use Rattle.cp_run.specs.Table.{IsAmong, Here, There}
use Rattle.cp_verdict.proofs.any_length.Finding.{at_map, map_at, some_same}

pub in_map : {A B : Type 0} (f : A → B) (xs : List A) (x : A) → Contains xs x → Contains (map f xs) (f x)
in_map f xs x c = let at = place_of xs x c in contains_at (map f xs) at.0 (f x) (at_map f xs at.0 x at.1)

pub of_map : {A B : Type 0} (f : A → B) (xs : List A) (y : B) → Contains (map f xs) y → (x : A) × Contains xs x × (f x ≡ y)
of_map f xs y c = let at = place_of (map f xs) y c in let x = map_at f xs at.0 y at.1 in (x.0, contains_at xs at.0 x.0 x.1, x.2)

-- of a list that is the map of another by other names
pub of_same_map : {A B C : Type 0} (f : A → C) (g : B → C) (xs : List A) (ys : List B) → map f xs ≡ map g ys → (x : A) → Contains xs x → (y : B) × Contains ys y × (g y ≡ f x)
of_same_map {A} {B} {C} f g xs ys same x c = of_map g ys (f x) (subst (λ (l : List C). Contains l (f x)) same (in_map f xs x c))

pub of_filter : {A : Type 0} (p : A → Bool) (xs : List A) (x : A) → Contains (filter p xs) x → Contains xs x × (p x ≡ true)
of_filter p xs x c = (All-contains (Contains xs) (filter p xs) x (All-filter p (Contains xs) xs (All-contains_itself xs)) c, All-contains (λ y. p y ≡ true) (filter p xs) x (filter_passes p xs) c)

filter_at : {A : Type 0} (p : A → Bool) (xs : List A) (i : ℕ) (x : A) → slice_get xs i ≡ Some x → p x ≡ true → Contains (filter p xs) x
filter_at p [] i x at h = absurd (cc)
filter_at {A} p (y ∷ ys) zero x at h = by (p y) (subst (λ (z : A). p z ≡ true) (sym (some_same y x at)) h)
  where
    by : (b : Bool) → b ≡ true → Contains (cond b (y ∷ filter p ys) (filter p ys)) x
    by true e = contains_at (y ∷ filter p ys) 0 x at
    by false e = absurd (cc)
filter_at p (y ∷ ys) (suc i) x at h = by (p y) (filter_at p ys i x at h)
  where
    by : (b : Bool) → Contains (filter p ys) x → Contains (cond b (y ∷ filter p ys) (filter p ys)) x
    by true c = Contains-append_right (y ∷ []) (filter p ys) x c
    by false c = c

pub in_filter : {A : Type 0} (p : A → Bool) (xs : List A) (x : A) → Contains xs x → p x ≡ true → Contains (filter p xs) x
in_filter p xs x c h = let at = place_of xs x c in filter_at p xs at.0 x at.1 h

-- ---- two ways to say that it is in a list

pub among : {A : Type 0} (xs : List A) (x : A) → Contains xs x → IsAmong x xs
among {A} xs x c = let at = place_of xs x c in by xs at.0 at.1
  where
    by : (ys : List A) (i : ℕ) → slice_get ys i ≡ Some x → IsAmong x ys
    by [] i at = absurd (cc)
    by (y ∷ ys) zero at = subst (λ (z : A). IsAmong z (y ∷ ys)) (some_same y x at) (Here ys)
    by (y ∷ ys) (suc i) at = There y ys (by ys i at)

pub contained : {A : Type 0} (xs : List A) (x : A) → IsAmong x xs → Contains xs x
contained [] x i = elim i [ ]
contained (_ ∷ xs) x (Here _) = contains_at (x ∷ xs) 0 x refl
contained (y ∷ xs) x (There _ _ i) = Contains-append_right (y ∷ []) xs x (contained xs x i)

-- one among them passes a test, so some does
pub some_passes : {A : Type 0} (t : A → Bool) (x : A) (xs : List A) → IsAmong x xs → t x ≡ true → list_any t xs ≡ true
some_passes t x [] i h = elim i [ ]
some_passes t x (_ ∷ xs) (Here _) h = ap (λ b. b || list_any t xs) h
some_passes t x (y ∷ xs) (There _ _ i) h = split (t y) (some_passes t x xs i h)
  where
    split : (b : Bool) → list_any t xs ≡ true → (b || list_any t xs) ≡ true
    split true e = refl
    split false e = e
