-- Lists by the places of their elements, lists that grow at their end, and lists of things with words.
use Rattle.std.proofs.Common.{◌≡◌, ◌⊎◌, inl, inr, ⊎_elim, ◌<◌, ◌≤◌, ℕ, true, List, [], ◌∷◌, ◌++◌, length, get_or, refl, ap, sym, ◌∙◌, subst, arith, length-append, append_assoc}
use Rattle.std.specs.Prelude.{◌≢◌, All, AllPairs, Contains, Option, Some, slice_get}
use Rattle.cp_ends.proofs.Vocabulary.{cases_lt, append-nil, is_up_to}
use Rattle.std.proofs.lemmas.List.Elements.{All-get_or, Contains-append_left, Contains-append_right, Contains-append_cases, Contains-push_cases}
use Rattle.std.proofs.lemmas.Option.{same_Some, slice_get_read, slice_get_within, get_or_from_slice_get}
use Rattle.cp_ends.specs.Searched.{Grows}
use Rattle.cp_ends.proofs.Searching.Words.{up_to_joined}
use Rattle.cp_resolved.proofs.names.Entries.{still_there as at_front}

-- ---- by places

pub all_at : {X : Type 0} (P : X → Type 0) (xs : List X) (i : ℕ) (x : X) → All P xs → slice_get xs i ≡ Some x → P x
all_at P xs i x h at = subst P (get_or_from_slice_get xs i x x at) (All-get_or P xs i x (slice_get_within xs i x at) h)

pub pair_at : {X : Type 0} (R : X → X → Type 0) (xs : List X) (i j : ℕ) (x y : X) → AllPairs R xs → i < j → slice_get xs i ≡ Some x → slice_get xs j ≡ Some y → R x y
pair_at R xs i j x y h lt at to = subst (λ a. R a y) (get_or_from_slice_get xs i x x at) (subst (λ b. R (get_or xs i x) b) (get_or_from_slice_get xs j y x to) (h i j x lt (slice_get_within xs j y to)))

pub place_of : {X : Type 0} (xs : List X) (x : X) → Contains xs x → (i : ℕ) × (slice_get xs i ≡ Some x)
place_of xs x h = (h.0, slice_get_read xs (length xs) h.0 x refl h.1 (sym h.2))

pub contains_at : {X : Type 0} (xs : List X) (i : ℕ) (x : X) → slice_get xs i ≡ Some x → Contains xs x
contains_at xs i x at = (i, slice_get_within xs i x at, get_or_from_slice_get xs i x x at)

pub contains_later : {X : Type 0} (x y : X) (xs : List X) → Contains xs y → Contains (x ∷ xs) y
contains_later x y xs h = Contains-append_right (x ∷ []) xs y h

pub contains_first : {X : Type 0} (x : X) (xs : List X) → Contains (x ∷ xs) x
contains_first x xs = contains_at (x ∷ xs) 0 x refl

pub contains_cases : {X : Type 0} (x y : X) (xs : List X) → Contains (x ∷ xs) y → (x ≡ y) ⊎ Contains xs y
contains_cases x y xs h = by (Contains-append_cases (x ∷ []) xs y h)
  where
    none : Contains [] y → (x ≡ y) ⊎ Contains xs y
    none c = let lt = c.1 in absurd (omega (arith, lt))

    by : Contains (x ∷ []) y ⊎ Contains xs y → (x ≡ y) ⊎ Contains xs y
    by (inl here) = ⊎_elim (λ (c : Contains [] y). none c) (λ (e : x ≡ y). inl e) (Contains-push_cases [] x y here)
    by (inr on) = inr on

-- ---- lists that grow

pub grows_same : {X : Type 0} (xs : List X) → Grows xs xs
grows_same xs = ([], sym (append-nil xs))

pub grows_joined : {X : Type 0} (xs ys zs : List X) → Grows xs ys → Grows ys zs → Grows xs zs
grows_joined xs ys zs a b = (a.0 ++ b.0, b.1 ∙ ap (λ l. l ++ b.0) a.1 ∙ append_assoc xs a.0 b.0)

pub grows_push : {X : Type 0} (xs : List X) (x : X) → Grows xs (xs ++ x ∷ [])
grows_push xs x = (x ∷ [], refl)

pub grown_contains : {X : Type 0} (xs ys : List X) (x : X) → Grows xs ys → Contains xs x → Contains ys x
grown_contains xs ys x g h = subst (λ l. Contains l x) (sym g.1) (Contains-append_left xs g.0 x h)

pub grown_at : {X : Type 0} (xs ys : List X) (i : ℕ) (x : X) → Grows xs ys → slice_get xs i ≡ Some x → slice_get ys i ≡ Some x
grown_at xs ys i x g at = ap (λ l. slice_get l i) g.1 ∙ at_front xs g.0 i x at

pub grown_length : {X : Type 0} (xs ys : List X) → Grows xs ys → length xs ≤ length ys
grown_length xs ys g = omega (arith, ap length g.1, length-append xs g.0)

-- ---- things with words

-- it has a word, which is this one or comes before it
abbrev pub Before : {A : Type 0} → List (A × List ℕ) → A → List ℕ → Type 0
Before {A} found a w = (word : List ℕ) × Contains found (a, word) × (is_up_to word w ≡ true)

pub before_grown : {A : Type 0} (found more : List (A × List ℕ)) (a : A) (w : List ℕ) → Grows found more → Before found a w → Before more a w
before_grown found more a w g h = (h.0, grown_contains found more (a, h.0) g h.1, h.2)

pub before_later : {A : Type 0} (found : List (A × List ℕ)) (a : A) (v w : List ℕ) → is_up_to v w ≡ true → Before found a v → Before found a w
before_later found a v w le h = (h.0, h.1, up_to_joined h.0 v w h.2 le)

-- a thing that is there once has one word
pub one_word : {A : Type 0} (found : List (A × List ℕ)) (a : A) (v w : List ℕ) → AllPairs (λ f h. f.0 ≢ h.0) found → Contains found (a, v) → Contains found (a, w) → v ≡ w
one_word {A} found a v w once here there = by (place_of found (a, v) here) (place_of found (a, w) there)
  where
    by : (i : ℕ) × (slice_get found i ≡ Some (a, v)) → (j : ℕ) × (slice_get found j ≡ Some (a, w)) → v ≡ w
    by (i, at) (j, to) = ⊎_elim (λ (lt : i < j). absurd (pair_at (λ (f h : A × List ℕ). f.0 ≢ h.0) found i j (a, v) (a, w) once lt at to refl)) (λ (ge : j ≤ i).
        ⊎_elim (λ (lt : j < i). absurd (pair_at (λ (f h : A × List ℕ). f.0 ≢ h.0) found j i (a, w) (a, v) once lt to at refl)) (λ (le : i ≤ j). let same : i ≡ j = omega (arith, le, ge) in let e : ◌≡◌ {A = Option (A × List ℕ)} (Some (a, v)) (Some (a, w)) = cc in ap (λ (p : A × List ℕ). p.1) (same_Some (a, v) (a, w) e)) (cases_lt j i)) (cases_lt i j)
