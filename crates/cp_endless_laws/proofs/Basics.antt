-- Options, distances, and what is so of all elements of a list or of one.
use Rattle.cp_endless_laws.proofs.Words.{◌≡◌, ◌⊎◌, inl, inr, ⊎_elim, ◌+◌, ◌<◌, ◌≤◌, ℕ, zero, suc, List, [], ◌∷◌, ◌++◌, arith, AnyOf}
use Rattle.std.specs.List.{AllByRecursion as Each}

-- ---- distances

pub distance : (a b : ℕ) → a ≤ b → (d : ℕ) × (a + d ≡ b)
distance zero b le = (b, omega arith)
distance (suc a) zero le = absurd (omega (arith, le))
distance (suc a) (suc b) le = let x = distance a b (omega (arith, le)) in (x.0, (let e = x.1 in omega (arith, e)))

pub distance_before : (a b : ℕ) → a ≤ b → (d : ℕ) × (d + a ≡ b)
distance_before a b le = let x = distance a b le in (x.0, (let e = x.1 in omega (arith, e)))

pub distance_less_one : (a b : ℕ) → a < b → (d : ℕ) × (a + suc d ≡ b)
distance_less_one a b less = let x = distance (suc a) b (omega (arith, less)) in (x.0, (let e = x.1 in omega (arith, e)))

-- ---- all elements

pub each_left : {A : Type 0} (P : A → Type 0) (xs ys : List A) → Each P (xs ++ ys) → Each P xs
each_left P [] ys e = tt
each_left P (x ∷ xs) ys e = (e.0, each_left P xs ys e.1)

pub each_right : {A : Type 0} (P : A → Type 0) (xs ys : List A) → Each P (xs ++ ys) → Each P ys
each_right P [] ys e = e
each_right P (x ∷ xs) ys e = each_right P xs ys e.1

pub each_append : {A : Type 0} (P : A → Type 0) (xs ys : List A) → Each P xs → Each P ys → Each P (xs ++ ys)
each_append P [] ys e f = f
each_append P (x ∷ xs) ys e f = (e.0, each_append P xs ys e.1 f)

-- ---- one element

pub any_split : {A : Type 0} (P : A → Type 0) (xs ys : List A) → AnyOf P (xs ++ ys) → AnyOf P xs ⊎ AnyOf P ys
any_split P [] ys a = inr a
any_split P (x ∷ xs) ys (inl p) = inl (inl p)
any_split P (x ∷ xs) ys (inr a) = ⊎_elim (λ (l : AnyOf P xs). inl (inr l)) (λ (r : AnyOf P ys). inr r) (any_split P xs ys a)

pub any_left : {A : Type 0} (P : A → Type 0) (xs ys : List A) → AnyOf P xs → AnyOf P (xs ++ ys)
any_left P [] ys a = absurd a
any_left P (x ∷ xs) ys (inl p) = inl p
any_left P (x ∷ xs) ys (inr a) = inr (any_left P xs ys a)

pub any_right : {A : Type 0} (P : A → Type 0) (xs ys : List A) → AnyOf P ys → AnyOf P (xs ++ ys)
any_right P [] ys a = a
any_right P (x ∷ xs) ys a = inr (any_right P xs ys a)
