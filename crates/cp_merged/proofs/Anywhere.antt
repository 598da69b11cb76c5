-- Elements of lists by recursion, and lists that have more different elements than a number.
use Rattle.std.proofs.Common.{◌≡◌, ◌≢◌, ◌⊎◌, inl, inr, ⊎_elim, ◌+◌, ◌<◌, ◌≤◌, ℕ, zero, suc, List, [], ◌∷◌, ◌++◌, length, map, take, refl, sym, ap, subst, ◌∙◌, arith, get_or}
use Rattle.cp_merged.proofs.Words.{Contains, All-from_recursion, recursion_from_All}
use Rattle.std.specs.List.{AllPairs, AllByRecursion as Each}
use Rattle.std.proofs.lemmas.List.Kept.{AllPairs-cons}
use Rattle.cp_merged.specs.TooMany.{MoreThan}

-- P holds of some element
abbrev pub AnyOf : {A : Type 0} → (A → Type 0) → List A → Type 0
AnyOf P [] = ⊥
AnyOf P (x ∷ xs) = P x ⊎ AnyOf P xs

abbrev pub Has : {A : Type 0} → A → List A → Type 0
Has x xs = AnyOf (λ y. y ≡ x) xs

pub has_from_contains : {A : Type 0} (xs : List A) (x : A) → Contains xs x → Has x xs
has_from_contains [] x h = absurd (omega (arith, h.1))
has_from_contains (y ∷ ys) x h = by (has_from_contains ys x) h.0 h.1 h.2
  where
    by : (Contains ys x → Has x ys) → (k : ℕ) → k < length (y ∷ ys) → get_or (y ∷ ys) k x ≡ x → Has x (y ∷ ys)
    by on zero l e = inl e
    by on (suc k) l e = inr (on (k, omega (arith, l), e))

pub contains_from_has : {A : Type 0} (xs : List A) (x : A) → Has x xs → Contains xs x
contains_from_has [] x h = absurd h
contains_from_has (y ∷ ys) x (inl e) = (0, omega arith, e)
contains_from_has (y ∷ ys) x (inr i) = let c = contains_from_has ys x i in (suc c.0, (let l = c.1 in omega (arith, l)), c.2)

pub any_weaker : {A : Type 0} (P Q : A → Type 0) (xs : List A) → ((x : A) → P x → Q x) → AnyOf P xs → AnyOf Q xs
any_weaker P Q [] h a = a
any_weaker P Q (x ∷ xs) h (inl p) = inl (h x p)
any_weaker P Q (x ∷ xs) h (inr a) = inr (any_weaker P Q xs h a)

-- an element for which P holds
pub found_in : {A : Type 0} (P : A → Type 0) (xs : List A) → AnyOf P xs → (x : A) × P x × Has x xs
found_in P [] a = absurd a
found_in P (x ∷ xs) (inl p) = (x, p, inl refl)
found_in P (x ∷ xs) (inr a) = let f = found_in P xs a in (f.0, f.1, inr f.2)

pub each_has : {A : Type 0} (P : A → Type 0) (xs : List A) (x : A) → Each P xs → Has x xs → P x
each_has P [] x e h = absurd h
each_has P (y ∷ ys) x e (inl q) = subst P q e.0
each_has P (y ∷ ys) x e (inr i) = each_has P ys x e.1 i

pub has_left : {A : Type 0} (x : A) (xs ys : List A) → Has x xs → Has x (xs ++ ys)
has_left x [] ys h = absurd h
has_left x (y ∷ xs) ys (inl e) = inl e
has_left x (y ∷ xs) ys (inr i) = inr (has_left x xs ys i)

pub has_right : {A : Type 0} (x : A) (xs ys : List A) → Has x ys → Has x (xs ++ ys)
has_right x [] ys h = h
has_right x (y ∷ xs) ys h = inr (has_right x xs ys h)

pub has_either : {A : Type 0} (x : A) (xs ys : List A) → Has x (xs ++ ys) → Has x xs ⊎ Has x ys
has_either x [] ys h = inr h
has_either x (y ∷ xs) ys (inl e) = inl (inl e)
has_either x (y ∷ xs) ys (inr i) = ⊎_elim (λ (a : Has x xs). inl (inr a)) (λ (b : Has x ys). inr b) (has_either x xs ys i)

pub has_map : {A B : Type 0} (g : A → B) (x : A) (xs : List A) → Has x xs → Has (g x) (map g xs)
has_map g x [] h = absurd h
has_map g x (y ∷ ys) (inl e) = inl (ap g e)
has_map g x (y ∷ ys) (inr i) = inr (has_map g x ys i)

pub from_map : {A B : Type 0} (g : A → B) (b : B) (xs : List A) → Has b (map g xs) → (x : A) × (g x ≡ b) × Has x xs
from_map g b [] h = absurd h
from_map g b (y ∷ ys) (inl e) = (y, e, inl refl)
from_map g b (y ∷ ys) (inr i) = let f = from_map g b ys i in (f.0, f.1, inr f.2)

-- ---- without an element

without : {A : Type 0} (x : A) (xs : List A) → Has x xs → List A
without x [] h = []
without x (y ∷ ys) (inl e) = ys
without x (y ∷ ys) (inr i) = y ∷ without x ys i

without_length : {A : Type 0} (x : A) (xs : List A) (h : Has x xs) → length xs ≡ suc (length (without x xs h))
unfolding without
without_length x [] h = absurd h
without_length x (y ∷ ys) (inl e) = refl
without_length x (y ∷ ys) (inr i) = ap suc (without_length x ys i)

without_has : {A : Type 0} (x z : A) (xs : List A) (h : Has x xs) → (x ≡ z → ⊥) → Has z xs → Has z (without x xs h)
unfolding without
without_has x z [] h n i = absurd h
without_has x z (y ∷ ys) (inl e) n (inl f) = absurd (n (sym e ∙ f))
without_has x z (y ∷ ys) (inl e) n (inr j) = j
without_has x z (y ∷ ys) (inr i) n (inl f) = inl f
without_has x z (y ∷ ys) (inr i) n (inr j) = inr (without_has x z ys i n j)

-- no two elements are equal, by recursion
abbrev pub Differ : {A : Type 0} → List A → Type 0
Differ [] = Unit {0}
Differ (x ∷ xs) = Each (λ y. x ≢ y) xs × Differ xs

-- different elements of a list are no more than its elements
pigeons : {A : Type 0} (xs ys : List A) → Differ xs → Each (λ x. Has x ys) xs → length xs ≤ length ys
pigeons [] ys d h = omega arith
pigeons {A} (x ∷ xs) ys d h =
    let rest = pigeons xs (without x ys h.0) d.1 (others xs d.0 h.1) in
    let l = without_length x ys h.0 in
    omega (arith, rest, l)
  where
    others : (zs : List A) → Each (λ y. x ≢ y) zs → Each (λ z. Has z ys) zs → Each (λ z. Has z (without x ys h.0)) zs
    others [] e f = tt
    others (z ∷ zs) e f = (without_has x z ys h.0 e.0 f.0, others zs e.1 f.1)

pub pairs_from_differ : {A : Type 0} (xs : List A) → Differ xs → AllPairs (λ x y. x ≢ y) xs
pairs_from_differ [] d = λ i j e l m. absurd (omega (arith, m))
pairs_from_differ (x ∷ xs) d = AllPairs-cons (λ x y. x ≢ y) x xs (All-from_recursion (λ y. x ≢ y) xs d.0) (pairs_from_differ xs d.1)

differ_from_pairs : {A : Type 0} (xs : List A) → AllPairs (λ x y. x ≢ y) xs → Differ xs
differ_from_pairs [] h = tt
differ_from_pairs {A} (x ∷ xs) h = (recursion_from_All (λ y. x ≢ y) xs (λ k d l. h 0 (suc k) d (omega arith) (omega (arith, l))), differ_from_pairs xs (λ i j d l m. h (suc i) (suc j) d (omega (arith, l)) (omega (arith, m))))

each_take : {A : Type 0} (P : A → Type 0) (n : ℕ) (xs : List A) → Each P xs → Each P (take n xs)
each_take P zero xs e = tt
each_take P (suc n) [] e = tt
each_take P (suc n) (x ∷ xs) e = (e.0, each_take P n xs e.1)

differ_take : {A : Type 0} (n : ℕ) (xs : List A) → Differ xs → Differ (take n xs)
differ_take zero xs d = tt
differ_take (suc n) [] d = tt
differ_take (suc n) (x ∷ xs) d = (each_take (λ y. x ≢ y) n xs d.0, differ_take n xs d.1)

take_length : {A : Type 0} (n : ℕ) (xs : List A) → n ≤ length xs → length (take n xs) ≡ n
take_length zero xs l = refl
take_length (suc n) [] l = absurd (omega (arith, l))
take_length (suc n) (x ∷ xs) l = ap suc (take_length n xs (omega (arith, l)))

-- a list of more than n different elements of which P holds
pub more_than : {A : Type 0} (P : A → Type 0) (n : ℕ) (xs : List A) → n < length xs → Each P xs → Differ xs → MoreThan n P
more_than P n xs l e d = (take (n + 1) xs, take_length (n + 1) xs (omega (arith, l)), pairs_from_differ (take (n + 1) xs) (differ_take (n + 1) xs d), All-from_recursion P (take (n + 1) xs) (each_take P (n + 1) xs e))

-- a list that has all values of which P holds, and no more than n
pub no_more_than : {A : Type 0} (P : A → Type 0) (n : ℕ) (xs : List A) → length xs ≤ n → ((a : A) → P a → Has a xs) → MoreThan n P → ⊥
no_more_than P n xs l h m =
    let e = recursion_from_All P m.0 m.3 in
    let few = pigeons m.0 xs (differ_from_pairs m.0 m.2) (all m.0 e) in
    let many = m.1 in
    omega (arith, few, many, l)
  where
    all : (zs : List _) → Each P zs → Each (λ z. Has z xs) zs
    all [] f = tt
    all (z ∷ zs) f = (h z f.0, all zs f.1)
