-- Lists, element by element.
use Rattle.std.proofs.Common.{◌⊎◌, inl, inr, ◌≡◌, ◌∙◌, ℕ, zero, suc, ◌+◌, ◌<◌, ◌≤◌, ◌==◌, Bool, true, false, List, [], ◌∷◌, ◌++◌, Some, None, ap, sym, refl, length, arith, if◌then◌else◌}
use Rattle.std.proofs.lemmas.Bool.{cases_lt, eqb-false, eqb-true}
use Rattle.std.specs.List.{filter, range_with_len}
use Rattle.std.specs.Prelude.{map, slice_index_or, find}
use Rattle.cp_run.specs.Run.{those_below}

-- the only element that passes is found
pub find_only : {A : Type 0} (P : A → Bool) (xs : List A) (n : ℕ) (d : A) → n < length xs → P (slice_index_or xs n d) ≡ true → ((i : ℕ) → i < length xs → P (slice_index_or xs i d) ≡ true → i ≡ n) → find P xs ≡ Some (slice_index_or xs n d)
find_only P [] n d less e only = absurd (omega (arith, less))
find_only P (x ∷ xs) zero d less e only = ap (λ (b : Bool). if b then Some x else find P xs) e
find_only {A} P (x ∷ xs) (suc n) d less e only = go (P x) refl (find_only P xs n d (omega (arith, less)) e (λ i lt h. (let w = only (suc i) (omega (arith, lt)) h in omega (arith, w))))
  where
    go : (b : Bool) → P x ≡ b → find P xs ≡ Some (slice_index_or xs n d) → (if b then Some x else find P xs) ≡ Some (slice_index_or xs n d)
    go true f rest = absurd (let w = only 0 (omega arith) f in omega (arith, w))
    go false f rest = rest

-- lists of the same length whose elements come to the same
pub maps_same : {A B C : Type 0} (f : A → C) (h : B → C) (xs : List A) (ys : List B) (d : A) (e : B) → length xs ≡ length ys → ((i : ℕ) → i < length xs → f (slice_index_or xs i d) ≡ h (slice_index_or ys i e)) → map f xs ≡ map h ys
maps_same f h [] [] d e n k = refl
maps_same {A} {B} {C} f h (x ∷ xs) (y ∷ ys) d e n k =
    let one = k 0 (omega arith) in
    let more = maps_same f h xs ys d e (omega (arith, n)) (λ i less. k (suc i) (omega (arith, less))) in
    ap (λ (c : C). c ∷ map f xs) one ∙ ap (λ (cs : List C). h y ∷ cs) more
maps_same f h xs ys d e n k = absurd (omega (arith, n))

pub none_pass : {A : Type 0} (F : A → Bool) → ((x : A) → F x ≡ false) → (xs : List A) → filter F xs ≡ []
none_pass F h [] = refl
none_pass F h (x ∷ xs) = ap (λ (b : Bool). if b then x ∷ filter F xs else filter F xs) (h x) ∙ none_pass F h xs

none_kept : (a n w : ℕ) → w < a → filter (λ q. q == w) (range_with_len a n) ≡ []
none_kept a zero w less = refl
none_kept a (suc n) w less = go (a == w) refl (none_kept (a + 1) n w (omega (arith, less)))
  where
    go : (b : Bool) → a == w ≡ b → filter (λ q. q == w) (range_with_len (a + 1) n) ≡ [] → (if b then a ∷ filter (λ q. q == w) (range_with_len (a + 1) n) else filter (λ q. q == w) (range_with_len (a + 1) n)) ≡ []
    go true e rest = absurd (let same = eqb-true a w e in omega (arith, same, less))
    go false e rest = rest

-- a number is kept alone
pub one_kept : (a n w : ℕ) → a ≤ w → w < a + n → filter (λ q. q == w) (range_with_len a n) ≡ w ∷ []
one_kept a zero w le less = absurd (omega (arith, le, less))
one_kept a (suc n) w le less = go (a == w) refl (λ other. one_kept (a + 1) n w other (omega (arith, less)))
  where
    rest : List ℕ
    rest = filter (λ q. q == w) (range_with_len (a + 1) n)

    go : (b : Bool) → a == w ≡ b → (a + 1 ≤ w → rest ≡ w ∷ []) → (if b then a ∷ rest else rest) ≡ w ∷ []
    go true e more =
        let same = eqb-true a w e in
        ap (λ (xs : List ℕ). a ∷ xs) (none_kept (a + 1) n w (omega (arith, same))) ∙ ap (λ (k : ℕ). k ∷ []) same
    go false e more = more (above (cases_lt a w))
      where
        above : (a < w) ⊎ (w ≤ a) → a + 1 ≤ w
        above (inl lt) = omega (arith, lt)
        above (inr ge) = absurd (eqb-false a w e (omega (arith, le, ge)))

-- ---- what is found among the numbers below one that may be

found_in : (G : ℕ → Bool) (xs ys : List ℕ) (q : ℕ) → find G xs ≡ Some q → find G (xs ++ ys) ≡ Some q
found_in G [] ys q e = absurd (cc)
found_in G (x ∷ xs) ys q e = go (G x) (found_in G xs ys q) e
  where
    go : (b : Bool) → (find G xs ≡ Some q → find G (xs ++ ys) ≡ Some q) → (if b then Some x else find G xs) ≡ Some q → (if b then Some x else find G (xs ++ ys)) ≡ Some q
    go true rest f = f
    go false rest f = rest f

found_past : (G : ℕ → Bool) (xs ys : List ℕ) → find G xs ≡ None → find G (xs ++ ys) ≡ find G ys
found_past G [] ys e = refl
found_past G (x ∷ xs) ys e = go (G x) (found_past G xs ys) e
  where
    go : (b : Bool) → (find G xs ≡ None → find G (xs ++ ys) ≡ find G ys) → (if b then Some x else find G xs) ≡ None → (if b then Some x else find G (xs ++ ys)) ≡ find G ys
    go true rest f = absurd (cc)
    go false rest f = rest f

pub find_none : (n : ℕ) (may G : ℕ → Bool) → ((i : ℕ) → i < n → G i ≡ false) → find G (those_below n may) ≡ None
find_none zero may G never = refl
find_none (suc n) may G never = found_past G (those_below n may) (if may n then n ∷ [] else []) (find_none n may G (λ i less. never i (omega (arith, less)))) ∙ last (may n)
  where
    last : (b : Bool) → find G (if b then n ∷ [] else []) ≡ None
    last true = ap (λ (c : Bool). if c then Some n else None) (never n (omega arith))
    last false = refl

pub find_one : (n : ℕ) (may G : ℕ → Bool) (q : ℕ) → q < n → may q ≡ true → G q ≡ true → ((i : ℕ) → i < n → G i ≡ true → i ≡ q) → find G (those_below n may) ≡ Some q
find_one zero may G q less allowed passes only = absurd (omega (arith, less))
find_one (suc n) may G q less allowed passes only = go (cases_lt q n) (λ lt. find_one n may G q lt allowed passes (λ i small. only i (omega (arith, small))))
  where
    other : (i : ℕ) → i < n → n ≤ q → (b : Bool) → G i ≡ b → G i ≡ false
    other i lt ge true e = absurd (let same = only i (omega (arith, lt)) e in omega (arith, same, lt, ge))
    other i lt ge false e = e

    last : q ≡ n → find G (if may n then n ∷ [] else []) ≡ Some q
    last e =
        ap (λ (b : Bool). find G (if b then n ∷ [] else [])) (ap may (sym e) ∙ allowed)
        ∙ (ap (λ (c : Bool). if c then Some n else None) (ap G (sym e) ∙ passes) ∙ ap Some (sym e))

    go : (q < n) ⊎ (n ≤ q) → (q < n → find G (those_below n may) ≡ Some q) → find G (those_below (suc n) may) ≡ Some q
    go (inl lt) before = found_in G (those_below n may) (if may n then n ∷ [] else []) q (before lt)
    go (inr ge) before =
        found_past G (those_below n may) (if may n then n ∷ [] else []) (find_none n may G (λ i lt. other i lt ge (G i) refl))
        ∙ last (omega (arith, less, ge))
