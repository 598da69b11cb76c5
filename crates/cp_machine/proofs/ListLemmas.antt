-- Numbers below a bound that pass a test, tests of a list's images, and lists of which one element changes.
use Rattle.std.proofs.Common.{arith, ◌≡◌, ℕ, zero, suc, ◌+◌, ◌-◌, ◌<◌, ◌≤◌, ◌∙◌, ◌⊎◌, inl, inr, List, [], ◌∷◌, ◌++◌, length, Bool, true, false, map, ap, sym, subst, refl, cond, get_or-set_same, get_or-set_other}
use Rattle.cp_machine.proofs.Words.{◌||◌, slice_index_or, slice_set, filter, range_with_len, list_any, cases_eq}
use Rattle.std.proofs.lemmas.List.{append-nil, map-id}
use Rattle.cp_machine.specs.declared.state.Readiness.{Readiness}
use Rattle.cp_machine.specs.declared.state.Readiness.TheVariants.{Several}
use Rattle.cp_machine.specs.Machine.{readiness_of, one_ready_more}
use Rattle.std.proofs.lemmas.List.FromFn.{map-range_with_len_more}
use Rattle.std.proofs.lemmas.List.Elements.{filter-append}

range_more : (n : ℕ) → range_with_len 0 (n + 1) ≡ range_with_len 0 n ++ n ∷ []
range_more n =
    let more : map (λ (x : ℕ). x) (range_with_len 0 (n + 1)) ≡ map (λ (x : ℕ). x) (range_with_len 0 n) ++ n ∷ [] = map-range_with_len_more (λ x. x) 0 n n (omega arith) in
    sym (map-id (range_with_len 0 (n + 1))) ∙ more ∙ ap (λ xs. xs ++ n ∷ []) (map-id (range_with_len 0 n))

one_kept : (p : ℕ → Bool) (n : ℕ) (b : Bool) → p n ≡ b → filter p (n ∷ []) ≡ cond b (n ∷ []) []
one_kept p n true e = rw e refl
one_kept p n false e = rw e refl

pub filter_below_more : (p : ℕ → Bool) (n : ℕ) (b : Bool) → p n ≡ b → filter p (range_with_len 0 (n + 1)) ≡ filter p (range_with_len 0 n) ++ cond b (n ∷ []) []
filter_below_more p n b e = ap (filter p) (range_more n) ∙ filter-append p (range_with_len 0 n) (n ∷ []) ∙ ap (λ xs. filter p (range_with_len 0 n) ++ xs) (one_kept p n b e)

pub list_any_map : {X Y : Type 0} (f : X → Y) (p : Y → Bool) (xs : List X) → list_any p (map f xs) ≡ list_any (λ x. p (f x)) xs
list_any_map f p [] = refl
list_any_map f p (x ∷ xs) = ap (λ b. p (f x) || b) (list_any_map f p xs)

-- one more turn of a loop that keeps the numbers that pass
pub kept_more : (p : ℕ → Bool) (n : ℕ) (b : Bool) (xs ys : List ℕ) → p n ≡ b → xs ≡ filter p (range_with_len 0 n) → ys ≡ xs ++ cond b (n ∷ []) [] → ys ≡ filter p (range_with_len 0 (n + 1))
kept_more p n b xs ys e before after = after ∙ ap (λ zs. zs ++ cond b (n ∷ []) []) before ∙ sym (filter_below_more p n b e)

-- one process more is ready
pub readiness_more : (ps : List ℕ) (p : ℕ) → readiness_of (ps ++ p ∷ []) ≡ one_ready_more (readiness_of ps) p
readiness_more [] p = refl
readiness_more (q ∷ []) p = refl
readiness_more (q ∷ r ∷ qs) p = refl

pub readiness_kept : (f : ℕ → Bool) (n : ℕ) (r : Readiness) → f n ≡ true → r ≡ readiness_of (filter f (range_with_len 0 n)) → one_ready_more r n ≡ readiness_of (filter f (range_with_len 0 (n + 1)))
readiness_kept f n r e h =
    ap (λ x. one_ready_more x n) h ∙ sym (readiness_more (filter f (range_with_len 0 n)) n) ∙ ap readiness_of (sym (filter_below_more f n true e))

pub readiness_same : (f : ℕ → Bool) (n : ℕ) → f n ≡ false → readiness_of (filter f (range_with_len 0 n)) ≡ readiness_of (filter f (range_with_len 0 (n + 1)))
readiness_same f n e = ap readiness_of (sym (filter_below_more f n false e ∙ append-nil (filter f (range_with_len 0 n))))

-- several stay several
pub several_kept : (f : ℕ → Bool) (k j : ℕ) → readiness_of (filter f (range_with_len 0 k)) ≡ Several → readiness_of (filter f (range_with_len 0 (k + j))) ≡ Several
several_kept f k zero h = let e : k + 0 ≡ k = omega arith in ap (λ n. readiness_of (filter f (range_with_len 0 n))) e ∙ h
several_kept f k (suc j) h =
    let e : k + suc j ≡ (k + j) + 1 = omega arith in
    ap (λ n. readiness_of (filter f (range_with_len 0 n))) e ∙ by (f (k + j)) refl (several_kept f k j h)
  where
    by : (b : Bool) → f (k + j) ≡ b → readiness_of (filter f (range_with_len 0 (k + j))) ≡ Several → readiness_of (filter f (range_with_len 0 ((k + j) + 1))) ≡ Several
    by true is before = sym (readiness_kept f (k + j) Several is (sym before))
    by false is before = sym (readiness_same f (k + j) is) ∙ before

pub several_done : (f : ℕ → Bool) (k n : ℕ) (r : Readiness) → k ≤ n → r ≡ readiness_of (filter f (range_with_len 0 k)) → r ≡ Several → Several ≡ readiness_of (filter f (range_with_len 0 n))
several_done f k n r le h is =
    let e : k + (n - k) ≡ n = omega (arith, le) in
    sym (ap (λ i. readiness_of (filter f (range_with_len 0 i))) (sym e) ∙ several_kept f k (n - k) (sym h ∙ is))

-- where one element of a list changes, all are to what they were as it is
pub set_related : {X : Type 0} (R : X → X → Type 0) → ((x : X) → R x x) → (xs : List X) (at : ℕ) (y d : X) → R (slice_index_or xs at d) y → (k : ℕ) → R (slice_index_or xs k d) (slice_index_or (slice_set xs at y) k d)
set_related R same [] at y d h k = same d
set_related R same (x ∷ xs) zero y d h zero = h
set_related R same (x ∷ xs) zero y d h (suc k) = same (slice_index_or xs k d)
set_related R same (x ∷ xs) (suc at) y d h zero = same x
set_related R same (x ∷ xs) (suc at) y d h (suc k) = set_related R same xs at y d h k

-- the one that changes is the new one, or there is none
pub set_itself : {X : Type 0} (P : X → Type 0) (xs : List X) (at : ℕ) (y d : X) → P y → P d → P (slice_index_or (slice_set xs at y) at d)
set_itself P [] at y d new none = none
set_itself P (x ∷ xs) zero y d new none = new
set_itself P (x ∷ xs) (suc at) y d new none = set_itself P xs at y d new none

-- what holds of the new one, and of each other one, holds of each
pub each_set : {X : Type 0} (P : ℕ → X → Type 0) (xs : List X) (at : ℕ) (y d : X) → (at < length xs → P at y) → ((k : ℕ) → k < length xs → (k ≡ at → ⊥) → P k (slice_index_or xs k d)) → (k : ℕ) → k < length xs → P k (slice_index_or (slice_set xs at y) k d)
each_set P xs at y d new others k lt = go (cases_eq k at)
  where
    go : (k ≡ at) ⊎ (k ≡ at → ⊥) → P k (slice_index_or (slice_set xs at y) k d)
    go (inl e) =
        let here : at < length xs = omega (arith, e, lt) in
        subst (λ j. P j (slice_index_or (slice_set xs at y) j d)) (sym e) (subst (P at) (sym (get_or-set_same xs at y d here)) (new here))
    go (inr ne) = subst (P k) (sym (get_or-set_other xs at k y d ne)) (others k lt ne)

-- where a test fails of nothing, what passes it is one of the list
pub passes_within : {X : Type 0} (f : X → Bool) (xs : List X) (k : ℕ) (d : X) → f d ≡ false → f (slice_index_or xs k d) ≡ true → k < length xs
passes_within f [] k d none h = absurd (cc)
passes_within f (x ∷ xs) zero d none h = omega arith
passes_within f (x ∷ xs) (suc k) d none h = omega (arith, passes_within f xs k d none h)
