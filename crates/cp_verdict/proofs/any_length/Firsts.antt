-- The first thing of a kind in a list of all with their first words is the first of all that are of this kind.
use Rattle.std.proofs.Common.{◌≡◌, ◌⊎◌, inl, inr, ⊎_elim, ◌<◌, ◌≤◌, ℕ, suc, Bool, true, false, ◌||◌, ◌&&◌, ◌==◌, ◌∙◌, List, length, refl, sym, ap, subst, arith}
use Rattle.std.specs.Prelude.{◌≢◌, find, Option, None, Some, Contains, All, nat_lt, slice_get}
use Rattle.std.specs.Cmp.Lexicographic.{slice_partial_cmp}
use Rattle.std.specs.Ordering.{is_le, is_some_and, nat_cmp}
use Rattle.std.proofs.lemmas.Cmp.{same_from_slice_cmp_tested}
use Rattle.std.proofs.lemmas.Bool.Decides.{nat_tests}
use Rattle.std.proofs.lemmas.Bool.{cases_order, eq-eqb, eqb-true, lt-ltb, ltb-true}
use Rattle.cp_ends.specs.Firsts.{is_up_to, in_dictionary, AreFirsts, AreFirstOnes, Within, HasWord}
use Rattle.cp_ends.proofs.Searching.Lists.{all_at, pair_at, place_of, contains_at}
use Rattle.cp_ends.proofs.Searching.Words.{up_to_joined}
use Rattle.cp_verdict.specs.endless.Knowledge.{Looked}
use Rattle.cp_verdict.proofs.any_length.Finding.{IsFoundAt, found_at, found_none, some_same}

-- ---- the order of words

-- the order of the code's `<=` on slices
in_order : (v w : List ℕ) (r : Bool) → r ≡ is_some_and is_le (slice_partial_cmp (λ x y. Some (nat_cmp x y)) v w) → r ≡ in_dictionary v w
in_order = same_from_slice_cmp_tested nat_cmp is_le in_dictionary refl (λ _ _. refl) (λ _ _. refl) (λ x y xs ys o h. grind (arith, nat_tests))

not_less : (a b : ℕ) → b ≤ a → nat_lt a b ≡ false
not_less a b le = split (nat_lt a b) refl
  where
    split : (c : Bool) → nat_lt a b ≡ c → c ≡ false
    split true e = absurd (omega (arith, ltb-true a b e, le))
    split false e = refl

pub as_long_first : (v w : List ℕ) (r : Bool) → length v ≡ length w → r ≡ is_some_and is_le (slice_partial_cmp (λ x y. Some (nat_cmp x y)) v w) → r ≡ is_up_to v w
unfolding is_up_to
as_long_first v w r same is =
    in_order v w r is ∙ sym (ap (λ b. b || ((length v == length w) && in_dictionary v w)) (not_less (length v) (length w) (omega (arith, same))) ∙ ap (λ b. b && in_dictionary v w) (eq-eqb (length v) (length w) same))

pub other_first : (v w : List ℕ) → length w ≤ length v → length v ≢ length w → (length v == length w) ≡ is_up_to v w
unfolding is_up_to
other_first v w le other = split (length v == length w) refl ∙ sym (ap (λ b. b || ((length v == length w) && in_dictionary v w)) (not_less (length v) (length w) le))
  where
    split : (b : Bool) → (length v == length w) ≡ b → b ≡ (b && in_dictionary v w)
    split true e = absurd (other (eqb-true (length v) (length w) e))
    split false e = refl

lengths : (a b : ℕ) → (a ≤ b) ⊎ (b < a)
lengths a b = ⊎_elim
    (λ (is : a ≡ b). inl (omega (arith, is)))
    (λ (apart : (a < b) ⊎ (b < a)). ⊎_elim (λ (less : a < b). inl (omega (arith, less))) (λ (more : b < a). inr more) apart)
    (cases_order a b)

shorter_first : (word other : List ℕ) → length word < length other → is_up_to word other ≡ true
unfolding is_up_to
shorter_first word other less = ap (λ x. x || ((length word == length other) && in_dictionary word other)) (lt-ltb (length word) (length other) less)

pub shorter_is_first : (v w : List ℕ) → length v < length w → nat_lt (length v) (length w) ≡ is_up_to v w
shorter_is_first v w less = lt-ltb (length v) (length w) less ∙ sym (shorter_first v w less)

-- each list of all things is one of the first so many
pub ones_of : {A : Type 0} (P : A → List ℕ → Type 0) (xs : List (A × List ℕ)) → AreFirsts P xs → AreFirstOnes (suc (length xs)) P xs
ones_of P xs h = record { few = omega arith; all = λ a word p. inl (h.all a word p); first = h.first; once = h.once; sorted = h.sorted }

pub false_true : {A : Type 0} (b : Bool) → b ≡ false → b ≡ true → A
false_true b f t = absurd (cc)

module _ {A : Type 0} (q : A → Bool) (xs : List (A × List ℕ)) (n : ℕ) where
  -- what was found first is up to each of those that are looked at
  module _ (L : A → List ℕ → Type 0) (h : AreFirstOnes n L xs) (x : A × List ℕ) (found : IsFoundAt (λ y. q y.0) xs x) where
    same_at : (j : ℕ) (y : A × List ℕ) → found.place ≡ j → slice_get xs j ≡ Some y → x ≡ y
    same_at j y e at = some_same x y (sym found.at ∙ ap (λ k. slice_get xs k) e ∙ at)

    among : (a : A) (word w : List ℕ) → q a ≡ true → Contains xs (a, w) → is_up_to w word ≡ true → is_up_to x.1 word ≡ true
    among a word w is c up =
        let j = place_of xs (a, w) c in ⊎_elim
        (λ (e : found.place ≡ j.0). subst (λ (y : A × List ℕ). is_up_to y.1 word ≡ true) (sym (same_at j.0 (a, w) e j.1)) up)
        (λ (apart : (found.place < j.0) ⊎ (j.0 < found.place)). ⊎_elim
        (λ (less : found.place < j.0). up_to_joined x.1 w word (pair_at (λ f g. is_up_to f.1 g.1 ≡ true) xs found.place j.0 x (a, w) h.sorted less found.at j.1) up)
        (λ (more : j.0 < found.place). false_true (q a) (found.before j.0 (a, w) more j.1) is)
        apart)
        (cases_order found.place j.0)

    up_to_each : (a : A) (word : List ℕ) → L a word → q a ≡ true → is_up_to x.1 word ≡ true
    up_to_each a word p is = ⊎_elim
        (λ (has : HasWord xs a). among a word has.0 is has.1 ((h.first a has.0 has.1).first word p))
        (λ (full : (length xs ≡ n) × All (λ (y : A × List ℕ). is_up_to y.1 word ≡ true) xs). all_at (λ y. is_up_to y.1 word ≡ true) xs found.place x full.1 found.at)
        (h.all a word p)

    is_so : L x.0 x.1
    is_so = (h.first x.0 x.1 (contains_at xs found.place x found.at)).is

  -- of those that are looked at, and so of all
  module _ (P : A → List ℕ → Type 0) where
    pub record IsFirstSo (x : A × List ℕ) : Type 0 where
      pub is_so : P x.0 x.1
      pub passes : q x.0 ≡ true
      pub first : (a : A) (word : List ℕ) → P a word → q a ≡ true → is_up_to x.1 word ≡ true

    by : (looked : Option ℕ) → AreFirstOnes n (Looked looked P) xs → (x : A × List ℕ) → IsFoundAt (λ y. q y.0) xs x → IsFirstSo x
    by None h x found = record { is_so = is_so P h x found; passes = found.passes; first = λ a word p is. up_to_each P h x found a word p is }
    by (Some d) h x found =
        let within = is_so (Within d P) h x found in
        let le = within.1 in
        record {
          is_so = within.0;
          passes = found.passes;
          first = λ a word p is. (⊎_elim
              (λ (short : length word ≤ d). up_to_each (Within d P) h x found a word (p, short) is)
              (λ (long : d < length word). shorter_first x.1 word (omega (arith, le, long)))
              (lengths (length word) d));
        }

    pub first_so : (looked : Option ℕ) → AreFirstOnes n (Looked looked P) xs → (x : A × List ℕ) → find (λ y. q y.0) xs ≡ Some x → IsFirstSo x
    first_so looked h x e = by looked h x (found_at (λ y. q y.0) xs x e)

    -- where all words are looked at, and not so many things are found that more may be left out
    pub none_so : AreFirstOnes n P xs → length xs < n → find (λ y. q y.0) xs ≡ None → (a : A) (word : List ℕ) → P a word → q a ≡ true → ⊥
    none_so h few e a word p is = ⊎_elim
        (λ (has : HasWord xs a). (let j = place_of xs (a, has.0) has.1 in false_true (q a) (found_none (λ y. q y.0) xs e j.0 (a, has.0) j.1) is))
        (λ (full : (length xs ≡ n) × All (λ (y : A × List ℕ). is_up_to y.1 word ≡ true) xs). (let l = full.0 in omega (arith, few, l)))
        (h.all a word p)
