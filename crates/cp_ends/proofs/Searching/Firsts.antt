-- A list of things with their words that leaves out none has each with its first word; so has its part with short words.
use Rattle.std.proofs.Common.{◌≡◌, ◌⊎◌, inl, inr, ◌≤◌, ℕ, Bool, true, false, cond, List, [], ◌∷◌, length, get_or, refl, ap, ◌∙◌, subst, arith}
use Rattle.std.specs.Prelude.{◌≢◌, All, Contains, filter, nat_le}
use Rattle.std.proofs.lemmas.Bool.{le-leb, leb-true}
use Rattle.std.proofs.lemmas.List.Elements.{All-contains, All-contains_itself, All-filter, All-head, All-tail, filter_passes}
use Rattle.std.proofs.lemmas.List.Kept.{AllPairs-filter}
use Rattle.cp_ends.specs.Firsts.{is_within, is_up_to, HasWord, AreFirsts, AreFirstOnes, Within}
use Rattle.cp_ends.proofs.Searching.Words.{up_to_length}
use Rattle.cp_ends.proofs.Searching.Lists.{Before, contains_cases, contains_first, contains_later, one_word}
use Rattle.cp_ends.proofs.Searching.Adding.{AreGood, IsKept}

-- ---- filters

module _ {X : Type 0} (p : X → Bool) where
  filter_contains : (xs : List X) (x : X) → p x ≡ true → Contains xs x → Contains (filter p xs) x
  filter_contains [] x passes h = h
  filter_contains (y ∷ xs) x passes h = by (contains_cases y x xs h) (filter_contains xs x passes)
    where
      here : (b : Bool) → b ≡ true → y ≡ x → Contains (cond b (y ∷ filter p xs) (filter p xs)) x
      here true is e = subst (λ z. Contains (y ∷ filter p xs) z) e (contains_first y (filter p xs))
      here false is e = cc

      on : (b : Bool) → Contains (filter p xs) x → Contains (cond b (y ∷ filter p xs) (filter p xs)) x
      on true h = contains_later y x (filter p xs) h
      on false h = h

      by : (y ≡ x) ⊎ Contains xs x → (Contains xs x → Contains (filter p xs) x) → Contains (cond (p y) (y ∷ filter p xs) (filter p xs)) x
      by (inl e) more = here (p y) (ap p e ∙ passes) e
      by (inr h) more = on (p y) (more h)

  contains_filtered : (xs : List X) (x : X) → Contains (filter p xs) x → Contains xs x × (p x ≡ true)
  contains_filtered xs x h = (All-contains (Contains xs) (filter p xs) x (All-filter p (Contains xs) xs (All-contains_itself xs)) h, All-contains (λ y. p y ≡ true) (filter p xs) x (filter_passes p xs) h)

  filter_length : (xs : List X) → length (filter p xs) ≤ length xs
  filter_length [] = omega arith
  filter_length (x ∷ xs) = by (p x) (filter_length xs)
    where
      by : (b : Bool) → length (filter p xs) ≤ length xs → length (cond b (x ∷ filter p xs) (filter p xs)) ≤ length (x ∷ xs)
      by true h = omega (arith, h)
      by false h = omega (arith, h)

  filter_all : (xs : List X) → All (λ x. p x ≡ true) xs → filter p xs ≡ xs
  filter_all [] h = refl
  filter_all (x ∷ xs) h = by (p x) (All-head (λ y. p y ≡ true) x xs h) (filter_all xs (All-tail (λ y. p y ≡ true) x xs h))
    where
      by : (b : Bool) → b ≡ true → filter p xs ≡ xs → cond b (x ∷ filter p xs) (filter p xs) ≡ x ∷ xs
      by true is e = ap (λ l. x ∷ l) e
      by false is e = cc

-- ---- all

module _ {A : Type 0} (P : A → List ℕ → Type 0) (found : List (A × List ℕ)) (last : List ℕ) (good : AreGood P found last) where
  -- what is there has its word, and no other word than those after it
  good_first : (a : A) (word : List ℕ) → Contains found (a, word) → (other : List ℕ) → Before found a other → is_up_to word other ≡ true
  good_first a word here other h = subst (λ v. is_up_to v other ≡ true) (one_word found a h.0 word good.once h.1 here) h.2

  good_is : (a : A) (word : List ℕ) → Contains found (a, word) → P a word
  good_is a word here = All-contains (λ (e : A × List ℕ). P e.0 e.1) found (a, word) good.holds here

  kept_first : (most : ℕ) (a : A) (word : List ℕ) → Contains found (a, word) → (other : List ℕ) → IsKept most found a other → is_up_to word other ≡ true
  kept_first most a word here other (inl h) = good_first a word here other h
  kept_first most a word here other (inr h) = All-contains (λ (e : A × List ℕ). is_up_to e.1 other ≡ true) found (a, word) h.1 here

  pub are_firsts : ((a : A) (w : List ℕ) → P a w → Before found a w) → AreFirsts P found
  are_firsts every =
      record {
        all = λ a w h. let b = every a w h in (b.0, b.1);
        first = λ a word here. record { is = good_is a word here; first = λ other h. good_first a word here other (every a other h) };
        once = good.once;
        sorted = good.sorted;
      }

  pub are_first_ones : (most : ℕ) → length found ≤ most → ((a : A) (w : List ℕ) → P a w → IsKept most found a w) → AreFirstOnes most P found
  are_first_ones most few every =
      record {
        few = few;
        all = λ a w h. by a w (every a w h);
        first = λ a word here. record { is = good_is a word here; first = λ other h. kept_first most a word here other (every a other h) };
        once = good.once;
        sorted = good.sorted;
      }
    where
      by : (a : A) (w : List ℕ) → IsKept most found a w → HasWord found a ⊎ ((length found ≡ most) × All (λ f. is_up_to f.1 w ≡ true) found)
      by a w (inl b) = inl (b.0, b.1)
      by a w (inr full) = inr full

-- ---- those with short words

module _ {A : Type 0} (P : A → List ℕ → Type 0) (found : List (A × List ℕ)) (last : List ℕ) (good : AreGood P found last) (d : ℕ) where
  abbrev short : List (A × List ℕ)
  short = filter (is_within d) found

  shorter : (v w : List ℕ) → is_up_to v w ≡ true → length w ≤ d → nat_le (length v) d ≡ true
  shorter v w le few = le-leb (length v) d (omega (arith, up_to_length v w le, few))

  short_found : (a : A) (word : List ℕ) → Contains short (a, word) → Contains found (a, word) × (length word ≤ d)
  short_found a word h = let k = contains_filtered (is_within d) found (a, word) h in (k.0, leb-true (length word) d k.1)

  before_short : (a : A) (w : List ℕ) → length w ≤ d → Before found a w → HasWord short a
  before_short a w few b = (b.0, filter_contains (is_within d) found (a, b.0) (shorter b.0 w b.2 few) b.1)

  pub are_firsts_within : ((a : A) (w : List ℕ) → P a w → length w ≤ d → Before found a w) → AreFirsts (Within d P) (filter (is_within d) found)
  are_firsts_within every =
      record {
        all = λ a w h. before_short a w h.1 (every a w h.0 h.1);
        first = λ a word here. let k = short_found a word here in record { is = (good_is P found last good a word k.0, k.1); first = λ other h. good_first P found last good a word k.0 other (every a other h.0 h.1) };
        once = AllPairs-filter (λ (e f : A × List ℕ). e.0 ≢ f.0) (is_within d) found good.once;
        sorted = AllPairs-filter (λ (e f : A × List ℕ). is_up_to e.1 f.1 ≡ true) (is_within d) found good.sorted;
      }

  short_kept : (most : ℕ) (a : A) (w : List ℕ) → length w ≤ d → IsKept most found a w → HasWord short a ⊎ ((length short ≡ most) × All (λ f. is_up_to f.1 w ≡ true) short)
  short_kept most a w few (inl b) = inl (before_short a w few b)
  short_kept most a w few (inr full) = inr (ap length (filter_all (is_within d) found (λ k e lt. shorter (get_or found k e).1 w (full.1 k e lt) few)) ∙ full.0, All-filter (is_within d) (λ (e : A × List ℕ). is_up_to e.1 w ≡ true) found full.1)

  pub are_first_ones_within : (most : ℕ) → length found ≤ most → ((a : A) (w : List ℕ) → P a w → length w ≤ d → IsKept most found a w) → AreFirstOnes most (Within d P) (filter (is_within d) found)
  are_first_ones_within most few every =
      record {
        few = omega (arith, filter_length (is_within d) found, few);
        all = λ a w h. short_kept most a w h.1 (every a w h.0 h.1);
        first = λ a word here. let k = short_found a word here in record { is = (good_is P found last good a word k.0, k.1); first = λ other h. kept_first P found last good most a word k.0 other (every a other h.0 h.1) };
        once = AllPairs-filter (λ (e f : A × List ℕ). e.0 ≢ f.0) (is_within d) found good.once;
        sorted = AllPairs-filter (λ (e f : A × List ℕ). is_up_to e.1 f.1 ≡ true) (is_within d) found good.sorted;
      }
