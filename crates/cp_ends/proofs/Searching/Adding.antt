-- What a list of things with their first words keeps when a thing comes again or anew.
use Rattle.std.proofs.Common.{◌≡◌, ◌⊎◌, inl, inr, ⊎_elim, ◌<◌, ◌≤◌, ℕ, Bool, true, false, List, [], ◌∷◌, ◌++◌, length, refl, sym, subst, arith, length-append}
use Rattle.std.specs.Prelude.{◌≢◌, All, AllPairs, Contains, Decides, if◌then◌else◌, nat_lt}
use Rattle.std.proofs.lemmas.Bool.{ltb-true, ltb-false, le-ltb}
use Rattle.std.proofs.lemmas.List.Elements.{All-nil, All-cons, All-head, All-tail, All-push, All-weaker, All-get_or, Contains-push}
use Rattle.std.proofs.lemmas.List.Quantifiers.{all_pairs_push}
use Rattle.cp_ends.specs.Firsts.{is_up_to, HasWord}
use Rattle.cp_ends.specs.Searched.{Grows, has, with_first, with_values}
use Rattle.cp_ends.proofs.Searching.Words.{up_to_same, up_to_joined}
use Rattle.cp_ends.proofs.Searching.Lists.{Before, all_at, before_grown, contains_cases, contains_first, contains_later, grows_joined, grows_push, grows_same, place_of}

-- each has a word for which P holds, once, in the order of the words, which go up to `last`
pub record AreGood {A : Type 0} (P : A → List ℕ → Type 0) (found : List (A × List ℕ)) (last : List ℕ) : Type 0 where
  pub holds : All (λ e. P e.0 e.1) found
  pub once : AllPairs (λ f h. f.0 ≢ h.0) found
  pub sorted : AllPairs (λ f h. is_up_to f.1 h.1 ≡ true) found
  pub upto : All (λ e. is_up_to e.1 last ≡ true) found

-- a test of whether two that words lead to are the same
abbrev pub Tells : {A : Type 0} → (A → List ℕ → Type 0) → (A → A → Bool) → Type 0
Tells {A} P eq = (a b : A) (v w : List ℕ) → P a v → P b w → Decides (eq a b) (a ≡ b)

-- it is kept with a word up to this one, or as many as are kept come before it
abbrev pub IsKept : {A : Type 0} → ℕ → List (A × List ℕ) → A → List ℕ → Type 0
IsKept most found a w = Before found a w ⊎ ((length found ≡ most) × All (λ e. is_up_to e.1 w ≡ true) found)

module _ {A : Type 0} (P : A → List ℕ → Type 0) where
  pub good_none : (last : List ℕ) → AreGood P [] last
  good_none last =
      record {
        holds = All-nil (λ (e : A × List ℕ). P e.0 e.1);
        once = λ i j d lt within. absurd (omega (arith, lt, within));
        sorted = λ i j d lt within. absurd (omega (arith, lt, within));
        upto = All-nil (λ (e : A × List ℕ). is_up_to e.1 last ≡ true);
      }

  pub good_later : (found : List (A × List ℕ)) (v w : List ℕ) → AreGood P found v → is_up_to v w ≡ true → AreGood P found w
  good_later found v w h le =
      record {
        holds = h.holds;
        once = h.once;
        sorted = h.sorted;
        upto = All-weaker (λ (e : A × List ℕ). is_up_to e.1 v ≡ true) (λ (e : A × List ℕ). is_up_to e.1 w ≡ true) (λ e up. up_to_joined e.1 v w up le) found h.upto;
      }

  pub good_push : (found : List (A × List ℕ)) (a : A) (w : List ℕ) → AreGood P found w → P a w → All (λ e. e.0 ≢ a) found → AreGood P (found ++ (a, w) ∷ []) w
  good_push found a w h is new =
      record {
        holds = All-push (λ (e : A × List ℕ). P e.0 e.1) found (a, w) h.holds is;
        once = all_pairs_push (λ (e f : A × List ℕ). e.0 ≢ f.0) found (a, w) h.once (λ k d lt. All-get_or (λ (e : A × List ℕ). e.0 ≢ a) found k d lt new);
        sorted = all_pairs_push (λ (e f : A × List ℕ). is_up_to e.1 f.1 ≡ true) found (a, w) h.sorted (λ k d lt. All-get_or (λ (e : A × List ℕ). is_up_to e.1 w ≡ true) found k d lt h.upto);
        upto = All-push (λ (e : A × List ℕ). is_up_to e.1 w ≡ true) found (a, w) h.upto (up_to_same w);
      }

-- ---- one thing

pub first_grows : {A : Type 0} (eq : A → A → Bool) (found : List (A × List ℕ)) (a : A) (w : List ℕ) → Grows found (with_first eq found a w)
first_grows {A} eq found a w = by (has eq found a)
  where
    by : (b : Bool) → Grows found (if b then found else found ++ (a, w) ∷ [])
    by true = grows_same found
    by false = grows_push found (a, w)

module _ {A : Type 0} (P : A → List ℕ → Type 0) (eq : A → A → Bool) (tells : Tells P eq) where
  has_word : (found : List (A × List ℕ)) (a : A) (w : List ℕ) → All (λ e. P e.0 e.1) found → P a w → has eq found a ≡ true → HasWord found a
  has_word [] a w are is h = cc
  has_word (f ∷ fs) a w are is h = by (eq f.0 a) (tells f.0 a f.1 w (All-head (λ (e : A × List ℕ). P e.0 e.1) f fs are) is).0 (has_word fs a w (All-tail (λ (e : A × List ℕ). P e.0 e.1) f fs are) is) h
    where
      by : (b : Bool) → (b ≡ true → f.0 ≡ a) → (has eq fs a ≡ true → HasWord fs a) → (if b then true else has eq fs a) ≡ true → HasWord (f ∷ fs) a
      by true same on e = (f.1, subst (λ c. Contains (f ∷ fs) (c, f.1)) (same refl) (contains_first f fs))
      by false same on e = let h = on e in (h.0, contains_later f (a, h.0) fs h.1)

  pub has_none : (found : List (A × List ℕ)) (a : A) (w : List ℕ) → All (λ e. P e.0 e.1) found → P a w → has eq found a ≡ false → All (λ e. e.0 ≢ a) found
  has_none [] a w are is h = All-nil (λ (e : A × List ℕ). e.0 ≢ a)
  has_none (f ∷ fs) a w are is h = by (eq f.0 a) (tells f.0 a f.1 w (All-head (λ (e : A × List ℕ). P e.0 e.1) f fs are) is).1 (has_none fs a w (All-tail (λ (e : A × List ℕ). P e.0 e.1) f fs are) is) h
    where
      by : (b : Bool) → (f.0 ≡ a → b ≡ true) → (has eq fs a ≡ false → All (λ e. e.0 ≢ a) fs) → (if b then true else has eq fs a) ≡ false → All (λ e. e.0 ≢ a) (f ∷ fs)
      by true same on e = cc
      by false same on e = All-cons (λ (e : A × List ℕ). e.0 ≢ a) f fs (λ is. let no : ◌≡◌ {A = Bool} false true = same is in cc) (on e)

  pub first_good : (found : List (A × List ℕ)) (a : A) (w : List ℕ) → AreGood P found w → P a w → AreGood P (with_first eq found a w) w
  first_good found a w h is = by (has eq found a) (has_none found a w h.holds is)
    where
      by : (b : Bool) → (b ≡ false → All (λ e. e.0 ≢ a) found) → AreGood P (if b then found else found ++ (a, w) ∷ []) w
      by true none = h
      by false none = good_push P found a w h is (none refl)

  pub first_before : (found : List (A × List ℕ)) (a : A) (w : List ℕ) → AreGood P found w → P a w → Before (with_first eq found a w) a w
  first_before found a w h is = by (has eq found a) (has_word found a w h.holds is)
    where
      by : (b : Bool) → (b ≡ true → HasWord found a) → Before (if b then found else found ++ (a, w) ∷ []) a w
      by true word = let is = word refl in let at = place_of found (a, is.0) is.1 in (is.0, is.1, all_at (λ (e : A × List ℕ). is_up_to e.1 w ≡ true) found at.0 (a, is.0) h.upto at.1)
      by false word = (w, Contains-push found (a, w), up_to_same w)

-- ---- values

module _ {V : Type 0} (eq : V → V → Bool) (most : ℕ) where
  -- with one more value, if there is room
  abbrev kept : List (V × List ℕ) → V → List ℕ → List (V × List ℕ)
  kept found v w = if nat_lt (length found) most then with_first eq found v w else found

  kept_grows : (found : List (V × List ℕ)) (v : V) (w : List ℕ) → Grows found (kept found v w)
  kept_grows found v w = by (nat_lt (length found) most)
    where
      by : (b : Bool) → Grows found (if b then with_first eq found v w else found)
      by true = first_grows eq found v w
      by false = grows_same found

  pub values_grow : (found : List (V × List ℕ)) (shown : List V) (w : List ℕ) → Grows found (with_values eq most found shown w)
  values_grow found [] w = grows_same found
  values_grow found (v ∷ shown) w = grows_joined found (kept found v w) (with_values eq most (kept found v w) shown w) (kept_grows found v w) (values_grow (kept found v w) shown w)

  kept_few : (found : List (V × List ℕ)) (v : V) (w : List ℕ) → length found ≤ most → length (kept found v w) ≤ most
  kept_few found v w few = by (nat_lt (length found) most) (ltb-true (length found) most) (has eq found v)
    where
      by : (b : Bool) → (b ≡ true → length found < most) → (c : Bool) → length (if b then (if c then found else found ++ (v, w) ∷ []) else found) ≤ most
      by true room true = few
      by true room false = omega (arith, room refl, length-append found ((v, w) ∷ []))
      by false room c = few

  pub values_few : (found : List (V × List ℕ)) (shown : List V) (w : List ℕ) → length found ≤ most → length (with_values eq most found shown w) ≤ most
  values_few found [] w few = few
  values_few found (v ∷ shown) w few = values_few (kept found v w) shown w (kept_few found v w few)

  -- nothing is added to as many as are kept
  pub values_full : (found : List (V × List ℕ)) (shown : List V) (w : List ℕ) → most ≤ length found → with_values eq most found shown w ≡ found
  values_full found [] w full = refl
  values_full found (v ∷ shown) w full = subst (λ l. with_values eq most l shown w ≡ found) (sym (by (nat_lt (length found) most) (le-ltb (length found) most full))) (values_full found shown w full)
    where
      by : (b : Bool) → b ≡ false → (if b then with_first eq found v w else found) ≡ found
      by true e = cc
      by false e = refl

  -- what is kept stays kept
  pub kept_stays : (found : List (V × List ℕ)) (shown : List V) (w : List ℕ) (v : V) (u : List ℕ) → IsKept most found v u → IsKept most (with_values eq most found shown w) v u
  kept_stays found shown w v u (inl before) = inl (before_grown found (with_values eq most found shown w) v u (values_grow found shown w) before)
  kept_stays found shown w v u (inr full) = let same = values_full found shown w (let e = full.0 in omega (arith, e)) in subst (λ l. IsKept most l v u) (sym same) (inr full)

module _ {V : Type 0} (P : V → List ℕ → Type 0) (eq : V → V → Bool) (tells : Tells P eq) (most : ℕ) where
  kept_good : (found : List (V × List ℕ)) (v : V) (w : List ℕ) → AreGood P found w → P v w → AreGood P (kept eq most found v w) w
  kept_good found v w h is = by (nat_lt (length found) most)
    where
      by : (b : Bool) → AreGood P (if b then with_first eq found v w else found) w
      by true = first_good P eq tells found v w h is
      by false = h

  pub values_good : (found : List (V × List ℕ)) (shown : List V) (w : List ℕ) → AreGood P found w → ((v : V) → Contains shown v → P v w) → AreGood P (with_values eq most found shown w) w
  values_good found [] w h are = h
  values_good found (v ∷ shown) w h are = values_good (kept eq most found v w) shown w (kept_good found v w h (are v (contains_first v shown))) (λ x c. are x (contains_later v x shown c))

  kept_here : (found : List (V × List ℕ)) (v : V) (w : List ℕ) → length found ≤ most → AreGood P found w → P v w → IsKept most (kept eq most found v w) v w
  kept_here found v w few h is = by (nat_lt (length found) most) (ltb-false (length found) most)
    where
      by : (b : Bool) → (b ≡ false → most ≤ length found) → IsKept most (if b then with_first eq found v w else found) v w
      by true full = inl (first_before P eq tells found v w h is)
      by false full = inr (let le = full refl in omega (arith, le, few), h.upto)

  pub values_kept : (found : List (V × List ℕ)) (shown : List V) (w : List ℕ) → length found ≤ most → AreGood P found w → ((v : V) → Contains shown v → P v w) → (v : V) → Contains shown v → IsKept most (with_values eq most found shown w) v w
  values_kept found [] w few h are v c = let lt = c.1 in absurd (omega (arith, lt))
  values_kept found (x ∷ shown) w few h are v c =
      let more = kept eq most found x w in
      let is : P x w = are x (contains_first x shown) in
      ⊎_elim (λ (e : x ≡ v). subst (λ y. IsKept most (with_values eq most more shown w) y w) e (kept_stays eq most more shown w x w (kept_here found x w few h is)))
      (λ (on : Contains shown v). values_kept more shown w (kept_few eq most found x w few) (kept_good found x w h is) (λ y d. are y (contains_later x y shown d)) v on) (contains_cases x v shown c)
