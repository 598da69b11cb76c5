-- An end or a value more is found.
use Rattle.std.proofs.Common.{◌≡◌, ◌∙◌, ◌⊎◌, inl, inr, ⊎_elim, ◌+◌, ◌<◌, ◌≤◌, ◌||◌, ℕ, List, [], ◌∷◌, ◌++◌, Bool, true, length, take, drop, sym, ap, subst, arith}
use Rattle.std.specs.Prelude.{All, insert, nat_lt}
use Rattle.cp_at_once.proofs.Words.{list_any, Tables, Shown, Machine, ends_tests, LeadsToEnd, ShowsLast, End, HasWord, Holds, IsWordOf, FoundAtOnce}
use Rattle.cp_at_once.proofs.Words.{OriginAtOnce}
use Rattle.std.proofs.lemmas.Bool.{cases_lt, lt-ltb, ltb-true}
use Rattle.std.proofs.lemmas.List.{length-append, length-take-le, take_all, take-append-drop}
use Rattle.std.proofs.lemmas.List.Elements.{All-append, All-cons, All-drop, All-nil, All-take, All-weaker}
use Rattle.std.proofs.lemmas.List.Folds.{list_any-append}
use Rattle.cp_at_once.specs.Following.{Grows, NotesEnd, NotesValues, SlotGraph, knows_value}
use Rattle.cp_at_once.specs.declared.found.EndAtOnce.{EndAtOnce}
use Rattle.cp_at_once.specs.declared.found.ValueAtOnce.{ValueAtOnce}
use Rattle.std.specs.declared.alloc.Global.{Global}
use Rattle.std.specs.declared.vec.Vec.{Vec}
use Rattle.cp_resolved.proofs.names.PermanentNames.{left_true as or_true}
use Rattle.cp_meaning.proofs.Good.{or_cases, or_right}

-- ---- what is found stays found

pub grows_same : (f : FoundAtOnce) (states : List (Machine × List ℕ)) → Grows f states f states
grows_same f states = record { ends = λ e h. h; values = λ v h. h; kept = λ m h. h; places = λ i x h. h }

pub grows_on : (f g h : FoundAtOnce) (a b c : List (Machine × List ℕ)) → Grows f a g b → Grows g b h c → Grows f a h c
grows_on f g h a b c m n =
    record {
      ends = λ e k. n.ends e (m.ends e k);
      values = λ v k. n.values v (m.values v k);
      kept = λ s k. n.kept s (m.kept s k);
      places = λ i x k. n.places i x (m.places i x k);
    }

-- ---- tests of a list with one more

module _ {X : Type 0} (p : X → Bool) (xs : List X) (at : ℕ) (x : X) where
  pub any_new : p x ≡ true → list_any p (insert xs at x) ≡ true
  any_new h = list_any-append p (take at xs) (x ∷ drop at xs) ∙ or_right (list_any p (take at xs)) (list_any p (x ∷ drop at xs)) (or_true (p x) (list_any p (drop at xs)) h)

  pub any_stays : list_any p xs ≡ true → list_any p (insert xs at x) ≡ true
  any_stays h =
      list_any-append p (take at xs) (x ∷ drop at xs)
      ∙ by (or_cases (list_any p (take at xs)) (list_any p (drop at xs)) (sym (list_any-append p (take at xs) (drop at xs)) ∙ ap (list_any p) (take-append-drop at xs) ∙ h))
    where
      by : (list_any p (take at xs) ≡ true) ⊎ (list_any p (drop at xs) ≡ true) → (list_any p (take at xs) || (p x || list_any p (drop at xs))) ≡ true
      by (inl a) = or_true (list_any p (take at xs)) (p x || list_any p (drop at xs)) a
      by (inr b) = or_right (list_any p (take at xs)) (p x || list_any p (drop at xs)) (or_right (p x) (list_any p (drop at xs)) b)

module _ {X : Type 0} (xs : List X) (at : ℕ) (x : X) where
  pub length_insert : length (insert xs at x) ≡ length xs + 1
  length_insert =
      let a = length-append (take at xs) (x ∷ drop at xs) in
      let b = length-append (take at xs) (drop at xs) in
      let c = ap length (take-append-drop at xs) in
      omega (arith, a, b, c)

  pub all_insert : (P : X → Type 0) → All P xs → P x → All P (insert xs at x)
  all_insert P h k = All-append P (take at xs) (x ∷ drop at xs) (All-take P at xs h) (All-cons P x (drop at xs) k (All-drop P at xs h))

-- of a list that is cut at 1,001: found, or the list is full
any_cut : {X : Type 0} (p : X → Bool) (ys : List X) → list_any p ys ≡ true → (list_any p (take 1001 ys) || nat_lt 1000 (length (take 1001 ys))) ≡ true
any_cut p ys h = ⊎_elim few many (cases_lt 1001 (length ys))
  where
    few : 1001 < length ys → (list_any p (take 1001 ys) || nat_lt 1000 (length (take 1001 ys))) ≡ true
    few lt = or_right (list_any p (take 1001 ys)) _ (let l = length-take-le 1001 ys (omega (arith, lt)) in lt-ltb 1000 (length (take 1001 ys)) (omega (arith, l)))

    many : length ys ≤ 1001 → (list_any p (take 1001 ys) || nat_lt 1000 (length (take 1001 ys))) ≡ true
    many le = or_true (list_any p (take 1001 ys)) _ (ap (list_any p) (take_all 1001 ys le) ∙ h)

full_cut : {X : Type 0} (p : X → Bool) (ys : List X) → 1001 ≤ length ys → (list_any p (take 1001 ys) || nat_lt 1000 (length (take 1001 ys))) ≡ true
full_cut p ys many = or_right (list_any p (take 1001 ys)) _ (let l = length-take-le 1001 ys many in lt-ltb 1000 (length (take 1001 ys)) (omega (arith, l)))

-- ---- an end

module _ (r : Tables) (g : SlotGraph) (most : ℕ) (found : FoundAtOnce) (states : List (Machine × List ℕ)) (word : List ℕ) (h : Holds r g most found states) where
  pub end_again : (e : End) → list_any (λ x. ends_tests.end x.end e) found.ends.items ≡ true → NotesEnd r g most found states found e
  end_again e again = (h, grows_same found states, again)

  pub end_new : (e : End) (o : OriginAtOnce) (at : ℕ) (same : ends_tests.end e e ≡ true) → IsWordOf states o word → LeadsToEnd g e word → (ends : Vec EndAtOnce Global) → ends.items ≡ insert found.ends.items at (record { end = e; origin = o }) → NotesEnd r g most found states (record found { ends = ends }) e
  end_new e o at same is leads ends put = (
    record {
      kept = h.kept;
      few = h.few;
      reached = h.reached;
      ends = subst (All P) (sym put) (all_insert found.ends.items at x P h.ends (word, is, leads));
      values = h.values;
    },
    record {
      ends = λ d k. ap (list_any (test d)) put ∙ any_stays (test d) found.ends.items at x k;
      values = λ v k. k;
      kept = λ m k. k;
      places = λ i y k. k;
    },
    ap (list_any (test e)) put ∙ any_new (test e) found.ends.items at x same,
  )
    where
      x : EndAtOnce
      x = record { end = e; origin = o }

      P : EndAtOnce → Type 0
      P y = HasWord states y.origin (LeadsToEnd g y.end)

      test : End → EndAtOnce → Bool
      test d y = ends_tests.end y.end d

  -- ---- a value

  pub value_again : (v : Shown) → list_any (λ x. ends_tests.value x.value v) found.values.items ≡ true → NotesValues r g most found states found (v ∷ [])
  value_again v again = (h, grows_same found states, All-cons (λ u. knows_value found u ≡ true) v [] (or_true (list_any (λ x. ends_tests.value x.value v) found.values.items) _ again) (All-nil (λ u. knows_value found u ≡ true)))

  pub value_new : (v : Shown) (o : OriginAtOnce) (at : ℕ) (same : ends_tests.value v v ≡ true) → IsWordOf states o word → ShowsLast g v word → (values : Vec ValueAtOnce Global) → values.items ≡ take 1001 (insert found.values.items at (record { value = v; origin = o })) → NotesValues r g most found states (record found { values = values }) (v ∷ [])
  value_new v o at same is shows values put = (
    record {
      kept = h.kept;
      few = h.few;
      reached = h.reached;
      ends = h.ends;
      values = subst (All P) (sym put) (All-take P 1001 (insert found.values.items at x) (all_insert found.values.items at x P h.values (word, is, shows)));
    },
    record {
      ends = λ d k. k;
      values = λ u k. subst (λ l. (list_any (test u) l || nat_lt 1000 (length l)) ≡ true) (sym put) (stays u (or_cases (list_any (test u) found.values.items) _ k));
      kept = λ m k. k;
      places = λ i y k. k;
    },
    All-cons (λ u. knows_value (record found { values = values }) u ≡ true) v [] (subst (λ l. (list_any (test v) l || nat_lt 1000 (length l)) ≡ true) (sym put) (any_cut (test v) (insert found.values.items at x) (any_new (test v) found.values.items at x same))) (All-nil (λ u. knows_value (record found { values = values }) u ≡ true)),
  )
    where
      x : ValueAtOnce
      x = record { value = v; origin = o }

      P : ValueAtOnce → Type 0
      P y = HasWord states y.origin (ShowsLast g y.value)

      test : Shown → ValueAtOnce → Bool
      test u y = ends_tests.value y.value u

      stays : (u : Shown) → (list_any (test u) found.values.items ≡ true) ⊎ (nat_lt 1000 (length found.values.items) ≡ true) → (list_any (test u) (take 1001 (insert found.values.items at x)) || nat_lt 1000 (length (take 1001 (insert found.values.items at x)))) ≡ true
      stays u (inl k) = any_cut (test u) (insert found.values.items at x) (any_stays (test u) found.values.items at x k)
      stays u (inr full) = let lt = ltb-true 1000 (length found.values.items) full in let l = length_insert found.values.items at x in full_cut (test u) (insert found.values.items at x) (omega (arith, lt, l))

-- ---- values

module _ (r : Tables) (g : SlotGraph) (most : ℕ) (before : FoundAtOnce) (states : List (Machine × List ℕ)) where
  pub values_none : Holds r g most before states → NotesValues r g most before states before []
  values_none h = (h, grows_same before states, All-nil (λ v. knows_value before v ≡ true))

  pub values_more : (mid : FoundAtOnce) (vs : List Shown) → NotesValues r g most before states mid vs → (after : FoundAtOnce) (v : Shown) → NotesValues r g most mid states after (v ∷ []) → NotesValues r g most before states after (vs ++ v ∷ [])
  values_more mid vs n after v k = (
    k.0,
    grows_on before mid after states states states n.1 k.1,
    All-append (λ u. knows_value after u ≡ true) vs (v ∷ []) (All-weaker (λ u. knows_value mid u ≡ true) (λ u. knows_value after u ≡ true) (λ u e. k.1.values u e) vs n.2) k.2,
  )
