-- A lead goes one choice on with the processes of a list, one after the other.
use Rattle.std.proofs.Common.{◌≡◌, ◌∙◌, ⊎_elim, ◌+◌, ◌*◌, ◌<◌, ◌≤◌, ◌^◌, get_or, ℕ, zero, suc, Bool, true, false, if◌then◌else◌, List, [], ◌∷◌, ◌++◌, length, Result, Ok, Err, IfOk, refl, sym, ap, arith}
use Rattle.std.proofs.lemmas.Bool.{cases_lt}
use Rattle.std.proofs.Math.ListN.{get_or-append}
use Rattle.std.proofs.Math.Seq.{get_or-append_seam}
use Rattle.cp_merged.proofs.Words.{length-append, System, may, chosen, those_below, Sameness, Lead, Front, arrived, after_choice, after_choices, total}
use Rattle.cp_walk.proofs.Branches.{append_none}
use Rattle.cp_merged.proofs.Totals.{total_arrived}

pub ok_to : {A E : Type 0} (r : Result A E) (P Q : A → Type 0) → IfOk r P → ((a : A) → P a → Q a) → IfOk r Q
ok_to (Ok a) P Q h f = f a h
ok_to (Err e) P Q h f = h

pub ok_any : {A E : Type 0} (r : Result A E) (P : Type 0) → P → IfOk r (λ _. P)
ok_any (Ok a) P h = h
ok_any (Err e) P h = tt

pub length_those : (n : ℕ) (f : ℕ → Bool) → length (those_below n f) ≤ n
length_those zero f = omega arith
length_those (suc n) f = by (f n) (length_those n f)
  where
    by : (b : Bool) → length (those_below n f) ≤ n → length (those_below n f ++ (if b then n ∷ [] else [])) ≤ suc n
    by true l = let a = length-append (those_below n f) (n ∷ []) in omega (arith, a, l)
    by false l = let a = length-append (those_below n f) [] in omega (arith, a, l)

-- each of the numbers that pass a test passes it
those_pass : (f : ℕ → Bool) (n i : ℕ) → i < length (those_below n f) → f (get_or (those_below n f) i 0) ≡ true
those_pass f zero i lt = absurd (omega (arith, lt))
those_pass f (suc n) i lt = by (f n) refl lt (those_pass f n i)
  where
    xs : List ℕ
    xs = those_below n f

    last : (b : Bool) → f n ≡ b → i < length (xs ++ (if b then n ∷ [] else [])) → length xs ≤ i → f (get_or (xs ++ (if b then n ∷ [] else [])) i 0) ≡ true
    last false e l above = absurd (omega (arith, l, above, ap length (append_none xs)))
    last true e l above =
        let at : i ≡ length xs = omega (arith, l, above, length-append xs (n ∷ [])) in
        ap f (ap (λ k. get_or (xs ++ n ∷ []) k 0) at ∙ get_or-append_seam xs n [] 0) ∙ e

    by : (b : Bool) → f n ≡ b → i < length (xs ++ (if b then n ∷ [] else [])) → (i < length xs → f (get_or xs i 0) ≡ true) → f (get_or (xs ++ (if b then n ∷ [] else [])) i 0) ≡ true
    by b e l on = ⊎_elim (λ (below : i < length xs). ap f (get_or-append xs (if b then n ∷ [] else []) 0 i below) ∙ on below) (λ (above : length xs ≤ i). last b e l above) (cases_lt i (length xs))

-- each of the numbers that may be chosen may be
pub may_those : {S : Type 0} (sys : System S) (s : S) (all : List ℕ) → all ≡ those_below sys.processes (may sys s) → (i : ℕ) → i < length all → may sys s (get_or all i 0) ≡ true
may_those sys s all is i lt =
    let e = ap length is in
    ap (λ l. may sys s (get_or l i 0)) is ∙ those_pass (may sys s) sys.processes i (omega (arith, lt, e))

module _ {S : Type 0} (sys : System S) (same : Sameness) (eq : S → S → Bool) (steps : ℕ) (x : Lead S) where
  abbrev pub after_list : List ℕ → Front S → Front S
  after_list [] f = f
  after_list (p ∷ ps) f = after_list ps (after_choice sys same eq steps x p f)

  pub list_append : (ps qs : List ℕ) (f : Front S) → after_list (ps ++ qs) f ≡ after_list qs (after_list ps f)
  list_append [] qs f = refl
  list_append (p ∷ ps) qs f = list_append ps qs (after_choice sys same eq steps x p f)

  -- those that may be chosen are all that lead on
  pub list_those : (n : ℕ) (f : Front S) → after_list (those_below n (may sys x.state)) f ≡ after_choices sys same eq steps x n f
  list_those zero f = refl
  list_those (suc n) f =
      list_append (those_below n (may sys x.state)) (if may sys x.state n then n ∷ [] else []) f ∙ ap (after_list (if may sys x.state n then n ∷ [] else [])) (list_those n f) ∙ one (may sys x.state n) refl
    where
      g : Front S
      g = after_choices sys same eq steps x n f

      one : (b : Bool) → may sys x.state n ≡ b → after_list (if b then n ∷ [] else []) g ≡ after_choice sys same eq steps x n g
      one true e = refl
      one false e = sym (ap (λ c. if c then arrived sys same eq (x.first ++ n ∷ []) x.count (chosen sys steps x.state n) g else g) e)

  total_one : (p : ℕ) (f : Front S) → total (after_choice sys same eq steps x p f) ≤ total f + x.count
  total_one p f = by (may sys x.state p)
    where
      by : (b : Bool) → total (if b then arrived sys same eq (x.first ++ p ∷ []) x.count (chosen sys steps x.state p) f else f) ≤ total f + x.count
      by true = let a = total_arrived sys same eq steps (x.first ++ p ∷ []) x.count (chosen sys steps x.state p) f in omega (arith, a)
      by false = omega arith

  total_list : (ps : List ℕ) (f : Front S) → total (after_list ps f) ≤ total f + length ps * x.count
  total_list [] f = omega arith
  total_list (p ∷ ps) f =
      let on = total_list ps (after_choice sys same eq steps x p f) in
      let here = total_one p f in
      let more : suc (length ps) * x.count ≡ x.count + length ps * x.count = grind arith in
      omega (arith, on, here, more)

  fewer : (m n c : ℕ) → m ≤ n → m * c ≤ n * c
  fewer m n c l = grind arith

  -- words that lead on with one process more of at most 16 are few enough
  pub room_for_one : (ps : List ℕ) (f : Front S) → length ps < 16 → total f + 16 * x.count < 10 ^ 126 → total (after_list ps f) + x.count < 10 ^ 126
  room_for_one ps f l small =
      let a = total_list ps f in
      let b = fewer (suc (length ps)) 16 x.count (omega (arith, l)) in
      let c : suc (length ps) * x.count ≡ length ps * x.count + x.count = grind arith in
      omega (arith, a, b, c, small)

  -- with one process more
  pub list_more : (ps : List ℕ) (p : ℕ) (f : Front S) → after_list (ps ++ p ∷ []) f ≡ after_choice sys same eq steps x p (after_list ps f)
  list_more ps p f = list_append ps (p ∷ []) f

  pub list_none : (ps : List ℕ) (f : Front S) → length ps ≡ 0 → after_list ps f ≡ f
  list_none [] f e = refl
  list_none (p ∷ ps) f e = absurd (omega (arith, e))
