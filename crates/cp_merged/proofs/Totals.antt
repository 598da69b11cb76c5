-- How many words a front is of.
use Rattle.std.proofs.Common.{◌≡◌, ◌+◌, ◌*◌, ◌≤◌, ◌^◌, ℕ, zero, suc, Bool, true, false, if◌then◌else◌, List, [], ◌∷◌, ◌++◌, arith}
use Rattle.cp_merged.proofs.Words.{System, ChoiceLimit, Node, Halted, Choosing, may, chosen, opened, Tally, Sameness, words_of, counts, total}
use Rattle.cp_merged.specs.Layers.{Lead, merged_lead, with_lead, merged_tally, with_tally, Front, arrived, after_choices, after_layer, at_limit, front_at, by_layers}

module _ {S : Type 0} (sys : System S) (same : Sameness) (eq : S → S → Bool) (steps : ℕ) where
  words_with : (xs : List (Lead S)) (x : Lead S) → words_of (with_lead eq xs x) ≡ words_of xs + x.count
  words_with [] x = omega arith
  words_with (y ∷ ys) x = by (eq y.state x.state) (words_with ys x)
    where
      by : (b : Bool) → words_of (with_lead eq ys x) ≡ words_of ys + x.count → words_of (if b then merged_lead y x ∷ ys else y ∷ with_lead eq ys x) ≡ y.count + words_of ys + x.count
      by true on = omega arith
      by false on = omega (arith, on)

  pub counts_with : (ts : List Tally) (t : Tally) → counts (with_tally same ts t) ≡ counts ts + t.count
  counts_with [] t = omega arith
  counts_with (u ∷ us) t = by (same u.first.outcome t.first.outcome) (counts_with us t)
    where
      by : (b : Bool) → counts (with_tally same us t) ≡ counts us + t.count → counts (if b then merged_tally u t ∷ us else u ∷ with_tally same us t) ≡ u.count + counts us + t.count
      by true on = omega arith
      by false on = omega (arith, on)

  pub total_arrived : (w : List ℕ) (n : ℕ) (node : Node S) (f : Front S) → total (arrived sys same eq w n node f) ≡ total f + n
  total_arrived w n (Halted kind s) f = let c = counts_with f.ended (record { first = record { word = w; outcome = record { kind = kind; output = sys.output s } }; count = n }) in omega (arith, c)
  total_arrived w n (Choosing s) f = let c = words_with f.layer (record { state = s; first = w; count = n }) in omega (arith, c)

  pub total_choices : (x : Lead S) (n : ℕ) (f : Front S) → total (after_choices sys same eq steps x n f) ≤ total f + n * x.count
  total_choices x zero f = omega arith
  total_choices x (suc n) f = by (may sys x.state n) (total_choices x n f)
    where
      g : Front S
      g = after_choices sys same eq steps x n f

      by : (b : Bool) → total g ≤ total f + n * x.count → total (if b then arrived sys same eq (x.first ++ n ∷ []) x.count (chosen sys steps x.state n) g else g) ≤ total f + suc n * x.count
      by true l = let a = total_arrived (x.first ++ n ∷ []) x.count (chosen sys steps x.state n) g in grind (arith, a, l)
      by false l = grind (arith, l)

  fewer : (m n c : ℕ) → m ≤ n → m * c ≤ n * c
  fewer m n c l = grind arith

  pub total_layer : sys.processes ≤ 16 → (xs : List (Lead S)) (f : Front S) → total (after_layer sys same eq steps xs f) ≤ total f + 16 * words_of xs
  total_layer few [] f = omega arith
  total_layer few (x ∷ xs) f =
      let rest = total_layer few xs (after_choices sys same eq steps x sys.processes f) in
      let here = total_choices x sys.processes f in
      let l = fewer sys.processes 16 x.count few in
      omega (arith, rest, here, l)

  -- of d choices there are at most 16^d words
  pub total_at : sys.processes ≤ 16 → (d : ℕ) → total (front_at sys same eq steps d) ≤ 16 ^ d
  unfolding front_at
  total_at few zero = let a = total_arrived [] 1 (opened sys steps) (record { ended = []; layer = [] }) in omega (arith, a)
  total_at few (suc d) =
      let f = front_at sys same eq steps d in
      let on = total_at few d in
      let l = total_layer few f.layer (record { ended = f.ended; layer = [] }) in
      grind (arith, on, l)

  pub counts_limit : (xs : List (Lead S)) (ts : List Tally) → counts (at_limit sys same xs ts) ≡ counts ts + words_of xs
  counts_limit [] ts = omega arith
  counts_limit (x ∷ xs) ts =
      let t : Tally = record { first = record { word = x.first; outcome = record { kind = ChoiceLimit; output = sys.output x.state } }; count = x.count } in
      let on = counts_limit xs (with_tally same ts t) in
      let here = counts_with ts t in
      omega (arith, on, here)

  -- the table has at most 16^choices rows
  pub counts_by : sys.processes ≤ 16 → (choices : ℕ) → counts (by_layers sys same eq choices steps) ≤ 16 ^ choices
  unfolding by_layers
  counts_by few choices =
      let f = front_at sys same eq steps choices in
      let all = total_at few choices in
      let limit = counts_limit f.layer f.ended in
      omega (arith, all, limit)
