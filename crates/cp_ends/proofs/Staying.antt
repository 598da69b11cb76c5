-- A leg that touches places of one half alone stays within it.
use Rattle.std.proofs.Common.{◌≡◌, ◌∙◌, ◌⊎◌, inl, inr, ◌+◌, ◌-◌, ◌/◌, ◌++◌, ◌<◌, ◌≤◌, ℕ, Bool, List, [], ◌∷◌, true, false, ap, arith, drop, length, refl, sym, take}
use Rattle.std.specs.Prelude.{◌==◌, ◌||◌, All, if◌then◌else◌, map, nat_lt, not}
use Rattle.std.proofs.Math.Nat.{div-le_self}
use Rattle.std.proofs.lemmas.Bool.{cases_lt, eq-eqb, eqb-true, false≢true, le-ltb, lt-ltb, ltb-false, ltb-true}
use Rattle.std.proofs.lemmas.List.{ext_get_or, get_or_append_left, get_or-append_right, get_or-drop, get_or-take, length-drop, length-take-le}
use Rattle.std.proofs.lemmas.List.Elements.{All-weaker}
use Rattle.std.proofs.lemmas.List.Folds.{list_any_none}
use Rattle.cp_states.specs.Numbers.{number_at}
use Rattle.cp_parts.specs.declared.placing.PlaceTable.{PlaceTable}
use Rattle.cp_parts.specs.Placed.{place_count}
use Rattle.cp_effects.specs.declared.changes.Write.{Write}
use Rattle.cp_effects.specs.Changes.{is_written, numbers_at, part_position, written}
use Rattle.cp_effects.specs.Noting.{among}
use Rattle.cp_effects.proofs.Written.{written_alike, written_elsewhere, written_long}
use Rattle.cp_ends.specs.Halves.{cuts_of, dealt, half_in, is_in_first, statuses_in, width_of}
use Rattle.cp_ends.proofs.Dealing.{dealt_in_three, far_long, near_long}

module _ (t : PlaceTable) where
  abbrev a : ℕ
  a = t.processes / 2

  abbrev b : ℕ
  b = t.processes - t.processes / 2

  abbrev n : ℕ
  n = t.monitors / 2

  few : a ≤ t.processes
  few = div-le_self t.processes 2

  fewer : n ≤ t.monitors
  fewer = div-le_self t.monitors 2

  -- how long a half is
  abbrev long : Bool → ℕ
  long true = a + n
  long false = b + (t.monitors - n)

  module _ (row : List ℕ) (wide : length row ≡ width_of t) where
    abbrev q : List ℕ
    q = drop (t.processes + 1) row

    q_long : length q ≡ t.processes + t.monitors
    q_long = omega (arith, wide, length-drop (t.processes + 1) row)

    within : a + b + n ≤ length q
    within = omega (arith, q_long, few, fewer)

    half_long : (is_first : Bool) → length (half_in t is_first row) ≡ long is_first
    half_long true = near_long a b n q (dealt (cuts_of t) q).0 (dealt (cuts_of t) q).1 refl within
    half_long false = let l = far_long a b n q (dealt (cuts_of t) q).0 (dealt (cuts_of t) q).1 refl within in omega (arith, l, q_long, few, fewer)

    first_is : half_in t true row ≡ take a q ++ take n (drop b (drop a q))
    first_is = ap (λ (x : List ℕ × List ℕ). x.0) (dealt_in_three a b n q)

    second_is : half_in t false row ≡ take b (drop a q) ++ drop n (drop b (drop a q))
    second_is = ap (λ (x : List ℕ × List ℕ). x.1) (dealt_in_three a b n q)

    at_place : (place : ℕ) → number_at q place ≡ number_at row (part_position t place)
    at_place place = get_or-drop (t.processes + 1) row place 0

    first_processes : (k : ℕ) → k < a → number_at (half_in t true row) k ≡ number_at row (part_position t k)
    first_processes k lt =
        ap (λ l. number_at l k) first_is
        ∙ get_or_append_left (take a q) (take n (drop b (drop a q))) 0 k (omega (arith, lt, length-take-le a q (omega (arith, within))))
        ∙ get_or-take a q k 0 lt
        ∙ at_place k

    first_monitors : (k : ℕ) → k < n → number_at (half_in t true row) (a + k) ≡ number_at row (part_position t (t.processes + k))
    first_monitors k lt =
        let back : a + k - a ≡ k = omega arith in
        let whole : a + (b + k) ≡ t.processes + k = omega (arith, few) in
        ap (λ l. number_at l (a + k)) first_is
        ∙ get_or-append_right (take a q) (take n (drop b (drop a q))) a (a + k) 0 (length-take-le a q (omega (arith, within))) (omega arith)
        ∙ ap (number_at (take n (drop b (drop a q)))) back
        ∙ get_or-take n (drop b (drop a q)) k 0 lt
        ∙ get_or-drop b (drop a q) k 0
        ∙ get_or-drop a q (b + k) 0
        ∙ ap (number_at q) whole
        ∙ at_place (t.processes + k)

    drop_long : b ≤ length (drop a q)
    drop_long = omega (arith, within, length-drop a q)

    second_processes : (k : ℕ) → k < b → number_at (half_in t false row) k ≡ number_at row (part_position t (a + k))
    second_processes k lt =
        ap (λ l. number_at l k) second_is
        ∙ get_or_append_left (take b (drop a q)) (drop n (drop b (drop a q))) 0 k (omega (arith, lt, length-take-le b (drop a q) drop_long))
        ∙ get_or-take b (drop a q) k 0 lt
        ∙ get_or-drop a q k 0
        ∙ at_place (a + k)

    second_monitors : (k : ℕ) → number_at (half_in t false row) (b + k) ≡ number_at row (part_position t (t.processes + (n + k)))
    second_monitors k =
        let back : b + k - b ≡ k = omega arith in
        let whole : a + (b + (n + k)) ≡ t.processes + (n + k) = omega (arith, few) in
        ap (λ l. number_at l (b + k)) second_is
        ∙ get_or-append_right (take b (drop a q)) (drop n (drop b (drop a q))) b (b + k) 0 (length-take-le b (drop a q) drop_long) (omega arith)
        ∙ ap (number_at (drop n (drop b (drop a q)))) back
        ∙ get_or-drop n (drop b (drop a q)) k 0
        ∙ get_or-drop b (drop a q) (n + k) 0
        ∙ get_or-drop a q (b + (n + k)) 0
        ∙ ap (number_at q) whole
        ∙ at_place (t.processes + (n + k))

  -- ---- which places are in a half

  of_process : (place : ℕ) → place < t.processes → is_in_first t place ≡ nat_lt place a
  of_process place lt = ap (λ c. if c then nat_lt place a else nat_lt (place - t.processes) n) (lt-ltb place t.processes lt)

  of_monitor : (place : ℕ) → t.processes ≤ place → is_in_first t place ≡ nat_lt (place - t.processes) n
  of_monitor place le = ap (λ c. if c then nat_lt place a else nat_lt (place - t.processes) n) (le-ltb place t.processes le)

  -- a number of a half is that of a place there
  pub record Here (is_first : Bool) (k place : ℕ) : Type 0 where
    pub within : place < place_count t
    pub its : is_in_first t place ≡ is_first
    pub short : k < long is_first
    pub number : (row : List ℕ) → length row ≡ width_of t → number_at (half_in t is_first row) k ≡ number_at row (part_position t place)

  pub place_of : (is_first : Bool) (k : ℕ) → k < long is_first → (place : ℕ) × Here is_first k place
  place_of true k lt = by (cases_lt k a)
    where
      by : (k < a) ⊎ (a ≤ k) → (place : ℕ) × Here true k place
      by (inl less) = (k, record { within = omega (arith, less, few); its = of_process k (omega (arith, less, few)) ∙ lt-ltb k a less; short = lt; number = λ row wide. first_processes row wide k less })
      by (inr more) =
          let j = k - a in
          let same : a + j ≡ k = omega (arith, more) in
          let low : j < n = omega (arith, lt, more) in
          let place = t.processes + j in
          let back : place - t.processes ≡ j = omega arith in (
            place,
            record {
              within = omega (arith, low, fewer);
              its = of_monitor place (omega arith) ∙ ap (λ i. nat_lt i n) back ∙ lt-ltb j n low;
              short = lt;
              number = λ row wide. ap (number_at (half_in t true row)) (sym same) ∙ first_monitors row wide j low;
            },
          )
  place_of false k lt = by (cases_lt k b)
    where
      by : (k < b) ⊎ (b ≤ k) → (place : ℕ) × Here false k place
      by (inl less) = (a + k, record { within = omega (arith, less, few); its = of_process (a + k) (omega (arith, less, few)) ∙ le-ltb (a + k) a (omega arith); short = lt; number = λ row wide. second_processes row wide k less })
      by (inr more) =
          let j = k - b in
          let same : b + j ≡ k = omega (arith, more) in
          let place = t.processes + (n + j) in
          let back : place - t.processes ≡ n + j = omega arith in (
            place,
            record {
              within = omega (arith, lt, more, fewer);
              its = of_monitor place (omega arith) ∙ ap (λ i. nat_lt i n) back ∙ le-ltb (n + j) n (omega arith);
              short = lt;
              number = λ row wide. ap (number_at (half_in t false row)) (sym same) ∙ second_monitors row wide j;
            },
          )

  -- and a place of a half has its number there
  pub number_of_place : (is_first : Bool) (place : ℕ) → place < place_count t → is_in_first t place ≡ is_first → (k : ℕ) × Here is_first k place
  number_of_place true place lt its = by (cases_lt place t.processes)
    where
      by : (place < t.processes) ⊎ (t.processes ≤ place) → (k : ℕ) × Here true k place
      by (inl less) =
          let low = ltb-true place a (sym (of_process place less) ∙ its) in
          (place, record { within = lt; its = its; short = omega (arith, low); number = λ row wide. first_processes row wide place low })
      by (inr more) =
          let j = place - t.processes in
          let low = ltb-true j n (sym (of_monitor place more) ∙ its) in
          let same : t.processes + j ≡ place = omega (arith, more) in
          (a + j, record { within = lt; its = its; short = omega (arith, low); number = λ row wide. first_monitors row wide j low ∙ ap (λ p. number_at row (part_position t p)) same })
  number_of_place false place lt its = by (cases_lt place t.processes)
    where
      by : (place < t.processes) ⊎ (t.processes ≤ place) → (k : ℕ) × Here false k place
      by (inl less) =
          let high = ltb-false place a (sym (of_process place less) ∙ its) in
          let k = place - a in
          let same : a + k ≡ place = omega (arith, high) in
          let low : k < b = omega (arith, less, high) in
          (k, record { within = lt; its = its; short = omega (arith, low); number = λ row wide. second_processes row wide k low ∙ ap (λ p. number_at row (part_position t p)) same })
      by (inr more) =
          let high = ltb-false (place - t.processes) n (sym (of_monitor place more) ∙ its) in
          let j = place - t.processes - n in
          let same : t.processes + (n + j) ≡ place = omega (arith, more, high) in
          (b + j, record { within = lt; its = its; short = omega (arith, lt, more, high, fewer); number = λ row wide. second_monitors row wide j ∙ ap (λ p. number_at row (part_position t p)) same })

  -- ---- numbers written into rows of one half

  mapped : (f g : ℕ → ℕ) (xs : List ℕ) → ((x : ℕ) → among xs x ≡ true → f x ≡ g x) → map f xs ≡ map g xs
  mapped f g [] h = refl
  mapped f g (y ∷ ys) h = ap (λ z. z ∷ map f ys) (h y (ap (λ c. c || among ys y) (eq-eqb y y refl))) ∙ ap (λ l. g y ∷ l) (mapped f g ys (λ x is. h x (some (y == x) (among ys x) is)))
    where
      some : (c d : Bool) → d ≡ true → (c || d) ≡ true
      some true d is = refl
      some false d is = is

  not_both : (c : Bool) → c ≡ not c → ⊥
  not_both true e = false≢true (sym e)
  not_both false e = false≢true e

  -- with the same statuses where nothing is written there
  pub still_so : (writes : List Write) (row : List ℕ) → length row ≡ width_of t → All (λ w. t.processes < w.position) writes → statuses_in t (written writes row) ≡ statuses_in t row
  still_so writes row wide past = ext_get_or 0 (statuses_in t (written writes row)) (statuses_in t row) same (λ k lt. each k (omega (arith, lt, there)))
    where
      there : length (statuses_in t (written writes row)) ≡ t.processes + 1
      there = length-take-le (t.processes + 1) (written writes row) (omega (arith, wide, written_long writes row))

      same : length (statuses_in t (written writes row)) ≡ length (statuses_in t row)
      same = there ∙ sym (length-take-le (t.processes + 1) row (omega (arith, wide)))

      differs : (i k : ℕ) → k < i → (i == k) ≡ false
      differs i k lt = by (i == k) refl
        where
          by : (c : Bool) → (i == k) ≡ c → (i == k) ≡ false
          by true is = let e = eqb-true i k is in absurd (omega (arith, e, lt))
          by false is = is

      each : (k : ℕ) → k < t.processes + 1 → number_at (statuses_in t (written writes row)) k ≡ number_at (statuses_in t row) k
      each k lt =
          get_or-take (t.processes + 1) (written writes row) k 0 lt
          ∙ written_elsewhere writes row k (list_any_none (λ w. w.position == k) writes (All-weaker (λ (w : Write). t.processes < w.position) (λ (w : Write). (w.position == k) ≡ false) (λ w more. differs w.position k (omega (arith, more, lt))) writes past))
          ∙ sym (get_or-take (t.processes + 1) row k 0 lt)

  module _ (is_first : Bool) (places : List ℕ) (writes : List Write)
      (inside : (place : ℕ) → among places place ≡ true → place < place_count t) (all : (place : ℕ) → among places place ≡ true → is_in_first t place ≡ is_first)
      (elsewhere : (place : ℕ) → place < place_count t → among places place ≡ false → is_written writes (part_position t place) ≡ false) where
    module _ (row : List ℕ) (wide : length row ≡ width_of t) where
      written_wide : length (written writes row) ≡ width_of t
      written_wide = written_long writes row ∙ wide

      -- the other half stays
      pub other_stays : half_in t (not is_first) (written writes row) ≡ half_in t (not is_first) row
      other_stays =
          ext_get_or 0 (half_in t (not is_first) (written writes row)) (half_in t (not is_first) row)
          (half_long (written writes row) written_wide (not is_first) ∙ sym (half_long row wide (not is_first)))
          (λ k lt. each k (omega (arith, lt, half_long (written writes row) written_wide (not is_first))))
        where
          untouched : (place : ℕ) → is_in_first t place ≡ not is_first → among places place ≡ false
          untouched place its = by (among places place) refl
            where
              by : (c : Bool) → among places place ≡ c → among places place ≡ false
              by true is = absurd (not_both is_first (sym (all place is) ∙ its))
              by false is = is

          each : (k : ℕ) → k < long (not is_first) → number_at (half_in t (not is_first) (written writes row)) k ≡ number_at (half_in t (not is_first) row) k
          each k lt =
              let p = place_of (not is_first) k lt in
              p.1.number (written writes row) written_wide
              ∙ written_elsewhere writes row (part_position t p.0) (elsewhere p.0 p.1.within (untouched p.0 p.1.its))
              ∙ sym (p.1.number row wide)

      module _ (other : List ℕ) (as_wide : length other ≡ width_of t) (same : half_in t is_first row ≡ half_in t is_first other) where
        pub found_so : numbers_at t places row ≡ numbers_at t places other
        found_so =
            mapped (λ place. number_at row (part_position t place)) (λ place. number_at other (part_position t place)) places
            (λ place is. (let k = number_of_place is_first place (inside place is) (all place is) in
            sym (k.1.number row wide) ∙ ap (λ l. number_at l k.0) same ∙ k.1.number other as_wide))

        pub half_so : half_in t is_first (written writes row) ≡ half_in t is_first (written writes other)
        half_so =
            ext_get_or 0 (half_in t is_first (written writes row)) (half_in t is_first (written writes other))
            (half_long (written writes row) written_wide is_first ∙ sym (half_long (written writes other) other_wide is_first))
            (λ k lt. each k (omega (arith, lt, half_long (written writes row) written_wide is_first)))
          where
            other_wide : length (written writes other) ≡ width_of t
            other_wide = written_long writes other ∙ as_wide

            each : (k : ℕ) → k < long is_first → number_at (half_in t is_first (written writes row)) k ≡ number_at (half_in t is_first (written writes other)) k
            each k lt =
                let p = place_of is_first k lt in
                let before = sym (p.1.number row wide) ∙ ap (λ l. number_at l k) same ∙ p.1.number other as_wide in
                p.1.number (written writes row) written_wide
                ∙ written_alike writes row other (part_position t p.0) (omega (arith, wide, p.1.within)) (omega (arith, as_wide, p.1.within)) (inl before)
                ∙ sym (p.1.number (written writes other) other_wide)
