-- When one place too many is found: how many places there are at least, and what shorter words lead to was found, each with its first word.
use Rattle.std.proofs.Common.{◌≡◌, ◌⊎◌, inl, inr, ◌+◌, ◌<◌, ◌≤◌, ℕ, true, false, List, [], ◌∷◌, ◌++◌, length, get_or, ap, sym, ◌∙◌, arith}
use Rattle.std.specs.Prelude.{◌≢◌, All, AllPairs, Some, None, filter, slice_get}
use Rattle.cp_ends.proofs.Vocabulary.{cases_lt, same_Some, slice_get_cases, slice_get_within, Place, Graph, ArrivesAt, LeadsToPlace, LeadsToEnd, ShowsLast}
use Rattle.cp_ends.proofs.Vocabulary.{is_up_to, is_within, AreFirsts, AreFirstOnes, Within, Findings, Tests, has, with_values, gone_on, searched, All-weaker}
use Rattle.cp_ends.proofs.Searching.Words.{up_to_length, push_length}
use Rattle.cp_ends.proofs.Searching.Lists.{pair_at, place_of}
use Rattle.cp_ends.proofs.Searching.Adding.{AreGood, good_push, has_none}
use Rattle.cp_ends.proofs.Searching.Arrivals.{IsBounded, arrives_push}
use Rattle.cp_ends.proofs.Searching.Growing.{Extends, extends_joined, going_at, going_extends, shown_extends, with_shown}
use Rattle.cp_ends.proofs.Searching.Going.{AreExact, IsRecorded, IsSound, going_sound, recorded_stays, shown_sound}
use Rattle.cp_ends.proofs.Searching.Stages.{searched_leads, searched_recorded, searched_sound, searched_start}
use Rattle.cp_ends.proofs.Searching.Reached.{IsClosed, reached_end, reached_place, reached_value}
use Rattle.cp_ends.proofs.Searching.Firsts.{are_first_ones_within, are_firsts_within}

-- x is the place at n, and its edges below c were taken
module _ {S E V : Type 0} (g : Graph S E V) (t : Tests S E V) (exact : AreExact g t) (bounded : IsBounded g) (n : ℕ) (x : S × List ℕ) (c : ℕ) (at : slice_get (searched g t n).states n ≡ Some x) (may : g.may x.0 c ≡ true) where
  -- what was found so far
  abbrev found : Findings S E V
  found = gone_on g t x c (searched g t n)

  -- and with the values of the edge c, whose goal is not found any more
  abbrev shown : Findings S E V
  shown = with_shown t found (x.1 ++ c ∷ []) (g.on x.0 c)

  arrives : ArrivesAt g (x.1 ++ c ∷ []) (g.on x.0 c)
  arrives = arrives_push g x.1 x.0 c (searched_leads g t exact n n x at) may

  found_sound : IsSound g t found (x.1 ++ c ∷ [])
  found_sound = going_sound g t exact x c (searched g t n) (searched_leads g t exact n n x at) (searched_sound g t exact n n x (omega arith) at)

  stopped_sound : IsSound g t shown (x.1 ++ c ∷ [])
  stopped_sound = shown_sound g t exact found (x.1 ++ c ∷ []) (g.on x.0 c) found_sound arrives

  shown_more : Extends t (searched g t n) shown
  shown_more = extends_joined t (searched g t n) found shown (going_extends g t x c (searched g t n)) (shown_extends t found (x.1 ++ c ∷ []) (g.on x.0 c))

  found_here : slice_get found.states n ≡ Some x
  found_here = going_at g t x c (searched g t n) n x at

  -- a place with a word that is shorter than that of x was expanded
  early : (i : ℕ) (y : S × List ℕ) → slice_get found.states i ≡ Some y → length y.1 < length x.1 → i < n
  early i y to few = by (cases_lt i n) (cases_lt n i)
    where
      by : (i < n) ⊎ (n ≤ i) → (n < i) ⊎ (i ≤ n) → i < n
      by (inl lt) or = lt
      by (inr ge) (inl lt) = absurd (omega (arith, few, up_to_length x.1 y.1 (pair_at (λ (e k : S × List ℕ). is_up_to e.1 k.1 ≡ true) found.states n i x y found_sound.states.sorted lt found_here to)))
      by (inr ge) (inr le) =
          let here : i ≡ n = omega (arith, ge, le) in
          let same : y ≡ x = same_Some y x (sym to ∙ ap (λ k. slice_get found.states k) here ∙ found_here) in
          absurd (omega (arith, few, ap (λ (e : S × List ℕ). length e.1) same))

  -- it stood there before
  stood_early : (i : ℕ) (y : S × List ℕ) → i < n → slice_get found.states i ≡ Some y → slice_get (searched g t n).states i ≡ Some y
  stood_early i y lt to = by (slice_get_cases (searched g t n).states i).1
    where
      by : ((z : S × List ℕ) × (i < length (searched g t n).states) × (slice_get (searched g t n).states i ≡ Some z) × (get_or (searched g t n).states i z ≡ z)) ⊎ ((length (searched g t n).states ≤ i) × (slice_get (searched g t n).states i ≡ None)) → slice_get (searched g t n).states i ≡ Some y
      by (inl z) = z.2 ∙ sym (going_at g t x c (searched g t n) i z.0 z.2) ∙ to
      by (inr none) = let past = none.0 in absurd (omega (arith, lt, past, slice_get_within (searched g t n).states n x at))

  start : IsRecorded t shown [] g.start
  start = recorded_stays t (searched g t n) shown [] g.start shown_more (searched_start g t exact n)

  closed : IsClosed g t shown (length x.1)
  closed s word p there few edge =
      let to = place_of found.states (s, word) there in
      let lt : to.0 < n = early to.0 (s, word) to.1 few in
      recorded_stays t (searched g t n) shown (word ++ p ∷ []) (g.on s p) shown_more (searched_recorded g t exact bounded n to.0 (s, word) p lt (stood_early to.0 (s, word) lt to.1) edge)

  pub stopped_states : AreFirsts (Within (length x.1) (LeadsToPlace g)) (filter (is_within (length x.1)) (gone_on g t x c (searched g t n)).states)
  stopped_states = are_firsts_within (LeadsToPlace g) shown.states (x.1 ++ c ∷ []) stopped_sound.states (length x.1) (λ s w leads within. reached_place g t shown (length x.1) start closed s w leads within)

  pub stopped_ends : AreFirsts (Within (length x.1) (LeadsToEnd g)) (filter (is_within (length x.1)) (gone_on g t x c (searched g t n)).ends)
  stopped_ends = are_firsts_within (LeadsToEnd g) shown.ends (x.1 ++ c ∷ []) stopped_sound.ends (length x.1) (λ e w leads within. reached_end g t shown (length x.1) start closed e w leads within)

  pub stopped_values : AreFirstOnes t.most (Within (length x.1) (ShowsLast g)) (filter (is_within (length x.1)) (with_values t.value t.most (gone_on g t x c (searched g t n)).values (g.on x.0 c).shown (x.1 ++ c ∷ [])))
  stopped_values = are_first_ones_within (ShowsLast g) shown.values (x.1 ++ c ∷ []) stopped_sound.values (length x.1) t.most stopped_sound.few (λ v w shows within. reached_value g t shown (length x.1) start closed v w shows within)

  -- ---- the edge leads to a place that was not found

  module _ (s : S) (goal : (g.on x.0 c).goal ≡ Place s) (new : has t.state (gone_on g t x c (searched g t n)).states s ≡ false) where
    all_good : AreGood (LeadsToPlace g) (found.states ++ (s, x.1 ++ c ∷ []) ∷ []) (x.1 ++ c ∷ [])
    all_good =
        let leads : LeadsToPlace g s (x.1 ++ c ∷ []) = (g.on x.0 c, arrives, goal) in
        good_push (LeadsToPlace g) found.states s (x.1 ++ c ∷ []) found_sound.states leads (has_none (LeadsToPlace g) t.state exact.state found.states s (x.1 ++ c ∷ []) found_sound.states.holds leads new)

    -- words lead to each of the places that were found, and to this one
    pub stopped_places : All (λ e. LeadsToPlace g e.0 e.1) ((gone_on g t x c (searched g t n)).states ++ (s, x.1 ++ c ∷ []) ∷ [])
    stopped_places = all_good.holds

    -- no two of them are the same
    pub stopped_apart : AllPairs (λ e h. e.0 ≢ h.0) ((gone_on g t x c (searched g t n)).states ++ (s, x.1 ++ c ∷ []) ∷ [])
    stopped_apart = all_good.once

    -- and the word of each has one number more than that of x, at most
    pub stopped_near : All (λ e. length e.1 ≤ length x.1 + 1) ((gone_on g t x c (searched g t n)).states ++ (s, x.1 ++ c ∷ []) ∷ [])
    stopped_near =
        All-weaker (λ (e : S × List ℕ). is_up_to e.1 (x.1 ++ c ∷ []) ≡ true) (λ (e : S × List ℕ). length e.1 ≤ length x.1 + 1) (λ e up. omega (arith, up_to_length e.1 (x.1 ++ c ∷ []) up, push_length x.1 c)) (found.states ++ (s, x.1 ++ c ∷ []) ∷ []) all_good.upto
