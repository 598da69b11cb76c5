-- A layer in the making: the front so far, and the leads that are still to go on.
use Rattle.std.proofs.Common.{◌≡◌, ◌∙◌, ◌+◌, ◌*◌, ◌^◌, ◌<◌, ◌≤◌, lit<, ℕ, suc, List, [], ◌∷◌, length, map, refl, sym, ap, subst, arith}
use Rattle.cp_merged.proofs.Words.{pow-le-pow_right, length-map, Tables, Machine, output_of, Shown, ChoiceLimit, Discipline, slots, processes_of, IsMachineOf, IsRowFor}
use Rattle.cp_merged.proofs.Words.{KeepKnown, KnownStates, Tally, same_outcome, Lead, Front, after_choices, after_layer, at_limit, with_tally, front_at, by_layers, keyed}
use Rattle.cp_merged.proofs.Words.{same_key, AreLeadsTo, AreLeads, AreEnds, Holds, words_of, counts, total, HasTooManyStates, EndKey}
use Rattle.std.specs.List.{AllByRecursion as Each}
use Rattle.cp_merged.specs.declared.prefixes.Prefixes as code
use Rattle.cp_merged.proofs.Arriving.{key_sound, key_own, leads_on}
use Rattle.cp_merged.proofs.Exact.{exact_outcomes}
use Rattle.cp_merged.proofs.Fronts.{IsLead, IsFrontOf, OneEach, is_front, ends_later, front_choices, once_choices}
use Rattle.cp_merged.proofs.Fitting.{states_many}
use Rattle.cp_merged.proofs.Totals.{total_at, total_choices, counts_with}

-- ---- the next of some leads

pub record IsNext (r : Tables) (known : KnownStates) (e : List ℕ × code.Prefixes) (es : List (List ℕ × code.Prefixes)) (xs : List (Lead Machine)) : Type 0 where
  pub lead : Lead Machine
  pub rest : List (Lead Machine)
  pub is : xs ≡ lead ∷ rest
  pub row : IsRowFor r known e.0 lead.state
  pub first : e.1.first.items ≡ lead.first
  pub count : e.1.count ≡ lead.count
  pub own : IsMachineOf r lead.state
  pub left : AreLeads r known es rest

pub next_lead : (r : Tables) (known : KnownStates) (e : List ℕ × code.Prefixes) (es : List (List ℕ × code.Prefixes)) (xs : List (Lead Machine)) → AreLeads r known (e ∷ es) xs → IsNext r known e es xs
next_lead r known e es [] h = absurd h
next_lead r known e es (x ∷ xs) h = record { lead = x; rest = xs; is = refl; row = h.0.row; first = h.0.first; count = h.0.count; own = h.0.own; left = h.1 }

pub no_lead : (r : Tables) (known : KnownStates) (xs : List (Lead Machine)) → AreLeads r known [] xs → xs ≡ []
no_lead r known [] h = refl
no_lead r known (x ∷ xs) h = absurd h

rows_length : (r : Tables) (known : KnownStates) (ys : List (Lead (List ℕ))) (xs : List (Lead Machine)) → AreLeadsTo r known ys xs → length ys ≡ length xs
rows_length r known [] [] h = refl
rows_length r known [] (x ∷ xs) h = absurd h
rows_length r known (y ∷ ys) [] h = absurd h
rows_length r known (y ∷ ys) (x ∷ xs) h = ap suc (rows_length r known ys xs h.1)

pub leads_length : (r : Tables) (known : KnownStates) (es : List (List ℕ × code.Prefixes)) (xs : List (Lead Machine)) → AreLeads r known es xs → length es ≡ length xs
leads_length r known es xs h = let a = length-map es keyed in let c = rows_length r known (map keyed es) xs h in omega (arith, a, c)

-- ---- numbers of words

below : 16 ^ 100 < 10 ^ 126
below = lit< tt

-- what a lead of the last layer adds
abbrev limited : List ℕ → List Shown → ℕ → Tally
limited word output count = record { first = record { word = word; outcome = record { kind = ChoiceLimit; output = output } }; count = count }

abbrev limit_tally : Lead Machine → Tally
limit_tally x = limited x.first (output_of x.state) x.count

limit_same : (word : List ℕ) (output : List Shown) (count : ℕ) (x : Lead Machine) → word ≡ x.first → output ≡ output_of x.state → count ≡ x.count → limited word output count ≡ limit_tally x
limit_same word output count x a b c = ap (λ w. limited w output count) a ∙ ap (λ o. limited x.first o count) b ∙ ap (λ k. limited x.first (output_of x.state) k) c

module _ (r : Tables) (discipline : Discipline) (steps : ℕ) where
  abbrev made : ℕ → Front Machine
  made d = front_at (slots r discipline) same_outcome same_key steps d

  -- while layer d + 1 is made
  pub record Making (d : ℕ) (known : KnownStates) (ends : List (EndKey × code.Prefixes)) (states rest : List (List ℕ × code.Prefixes)) : Type 0 where
    pub front : Front Machine
    pub leads : List (Lead Machine)
    pub holds : Holds r known ends states front
    pub left : AreLeads r known rest leads
    pub comes : after_layer (slots r discipline) same_outcome same_key steps leads front ≡ made (d + 1)
    pub small : total front + 16 * words_of leads < 10 ^ 126
    pub sound : IsFrontOf (slots r discipline) same_outcome exact_outcomes same_key key_sound steps (suc d) front
    pub lead : Each (IsLead (slots r discipline) same_outcome exact_outcomes same_key key_sound steps d) leads
    pub once : OneEach (slots r discipline) same_outcome exact_outcomes same_key key_sound steps front.layer

  lead_same : (w : List ℕ) (n : ℕ) (x : Lead Machine) → w ≡ x.first → n ≡ x.count → record { state = x.state; first = w; count = n } ≡ x
  lead_same w n x b c = ap (λ v. lead_of x.state v n) b ∙ ap (λ k. lead_of x.state x.first k) c
    where
      lead_of : Machine → List ℕ → ℕ → Lead Machine
      lead_of s v k = record { state = s; first = v; count = k }

  fewer : (m n c : ℕ) → m ≤ n → m * c ≤ n * c
  fewer m n c l = grind arith

  small_at : (d : ℕ) → processes_of r ≤ 16 → d < 100 → counts (made d).ended + 0 + 16 * words_of (made d).layer < 10 ^ 126
  small_at d few l =
      let t = total_at (slots r discipline) same_outcome same_key steps few d in
      let p : 16 ^ suc d ≤ 16 ^ 100 = pow-le-pow_right {n = 16} (omega arith) {i = suc d} {j = 100} (omega (arith, l)) in
      let e : 16 ^ suc d ≡ 16 * 16 ^ d = grind arith in
      let b = below in
      omega (arith, t, p, e, b)

  pub making_start : (d : ℕ) (known : KnownStates) (ends : List (EndKey × code.Prefixes)) (states es : List (List ℕ × code.Prefixes)) → processes_of r ≤ 16 → d < 100 → AreLeads r known es (made d).layer → Holds r known ends states (record { ended = (made d).ended; layer = [] }) → Making d known ends states es
  unfolding front_at
  making_start d known ends states es few l left holds =
      let sound = is_front (slots r discipline) same_outcome exact_outcomes same_key key_sound steps d in
      record {
        front = record { ended = (made d).ended; layer = [] };
        leads = (made d).layer;
        holds = holds;
        left = left;
        comes = ap made (next d);
        small = small_at d few l;
        sound = (ends_later (slots r discipline) same_outcome exact_outcomes same_key key_sound steps d (made d).ended sound.0, tt);
        lead = sound.1;
        once = tt;
      }
    where
      next : (n : ℕ) → suc n ≡ n + 1
      next n = omega arith

  pub making_next : (d : ℕ) (known : KnownStates) (ends : List (EndKey × code.Prefixes)) (states es : List (List ℕ × code.Prefixes)) (e : List ℕ × code.Prefixes) (m : Making d known ends states (e ∷ es)) → IsNext r known e es m.leads
  making_next d known ends states es e m = next_lead r known e es m.leads m.left

  pub making_more : (d : ℕ) (known new_known : KnownStates) (ends new_ends : List (EndKey × code.Prefixes)) (states new_states es : List (List ℕ × code.Prefixes)) (e : List ℕ × code.Prefixes) (m : Making d known ends states (e ∷ es)) → processes_of r ≤ 16 → KeepKnown known new_known → ((f : Front Machine) → Holds r known ends states f → Holds r new_known new_ends new_states (after_choices (slots r discipline) same_outcome same_key steps (record { state = (making_next d known ends states es e m).lead.state; first = e.1.first.items; count = e.1.count }) (processes_of r) f)) → Making d new_known new_ends new_states es
  unfolding making_next
  making_more d known new_known ends new_ends states new_states es e m few kept go =
      let n = next_lead r known e es m.leads m.left in
      let here = subst (Each (IsLead (slots r discipline) same_outcome exact_outcomes same_key key_sound steps d)) n.is m.lead in
      let after = total_choices (slots r discipline) same_outcome same_key steps n.lead (processes_of r) m.front in
      let words = ap words_of n.is in
      let few16 = fewer (processes_of r) 16 n.lead.count few in
      let old = m.small in
      record {
        front = after_choices (slots r discipline) same_outcome same_key steps n.lead (processes_of r) m.front;
        leads = n.rest;
        holds = subst (λ x. Holds r new_known new_ends new_states (after_choices (slots r discipline) same_outcome same_key steps x (processes_of r) m.front)) (lead_same e.1.first.items e.1.count n.lead n.first n.count) (go m.front m.holds);
        left = leads_on r known new_known (map keyed es) n.rest kept n.left;
        comes = ap (λ xs. after_layer (slots r discipline) same_outcome same_key steps xs m.front) (sym n.is) ∙ m.comes;
        small = omega (arith, after, words, few16, old);
        sound = front_choices (slots r discipline) same_outcome exact_outcomes same_key key_sound steps d n.lead (processes_of r) m.front here.0 m.sound;
        lead = here.1;
        once = once_choices (slots r discipline) same_outcome exact_outcomes same_key key_sound steps n.lead (processes_of r) m.front m.once;
      }

  pub making_done : (d : ℕ) (known : KnownStates) (ends : List (EndKey × code.Prefixes)) (states : List (List ℕ × code.Prefixes)) → Making d known ends states [] → Holds r known ends states (made (d + 1))
  making_done d known ends states m = subst (Holds r known ends states) (ap (λ xs. after_layer (slots r discipline) same_outcome same_key steps xs m.front) (sym (no_lead r known m.leads m.left)) ∙ m.comes) m.holds

  pub making_many : (d most : ℕ) (known : KnownStates) (ends : List (EndKey × code.Prefixes)) (states left : List (List ℕ × code.Prefixes)) → most < length states → Making d known ends states left → HasTooManyStates (slots r discipline) steps most (d + 1)
  making_many d most known ends states left l m =
      let n = leads_length r known states m.front.layer m.holds.layer in
      subst (HasTooManyStates (slots r discipline) steps most) (next d) (states_many (slots r discipline) same_outcome exact_outcomes same_key key_sound key_own steps most (suc d) m.front.layer (omega (arith, l, n)) m.sound.1 m.once)
    where
      next : (n : ℕ) → suc n ≡ n + 1
      next n = omega arith

  pub making_room : (d : ℕ) (known : KnownStates) (ends : List (EndKey × code.Prefixes)) (states es : List (List ℕ × code.Prefixes)) (e : List ℕ × code.Prefixes) → d < 100 → Making d known ends states (e ∷ es) → length e.1.first.items < 100
  making_room d known ends states es e l m =
      let n = next_lead r known e es m.leads m.left in
      let here = subst (Each (IsLead (slots r discipline) same_outcome exact_outcomes same_key key_sound steps d)) n.is m.lead in
      let size = here.0.0 in
      let same = ap length n.first in
      omega (arith, l, size, same)

  pub making_small : (d : ℕ) (known : KnownStates) (ends : List (EndKey × code.Prefixes)) (states es : List (List ℕ × code.Prefixes)) (e : List ℕ × code.Prefixes) → Making d known ends states (e ∷ es) → (f : Front Machine) × Holds r known ends states f × (total f + 16 * e.1.count < 10 ^ 126)
  making_small d known ends states es e m =
      let n = next_lead r known e es m.leads m.left in
      let words = ap words_of n.is in
      let same = n.count in
      let old = m.small in
      (m.front, m.holds, omega (arith, words, same, old))

  -- ---- the last layer

  pub record Ending (choices : ℕ) (known : KnownStates) (ends : List (EndKey × code.Prefixes)) (rest : List (List ℕ × code.Prefixes)) : Type 0 where
    pub tallies : List Tally
    pub leads : List (Lead Machine)
    pub ended : AreEnds ends tallies
    pub left : AreLeads r known rest leads
    pub comes : at_limit (slots r discipline) same_outcome leads tallies ≡ by_layers (slots r discipline) same_outcome same_key choices steps
    pub small : counts tallies + words_of leads < 10 ^ 126
    pub lead : Each (IsLead (slots r discipline) same_outcome exact_outcomes same_key key_sound steps choices) leads

  pub ending_start : (choices : ℕ) (known : KnownStates) (ends : List (EndKey × code.Prefixes)) (es : List (List ℕ × code.Prefixes)) → processes_of r ≤ 16 → choices ≤ 100 → AreLeads r known es (made choices).layer → AreEnds ends (made choices).ended → Ending choices known ends es
  unfolding by_layers
  ending_start choices known ends es few l left ended =
      let t = total_at (slots r discipline) same_outcome same_key steps few choices in
      let p : 16 ^ choices ≤ 16 ^ 100 = pow-le-pow_right {n = 16} (omega arith) {i = choices} {j = 100} l in
      let b = below in
      record {
        tallies = (made choices).ended;
        leads = (made choices).layer;
        ended = ended;
        left = left;
        comes = refl;
        small = omega (arith, t, p, b);
        lead = (is_front (slots r discipline) same_outcome exact_outcomes same_key key_sound steps choices).1;
      }

  pub ending_next : (choices : ℕ) (known : KnownStates) (ends : List (EndKey × code.Prefixes)) (es : List (List ℕ × code.Prefixes)) (e : List ℕ × code.Prefixes) (m : Ending choices known ends (e ∷ es)) → IsNext r known e es m.leads
  ending_next choices known ends es e m = next_lead r known e es m.leads m.left

  pub ending_more : (choices : ℕ) (known : KnownStates) (ends new_ends : List (EndKey × code.Prefixes)) (es : List (List ℕ × code.Prefixes)) (e : List ℕ × code.Prefixes) (m : Ending choices known ends (e ∷ es)) (o : List Shown) → o ≡ output_of (ending_next choices known ends es e m).lead.state → ((ts : List Tally) → AreEnds ends ts → AreEnds new_ends (with_tally same_outcome ts (limited e.1.first.items o e.1.count))) → Ending choices known new_ends es
  unfolding ending_next
  ending_more choices known ends new_ends es e m o at go =
      let n = next_lead r known e es m.leads m.left in
      let here = subst (Each (IsLead (slots r discipline) same_outcome exact_outcomes same_key key_sound steps choices)) n.is m.lead in
      let is : limited e.1.first.items o e.1.count ≡ limit_tally n.lead = limit_same e.1.first.items o e.1.count n.lead n.first at n.count in
      let words = ap words_of n.is in
      let more = counts_with (slots r discipline) same_outcome same_key steps m.tallies (limit_tally n.lead) in
      let old = m.small in
      record {
        tallies = with_tally same_outcome m.tallies (limit_tally n.lead);
        leads = n.rest;
        ended = subst (λ t. AreEnds new_ends (with_tally same_outcome m.tallies t)) is (go m.tallies m.ended);
        left = n.left;
        comes = ap (λ xs. at_limit (slots r discipline) same_outcome xs m.tallies) (sym n.is) ∙ m.comes;
        small = omega (arith, words, more, old);
        lead = here.1;
      }

  pub ending_done : (choices : ℕ) (known : KnownStates) (ends : List (EndKey × code.Prefixes)) → Ending choices known ends [] → AreEnds ends (by_layers (slots r discipline) same_outcome same_key choices steps)
  ending_done choices known ends m = subst (AreEnds ends) (ap (λ xs. at_limit (slots r discipline) same_outcome xs m.tallies) (sym (no_lead r known m.leads m.left)) ∙ m.comes) m.ended

  pub ending_small : (choices : ℕ) (known : KnownStates) (ends : List (EndKey × code.Prefixes)) (es : List (List ℕ × code.Prefixes)) (e : List ℕ × code.Prefixes) → Ending choices known ends (e ∷ es) → (ts : List Tally) × AreEnds ends ts × (counts ts + e.1.count < 10 ^ 126)
  ending_small choices known ends es e m =
      let n = next_lead r known e es m.leads m.left in
      let words = ap words_of n.is in
      let same = n.count in
      let old = m.small in
      (m.tallies, m.ended, omega (arith, words, same, old))

  pub ending_room : (choices : ℕ) (known : KnownStates) (ends : List (EndKey × code.Prefixes)) (es : List (List ℕ × code.Prefixes)) (e : List ℕ × code.Prefixes) → choices ≤ 100 → Ending choices known ends (e ∷ es) → length e.1.first.items ≤ 100
  ending_room choices known ends es e l m =
      let n = next_lead r known e es m.leads m.left in
      let here = subst (Each (IsLead (slots r discipline) same_outcome exact_outcomes same_key key_sound steps choices)) n.is m.lead in
      let size = here.0.0 in
      let same = ap length n.first in
      omega (arith, l, size, same)
