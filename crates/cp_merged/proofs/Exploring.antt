-- From layer to layer: what fits, and which fault is due.
use Rattle.std.proofs.Common.{◌≡◌, ◌∙◌, ◌⊎◌, inl, ⊎_elim, lit<, ◌+◌, ◌<◌, ◌≤◌, ℕ, List, [], length, map, sym, ap, subst, arith}
use Rattle.std.specs.Prelude.{Result, Ok, Err, IfOk, IfErr, IsErrAnd, ◌^◌}
use Rattle.cp_merged.proofs.Words.{pow-le-pow_right, Tables, Machine, Discipline, slots, processes_of, Node, opened, KnownStates, same_outcome, Front, arrived, front_at, by_layers}
use Rattle.cp_merged.proofs.Words.{end_of, rows_in, same_key, AreLeads, AreEnds, Holds, IsStates, total, Reached, EndKey}
use Rattle.std.proofs.lemmas.Bool.{cases_order}
use Rattle.cp_merged.specs.TooMany.{HasTooManyStates, HasTooManyOutcomes, FitsBefore, IsDueFault}
use Rattle.cp_merged.specs.declared.fault.MergeFault.{MergeFault}
use Rattle.cp_merged.specs.declared.fault.MergeFault.TheVariants.{Memory, TooManyStates, TooManyOutcomes}
use Rattle.cp_merged.specs.declared.prefixes.Prefixes as code
use Rattle.cp_merged.proofs.Arriving.{key_sound, key_own, ends_few, ends_many}
use Rattle.cp_merged.proofs.Exact.{exact_outcomes}
use Rattle.cp_merged.proofs.Fronts.{is_front, once_at}
use Rattle.cp_merged.proofs.Fitting.{states_many, states_few, outcomes_many, outcomes_few, last_many, last_few}
use Rattle.cp_merged.proofs.Making.{leads_length}
use Rattle.cp_merged.proofs.Telling.{counts_sum}
use Rattle.cp_merged.proofs.Totals.{counts_by}

pub err_to : {A : Type 0} (r : Result A MergeFault) (P Q : MergeFault → Type 0) → IsErrAnd r P → ((e : MergeFault) → P e → Q e) → IfErr r Q
err_to (Ok x) P Q h f = tt
err_to (Err e) P Q h f = f e h

pub err_on : {A : Type 0} (r : Result A MergeFault) (P Q : MergeFault → Type 0) → IfErr r P → ((e : MergeFault) → P e → Q e) → IfErr r Q
err_on (Ok x) P Q h f = tt
err_on (Err e) P Q h f = f e h

pub ok_both : {A : Type 0} (r : Result A MergeFault) (P Q R : Type 0) → IfOk r (λ _. P) → IfOk r (λ _. Q) → (P → Q → R) → IfOk r (λ _. R)
ok_both (Ok x) P Q R p q f = f p q
ok_both (Err e) P Q R p q f = tt

module _ (r : Tables) (discipline : Discipline) (choices steps most : ℕ) where
  abbrev made : ℕ → Front Machine
  made d = front_at (slots r discipline) same_outcome same_key steps d

  not_many : (d : ℕ) (known : KnownStates) (ends : List (EndKey × code.Prefixes)) (states : List (List ℕ × code.Prefixes)) → Reached r discipline choices steps most d known ends states → HasTooManyStates (slots r discipline) steps most d → ⊥
  not_many d known ends states h = let n = leads_length r known states (made d).layer h.holds.layer in let few = h.few in states_few (slots r discipline) same_outcome exact_outcomes same_key key_sound key_own steps most d (omega (arith, n, few))

  fits_more : (d : ℕ) → FitsBefore (slots r discipline) choices steps most d → (HasTooManyStates (slots r discipline) steps most d → ⊥) → (HasTooManyOutcomes (slots r discipline) choices steps d → ⊥) → FitsBefore (slots r discipline) choices steps most (d + 1)
  fits_more d fits s o e lt =
      ⊎_elim
      (λ (same : e ≡ d). (λ h. s (subst (HasTooManyStates (slots r discipline) steps most) same h), λ h. o (subst (HasTooManyOutcomes (slots r discipline) choices steps) same h)))
      (λ (apart : (e < d) ⊎ (d < e)).
      ⊎_elim
      (λ (less : e < d). fits e less)
      (λ (more : d < e). absurd (omega (arith, lt, more)))
      apart)
      (cases_order e d)

  fits_next : (d : ℕ) (known : KnownStates) (ends : List (EndKey × code.Prefixes)) (states : List (List ℕ × code.Prefixes)) → d < choices → length ends ≤ 50000 → Reached r discipline choices steps most d known ends states → FitsBefore (slots r discipline) choices steps most (d + 1)
  fits_next d known ends states lt few h = fits_more d h.fits (not_many d known ends states h) (outcomes_few (slots r discipline) same_outcome exact_outcomes same_key key_sound key_own steps choices d lt (ends_few ends (made d).ended few h.holds.ended))

  pub reached_first : (known : KnownStates) (ends : List (EndKey × code.Prefixes)) (states : List (List ℕ × code.Prefixes)) → length states ≤ most → Holds r known ends states (made 0) → Reached r discipline choices steps most 0 known ends states
  reached_first known ends states few h = record { holds = h; few = few; fits = λ e lt. absurd (omega (arith, lt)) }

  pub reached_next : (d : ℕ) (known new_known : KnownStates) (ends new_ends : List (EndKey × code.Prefixes)) (states new_states : List (List ℕ × code.Prefixes)) → d < choices → length ends ≤ 50000 → Reached r discipline choices steps most d known ends states → length new_states ≤ most → Holds r new_known new_ends new_states (made (d + 1)) → Reached r discipline choices steps most (d + 1) new_known new_ends new_states
  reached_next d known new_known ends new_ends states new_states lt few h l holds = record { holds = holds; few = l; fits = fits_next d known ends states lt few h }

  -- ---- faults

  pub first_fault : (known : KnownStates) (ends : List (EndKey × code.Prefixes)) (states : List (List ℕ × code.Prefixes)) → most < length states → Holds r known ends states (made 0) → IsDueFault (slots r discipline) choices steps most TooManyStates
  first_fault known ends states l h =
      let n = leads_length r known states (made 0).layer h.layer in
      (0, omega arith, (λ e lt. absurd (omega (arith, lt))), states_many (slots r discipline) same_outcome exact_outcomes same_key key_sound key_own steps most 0 (made 0).layer (omega (arith, l, n)) (is_front (slots r discipline) same_outcome exact_outcomes same_key key_sound steps 0).1 (once_at (slots r discipline) same_outcome exact_outcomes same_key key_sound steps 0))

  states_fault : (d : ℕ) (known : KnownStates) (ends : List (EndKey × code.Prefixes)) (states : List (List ℕ × code.Prefixes)) → d < choices → length ends ≤ 50000 → Reached r discipline choices steps most d known ends states → HasTooManyStates (slots r discipline) steps most (d + 1) → IsDueFault (slots r discipline) choices steps most TooManyStates
  states_fault d known ends states lt few h many = (d + 1, omega (arith, lt), fits_next d known ends states lt few h, many)

  pub layer_fault : (d : ℕ) (known : KnownStates) (ends : List (EndKey × code.Prefixes)) (states : List (List ℕ × code.Prefixes)) → d < choices → length ends ≤ 50000 → Reached r discipline choices steps most d known ends states → (e : MergeFault) → IsStates e (HasTooManyStates (slots r discipline) steps most (d + 1)) → IsDueFault (slots r discipline) choices steps most e
  layer_fault d known ends states lt few h Memory i = tt
  layer_fault d known ends states lt few h TooManyStates i = states_fault d known ends states lt few h i
  layer_fault d known ends states lt few h TooManyOutcomes i = absurd i

  pub outcomes_fault : (d : ℕ) (known : KnownStates) (ends : List (EndKey × code.Prefixes)) (states : List (List ℕ × code.Prefixes)) → d ≤ choices → 50000 < length ends → Reached r discipline choices steps most d known ends states → IsDueFault (slots r discipline) choices steps most TooManyOutcomes
  outcomes_fault d known ends states le l h = (d, le, h.fits, not_many d known ends states h, outcomes_many (slots r discipline) same_outcome exact_outcomes same_key key_sound key_own steps choices d le (ends_many ends (made d).ended l h.holds.ended))

  pub last_fault : (d : ℕ) (known : KnownStates) (ends new_ends : List (EndKey × code.Prefixes)) (states : List (List ℕ × code.Prefixes)) → d ≡ choices → Reached r discipline choices steps most d known ends states → 50000 < length new_ends → AreEnds new_ends (by_layers (slots r discipline) same_outcome same_key choices steps) → IsDueFault (slots r discipline) choices steps most TooManyOutcomes
  last_fault d known ends new_ends states same h l are = (choices, omega arith, subst (FitsBefore (slots r discipline) choices steps most) same h.fits, subst (λ n. HasTooManyStates (slots r discipline) steps most n → ⊥) same (not_many d known ends states h), last_many (slots r discipline) same_outcome exact_outcomes same_key key_sound key_own steps choices (ends_many new_ends (by_layers (slots r discipline) same_outcome same_key choices steps) l are))

  pub all_fits : (d : ℕ) (known : KnownStates) (ends new_ends : List (EndKey × code.Prefixes)) (states : List (List ℕ × code.Prefixes)) → d ≡ choices → Reached r discipline choices steps most d known ends states → length new_ends ≤ 50000 → AreEnds new_ends (by_layers (slots r discipline) same_outcome same_key choices steps) → FitsBefore (slots r discipline) choices steps most (choices + 1)
  all_fits d known ends new_ends states same h l are = fits_more choices (subst (FitsBefore (slots r discipline) choices steps most) same h.fits) (subst (λ n. HasTooManyStates (slots r discipline) steps most n → ⊥) same (not_many d known ends states h)) (last_few (slots r discipline) same_outcome exact_outcomes same_key key_sound key_own steps choices (ends_few new_ends (by_layers (slots r discipline) same_outcome same_key choices steps) l are))

  none : Front Machine
  none = record { ended = []; layer = [] }

  -- nothing has arrived
  pub holds_none : (known : KnownStates) (ends : List (EndKey × code.Prefixes)) (states : List (List ℕ × code.Prefixes)) → ends ≡ [] → states ≡ [] → (f : Front Machine) × Holds r known ends states f × (total f + 1 < 10 ^ 126)
  unfolding none
  holds_none known ends states e s = (none, record { ended = inl (ap (map end_of) e); layer = subst (λ (l : List (List ℕ × code.Prefixes)). AreLeads r known l []) (sym s) tt }, lit< tt)

  -- the first node has arrived
  pub holds_first : (known new_known : KnownStates) (ends new_ends : List (EndKey × code.Prefixes)) (states new_states : List (List ℕ × code.Prefixes)) (word : List ℕ) (n : ℕ) (node : Node Machine) → ends ≡ [] → states ≡ [] → word ≡ [] → n ≡ 1 → opened (slots r discipline) steps ≡ node → ((f : Front Machine) → Holds r known ends states f → Holds r new_known new_ends new_states (arrived (slots r discipline) same_outcome same_key word n node f)) → Holds r new_known new_ends new_states (made 0)
  unfolding front_at none holds_none
  holds_first known new_known ends new_ends states new_states word n node e s w one at go =
      let h = go none (holds_none known ends states e s).1 in
      subst (λ m. Holds r new_known new_ends new_states (arrived (slots r discipline) same_outcome same_key [] 1 m none)) (sym at)
      (subst (λ k. Holds r new_known new_ends new_states (arrived (slots r discipline) same_outcome same_key [] k node none)) one
      (subst (λ v. Holds r new_known new_ends new_states (arrived (slots r discipline) same_outcome same_key v n node none)) w h))

  -- the layer is taken out
  pub holds_taken : (d : ℕ) (known new_known : KnownStates) (ends new_ends : List (EndKey × code.Prefixes)) (states left : List (List ℕ × code.Prefixes)) → new_ends ≡ ends → left ≡ [] → Holds r known ends states (made d) → Holds r new_known new_ends left (record { ended = (made d).ended; layer = [] })
  holds_taken d known new_known ends new_ends states left e s h = record { ended = subst (λ (l : List (EndKey × code.Prefixes)). AreEnds l (made d).ended) (sym e) h.ended; layer = subst (λ (l : List (List ℕ × code.Prefixes)). AreLeads r new_known l []) (sym s) tt }

  -- how many rows there are
  pub rows_small : (ends : List (EndKey × code.Prefixes)) → processes_of r ≤ 16 → choices ≤ 100 → map end_of ends ≡ by_layers (slots r discipline) same_outcome same_key choices steps → rows_in (map end_of ends) < 10 ^ 126
  rows_small ends few l e =
      let c = counts_by (slots r discipline) same_outcome same_key steps few choices in
      let s = ap rows_in e ∙ counts_sum (by_layers (slots r discipline) same_outcome same_key choices steps) in
      let p : 16 ^ choices ≤ 16 ^ 100 = pow-le-pow_right {n = 16} (omega arith) {i = choices} {j = 100} l in
      let b : 16 ^ 100 < 10 ^ 126 = lit< tt in
      omega (arith, c, s, p, b)
