-- Statuses by their numbers in a store.
use Rattle.std.proofs.Common.{◌≡◌, ◌∙◌, ◌+◌, ◌<◌, ℕ, zero, suc, Bool, true, false, List, Option, None, Some, ap, arith, filter, length, refl, subst, sym}
use Rattle.std.specs.Prelude.{◌==◌, ◌≤◌, ◌||◌, IfSome}
use Rattle.std.specs.List.{range_with_len}
use Rattle.std.proofs.lemmas.Bool.{eqb-true, eq-eqb, false≢true}
use Rattle.std.proofs.lemmas.List.Elements.{All-from_get_or}
use Rattle.std.proofs.lemmas.List.Folds.{list_any_at, list_any_none}
use Rattle.cp_slots.specs.Tables.{Tables}
use Rattle.cp_machine.specs.declared.process.Status.{Status}
use Rattle.cp_machine.specs.declared.process.Status.TheVariants.{AtGate, Delayed, Ended, Ready, Unstarted}
use Rattle.cp_machine.specs.Machine.{Machine, Thread, in_line, in_line_of, is_at_gate, is_pending, is_ready, is_ready_status, is_some, is_waiting, no_thread, waits}
use Rattle.cp_run.specs.Run.{may, those_below}
use Rattle.cp_run.specs.Slots.{processes_of, slots}
use Rattle.cp_run.proofs.Choosing.{those_same, wanted_line, wanted_ready}
use Rattle.cp_run.proofs.Owning.{filtered}
use Rattle.cp_machine.specs.declared.discipline.Discipline.{Discipline}
use Rattle.cp_states.specs.Numbers.{number_at}
use Rattle.cp_effect_laws.specs.Parts.{status_at}
use Rattle.cp_parts.specs.declared.placing.PlaceTable.{PlaceTable}
use Rattle.cp_parts.specs.declared.store.PartStore.{PartStore}
use Rattle.cp_parts.specs.Coded.{option_code, status_code}
use Rattle.cp_parts.specs.Parts.{IsStatusNumber}
use Rattle.cp_parts.proofs.Codes.{option_one, status_one}
use Rattle.cp_parts.proofs.Pieces.{one_number, one_piece}
use Rattle.cp_stretches.specs.declared.numbers.StatusNumbers.{StatusNumbers}
use Rattle.cp_stretches.specs.Numbers.{AreStatusNumbers, CanRead, rests_at}

-- ---- one status

module _ (s : PartStore) where
  one_status : (a b : Status) (k : ℕ) → IsStatusNumber s a k → IsStatusNumber s b k → a ≡ b
  one_status a b k x y = status_one a b (one_piece s.statuses.items.items s.statuses.ends.items k (status_code a) (status_code b) x y)

  one_status_number : (a b : Status) (j k : ℕ) → IsStatusNumber s a j → IsStatusNumber s b k → a ≡ b → j ≡ k
  one_status_number a b j k x y is = one_number s.statuses.items.items s.statuses.ends.items j k (status_code b) s.statuses.different (subst (λ c. IsStatusNumber s c j) is x) y

  -- a status passes a test that one status alone passes, exactly where it has the number of that one
  tested : (test : Status → Bool) (wanted : Status) (w : ℕ) → test wanted ≡ true → ((a : Status) → test a ≡ true → a ≡ wanted) → IsStatusNumber s wanted w → (a : Status) (k : ℕ) → IsStatusNumber s a k → (k == w) ≡ test a
  tested test wanted w passes alone is a k has = go (k == w) refl (test a) refl
    where
      go : (b : Bool) → (k == w) ≡ b → (c : Bool) → test a ≡ c → (k == w) ≡ test a
      go true e c f = e ∙ sym (ap test (one_status a wanted k has (subst (IsStatusNumber s wanted) (sym (eqb-true k w e)) is)) ∙ passes)
      go false e true f = absurd (false≢true (sym e ∙ eq-eqb k w (one_status_number a wanted k w has is (alone a f))))
      go false e false f = e ∙ sym f

ready_alone : (a : Status) → is_ready_status a ≡ true → a ≡ Ready
ready_alone Ready e = refl
ready_alone Unstarted e = absurd (cc)
ready_alone (AtGate k) e = absurd (cc)
ready_alone (Delayed k) e = absurd (cc)
ready_alone Ended e = absurd (cc)

gate_alone : (monitor : ℕ) (a : Status) → is_at_gate monitor a ≡ true → a ≡ AtGate monitor
gate_alone monitor (AtGate k) e = ap AtGate (eqb-true k monitor e)
gate_alone monitor Ready e = absurd (cc)
gate_alone monitor Unstarted e = absurd (cc)
gate_alone monitor (Delayed k) e = absurd (cc)
gate_alone monitor Ended e = absurd (cc)

-- ---- who rests

module _ (s : PartStore) (monitors : ℕ) (n : StatusNumbers) (a : Status) (k : ℕ) (are : AreStatusNumbers s monitors n) (has : IsStatusNumber s a k) where
  pub rests_by : (wanted : Status) (w : ℕ) → IsStatusNumber s wanted w → is_waiting wanted ≡ false → k ≡ w → is_waiting a ≡ false
  rests_by wanted w is rests same = ap is_waiting (one_status s a wanted k has (subst (IsStatusNumber s wanted) (sym same) is)) ∙ rests

  pub waits_else : (k ≡ n.ready → ⊥) → (k ≡ n.unstarted → ⊥) → (k ≡ n.ended → ⊥) → is_waiting a ≡ true
  waits_else ready unstarted ended = go a refl
    where
      go : (b : Status) → a ≡ b → is_waiting a ≡ true
      go Ready e = absurd (ready (one_status_number s a Ready k n.ready has are.ready e))
      go Unstarted e = absurd (unstarted (one_status_number s a Unstarted k n.unstarted has are.unstarted e))
      go Ended e = absurd (ended (one_status_number s a Ended k n.ended has are.ended e))
      go (AtGate m) e = ap is_waiting e
      go (Delayed c) e = ap is_waiting e

  pub rests_rests : rests_at n k ≡ true → is_waiting a ≡ false
  rests_rests h = go (k == n.ready) refl (k == n.unstarted) refl (k == n.ended) refl
    where
      go : (x : Bool) → (k == n.ready) ≡ x → (y : Bool) → (k == n.unstarted) ≡ y → (z : Bool) → (k == n.ended) ≡ z → is_waiting a ≡ false
      go true e y f z g = rests_by Ready n.ready are.ready refl (eqb-true k n.ready e)
      go false e true f z g = rests_by Unstarted n.unstarted are.unstarted refl (eqb-true k n.unstarted f)
      go false e false f true g = rests_by Ended n.ended are.ended refl (eqb-true k n.ended g)
      go false e false f false g =
          absurd (false≢true (sym (ap (λ b. (b || (k == n.unstarted)) || (k == n.ended)) e ∙ ap (λ b. (false || b) || (k == n.ended)) f ∙ ap (λ b. (false || false) || b) g) ∙ h))

  or_true : (b : Bool) → (b || true) ≡ true
  or_true true = refl
  or_true false = refl

  pub waits_waits : rests_at n k ≡ false → is_waiting a ≡ true
  waits_waits h =
      waits_else
      (λ e. false≢true (sym h ∙ ap (λ b. (b || (k == n.unstarted)) || (k == n.ended)) (eq-eqb k n.ready e)))
      (λ e. false≢true (sym h ∙ ap (λ b. ((k == n.ready) || b) || (k == n.ended)) (eq-eqb k n.unstarted e) ∙ ap (λ b. b || (k == n.ended)) (or_true (k == n.ready))))
      (λ e. false≢true (sym h ∙ ap (λ b. ((k == n.ready) || (k == n.unstarted)) || b) (eq-eqb k n.ended e) ∙ or_true ((k == n.ready) || (k == n.unstarted))))

-- ---- the processes of a row

module _ (r : Tables) (s : PartStore) (t : PlaceTable) (n : StatusNumbers) (m : Machine) (row : List ℕ) (can : CanRead r s t n m row) where
  pub processes_few : t.processes ≤ 16
  processes_few = omega (arith, can.few, can.placed.processes)

  as_many : length m.threads ≡ t.processes
  as_many = can.fits.threads ∙ sym can.placed.processes

  pub ready_tested : (q : ℕ) → q < t.processes → (number_at row q == n.ready) ≡ is_ready m q
  ready_tested q lt = tested s is_ready_status Ready n.ready refl ready_alone can.numbers.ready (status_at m q) (number_at row q) (can.stands.statuses q lt)

  gate_tested : (monitor : ℕ) → monitor < r.monitors → (q : ℕ) → q < t.processes → (number_at row q == number_at n.at_gate.items monitor) ≡ is_at_gate monitor (status_at m q)
  gate_tested monitor within q lt =
      tested s (is_at_gate monitor) (AtGate monitor) (number_at n.at_gate.items monitor) (eq-eqb monitor monitor refl) (gate_alone monitor) (can.numbers.at_gate monitor within) (status_at m q) (number_at row q) (can.stands.statuses q lt)

  -- those of a number are those who pass a test
  those_by : (w : ℕ) (f : ℕ → Bool) → ((q : ℕ) → q < t.processes → (number_at row q == w) ≡ f q) → filter (λ q. number_at row q == w) (range_with_len 0 t.processes) ≡ those_below (processes_of r) f
  those_by w f h =
      filtered (λ q. number_at row q == w) t.processes
      ∙ those_same t.processes (λ q. number_at row q == w) f h
      ∙ ap (λ k. those_below k f) can.placed.processes

  pub those_ready : filter (λ q. number_at row q == n.ready) (range_with_len 0 t.processes) ≡ those_below (processes_of r) (is_ready m)
  those_ready = those_by n.ready (is_ready m) ready_tested

  -- ---- who waits

  pub waits_at : (q : ℕ) → q < t.processes → is_waiting (status_at m q) ≡ true → waits m ≡ true
  waits_at q lt is = list_any_at (λ (x : Thread). is_waiting x.status) m.threads q no_thread (omega (arith, lt, as_many)) is

  pub waits_nowhere : ((q : ℕ) → q < t.processes → is_waiting (status_at m q) ≡ false) → waits m ≡ false
  waits_nowhere h = list_any_none (λ (x : Thread). is_waiting x.status) m.threads (All-from_get_or (λ (x : Thread). is_waiting x.status ≡ false) m.threads no_thread (λ q lt. h q (omega (arith, lt, as_many))))

  -- ---- what is pending

  nothing_coded : (p : Option ℕ) → option_code p ≡ 0 → is_some p ≡ false
  nothing_coded None e = refl
  nothing_coded (Some k) e = absurd (omega (arith, e))

  something_coded : (p : Option ℕ) → (option_code p ≡ 0 → ⊥) → is_some p ≡ true
  something_coded None e = absurd (e refl)
  something_coded (Some k) e = refl

  pub is_free : number_at row t.processes ≡ 0 → is_pending m ≡ false
  is_free e = nothing_coded m.pending (sym can.stands.pending ∙ e)

  pub is_wanted : (number_at row t.processes ≡ 0 → ⊥) → is_pending m ≡ true
  is_wanted h = something_coded m.pending (λ e. h (can.stands.pending ∙ e))

  -- the monitor is one that a byte can tell
  pub pending_few : number_at row t.processes ≤ 256
  pending_few = go m.pending can.fits.pending can.stands.pending
    where
      go : (p : Option ℕ) → IfSome p (λ monitor. monitor < r.monitors) → number_at row t.processes ≡ option_code p → number_at row t.processes ≤ 256
      go None h e = omega (arith, e)
      go (Some k) h e = omega (arith, e, h, can.placed.monitors, t.few)

  pub pending_is : (found : Option ℕ) → option_code found ≡ number_at row t.processes → m.pending ≡ found
  pending_is found e = option_one m.pending found (sym can.stands.pending ∙ sym e)

  pending_monitor : (monitor : ℕ) (p : Option ℕ) → option_code p ≡ suc monitor → p ≡ Some monitor
  pending_monitor monitor None e = absurd (omega (arith, e))
  pending_monitor monitor (Some k) e = let same : k ≡ monitor = omega (arith, e) in ap Some same

  pub wanted_monitor : (monitor : ℕ) → number_at row t.processes ≡ suc monitor → m.pending ≡ Some monitor
  wanted_monitor monitor e = pending_monitor monitor m.pending (sym can.stands.pending ∙ e)

  monitor_within : (p : Option ℕ) (monitor : ℕ) → p ≡ Some monitor → IfSome p (λ k. k < r.monitors) → monitor < r.monitors
  monitor_within None monitor e h = absurd (cc)
  monitor_within (Some k) monitor e h = let same : k ≡ monitor = cc in subst (λ j. j < r.monitors) same h

  pub gate_within : (monitor : ℕ) → number_at row t.processes ≡ suc monitor → monitor < r.monitors
  gate_within monitor e = monitor_within m.pending monitor (wanted_monitor monitor e) can.fits.pending

  -- ---- who may be chosen

  pub free_candidates : (discipline : Discipline) → number_at row t.processes ≡ 0 → filter (λ q. number_at row q == n.ready) (range_with_len 0 t.processes) ≡ those_below (processes_of r) (may (slots r discipline) m)
  free_candidates discipline e = those_ready ∙ wanted_ready (slots r discipline) m (is_free e)

  pub gate_candidates : (discipline : Discipline) (monitor : ℕ) → number_at row t.processes ≡ suc monitor → filter (λ q. number_at row q == number_at n.at_gate.items monitor) (range_with_len 0 t.processes) ≡ those_below (processes_of r) (may (slots r discipline) m)
  gate_candidates discipline monitor e =
      let pending = wanted_monitor monitor e in
      those_by (number_at n.at_gate.items monitor) (in_line m) (λ q lt. gate_tested monitor (gate_within monitor e) q lt ∙ ap (λ p. in_line_of p (status_at m q)) (sym pending))
      ∙ wanted_line (slots r discipline) m (ap is_some pending)

  pub candidates_by : (discipline : Discipline) (w : ℕ) → (number_at row t.processes ≡ 0 → w ≡ n.ready) → ((monitor : ℕ) → number_at row t.processes ≡ monitor + 1 → w ≡ number_at n.at_gate.items monitor) →
      filter (λ q. number_at row q == w) (range_with_len 0 t.processes) ≡ those_below (processes_of r) (may (slots r discipline) m)
  candidates_by discipline w ready gate = go (number_at row t.processes) refl
    where
      go : (k : ℕ) → number_at row t.processes ≡ k → filter (λ q. number_at row q == w) (range_with_len 0 t.processes) ≡ those_below (processes_of r) (may (slots r discipline) m)
      go zero e = ap (λ v. filter (λ q. number_at row q == v) (range_with_len 0 t.processes)) (ready e) ∙ free_candidates discipline e
      go (suc monitor) e = ap (λ v. filter (λ q. number_at row q == v) (range_with_len 0 t.processes)) (gate monitor (omega (arith, e))) ∙ gate_candidates discipline monitor e
