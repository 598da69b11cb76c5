-- Who is let in: what an admission does to the place of its monitor, and that it changes no other place.
use Rattle.std.proofs.Common.{◌≡◌, ◌∙◌, ◌+◌, ◌<◌, ◌≤◌, ◌⊎◌, inl, inr, ℕ, true, List, length, Some, ap, arith, refl, sym, subst, get_or-set_same, get_or-set_other}
use Rattle.std.specs.Prelude.{IfSome, slice_set}
use Rattle.std.proofs.lemmas.Bool.{cases_eq, cases_lt, eq-eqb, eqb-true, false≢true}
use Rattle.std.proofs.lemmas.List.{get_or_past, length-set}
use Rattle.cp_slots.specs.Tables.{Tables}
use Rattle.cp_machine.specs.declared.process.Status.{Status}
use Rattle.cp_machine.specs.declared.process.Status.TheVariants.{Unstarted, Ready, AtGate, Delayed, Ended}
use Rattle.cp_machine.specs.Bodies.{body_at}
use Rattle.cp_machine.specs.Fits.{MachineFits}
use Rattle.cp_machine.specs.Machine.{Machine, Monitor, Thread, in_line, in_line_of, is_at_gate, monitor_at, no_monitor, no_thread, thread_at}
use Rattle.cp_machine.specs.Opening.{admit_at, admit_waiting, without}
use Rattle.cp_machine.proofs.Unmoved.{admitted_keeps}
use Rattle.cp_machine.proofs.rooms.KernelFits.{admitted_fits}
use Rattle.cp_states.specs.Numbers.{number_at}
use Rattle.cp_effect_laws.specs.Parts.{HaveSame, Places, stage, status_at, waits_in}
use Rattle.cp_parts.specs.declared.placing.PlaceTable.{PlaceTable}
use Rattle.cp_parts.specs.declared.store.PartStore.{PartStore}
use Rattle.cp_parts.specs.Parts.{IsPartNumber, IsPartRow, IsStatusNumber, KeepStore}
use Rattle.cp_parts.specs.Placed.{IsPlaced, place_count, places_of}
use Rattle.cp_parts.proofs.Keeping.{part_on}
use Rattle.cp_parts.proofs.Same.{part_law, same_part_law}
use Rattle.cp_effects.specs.Admitting.{AdmissionRowLaw, IsAdmission, admitted_row, guard_position}
use Rattle.cp_effects.specs.Changes.{part_position}

at_gate : (monitor : ℕ) (s : Status) → is_at_gate monitor s ≡ true → s ≡ AtGate monitor
at_gate monitor (AtGate gate) h = ap AtGate (eqb-true gate monitor h)
at_gate monitor Unstarted h = absurd (false≢true h)
at_gate monitor Ready h = absurd (false≢true h)
at_gate monitor (Delayed cell) h = absurd (false≢true h)
at_gate monitor Ended h = absurd (false≢true h)

-- who is at a gate is one of the processes
there : (ts : List Thread) (p monitor : ℕ) → (thread_at ts p).status ≡ AtGate monitor → p < length ts
there ts p monitor is = go (cases_lt p (length ts))
  where
    not_ended : Ended ≡ AtGate monitor → ⊥
    not_ended h = cc

    go : (p < length ts) ⊎ (length ts ≤ p) → p < length ts
    go (inl lt) = lt
    go (inr ge) = absurd (not_ended (sym (ap (λ (t : Thread). t.status) (get_or_past ts p no_thread ge)) ∙ is))

-- ---- one machine

module _ (m : Machine) (p k : ℕ) (gate : status_at m p ≡ AtGate k) where
  abbrev pub let_in : Machine
  let_in = admit_at (Some k) m p

  status_own : status_at let_in p ≡ Ready
  status_own = ap (λ (t : Thread). t.status) (get_or-set_same m.threads p (record (thread_at m.threads p) { status = Ready }) no_thread (there m.threads p k gate))

  status_other : (q : ℕ) → (q ≡ p → ⊥) → status_at let_in q ≡ status_at m q
  status_other q ne = ap (λ (t : Thread). t.status) (get_or-set_other m.threads p q (record (thread_at m.threads p) { status = Ready }) no_thread ne)

  abbrev admitted_monitor : Monitor
  admitted_monitor = record { holder = Some p; line = without p (monitor_at m k).line }

  monitor_own : k < length m.monitors → monitor_at let_in k ≡ admitted_monitor
  monitor_own lt = get_or-set_same m.monitors k admitted_monitor no_monitor lt

  monitor_other : (j : ℕ) → (j ≡ k → ⊥) → monitor_at let_in j ≡ monitor_at m j
  monitor_other j ne = get_or-set_other m.monitors k j admitted_monitor no_monitor ne

  waits_at : (l : Places) → waits_in l (l.of_monitor k) (status_at m p) ≡ true
  waits_at l = ap (waits_in l (l.of_monitor k)) gate ∙ eq-eqb (l.of_monitor k) (l.of_monitor k) refl

  -- nothing changes in another place
  pub rest_admitted : (l : Places) (place : ℕ) → (place ≡ l.of_monitor k → ⊥) → ((q : ℕ) → body_at let_in q ≡ body_at m q) → HaveSame l place m let_in
  rest_admitted l place ne bodies =
      record {
        cells = λ j is. refl;
        bindings = λ j is. refl;
        phases = λ j is. refl;
        monitors = λ j is. monitor_other j (λ e. ne (sym is ∙ ap l.of_monitor e));
        waiting = λ q w. waits q w (cases_eq q p);
        others_wait = λ q w. others q w (cases_eq q p);
        bodies = λ q is. bodies q;
        stages = λ q is. stages q (cases_eq q p);
      }
    where
      not_here : waits_in l place (status_at m p) ≡ true → ⊥
      not_here w = ne (sym (eqb-true (l.of_monitor k) place (sym (ap (waits_in l place) gate) ∙ w)))

      waits : (q : ℕ) → waits_in l place (status_at m q) ≡ true → (q ≡ p) ⊎ (q ≡ p → ⊥) → status_at let_in q ≡ status_at m q
      waits q w (inl e) = absurd (not_here (ap (λ j. waits_in l place (status_at m j)) (sym e) ∙ w))
      waits q w (inr other) = status_other q other

      others : (q : ℕ) → waits_in l place (status_at let_in q) ≡ true → (q ≡ p) ⊎ (q ≡ p → ⊥) → status_at let_in q ≡ status_at m q
      others q w (inl e) = absurd (false≢true (sym (ap (λ j. waits_in l place (status_at let_in j)) e ∙ ap (waits_in l place) status_own) ∙ w))
      others q w (inr other) = status_other q other

      stages : (q : ℕ) → (q ≡ p) ⊎ (q ≡ p → ⊥) → stage (status_at let_in q) ≡ stage (status_at m q)
      stages q (inl e) = ap (λ j. stage (status_at let_in j)) e ∙ ap stage status_own ∙ sym (ap (λ j. stage (status_at m j)) e ∙ ap stage gate)
      stages q (inr other) = ap stage (status_other q other)

-- ---- two machines that have the same in the monitor's place

module _ (l : Places) (m n : Machine) (p k : ℕ) (gate : status_at m p ≡ AtGate k) (same : HaveSame l (l.of_monitor k) m n) where
  pub gate_there : status_at n p ≡ AtGate k
  gate_there = same.waiting p (waits_at m p k gate l) ∙ gate

  abbrev m' : Machine
  m' = let_in m p k gate

  abbrev n' : Machine
  n' = let_in n p k gate_there

  pub same_admitted : k < length m.monitors → k < length n.monitors → ((j i : ℕ) → l.of_monitor j ≡ l.of_monitor i → j ≡ i) → ((q : ℕ) → body_at m' q ≡ body_at m q) → ((q : ℕ) → body_at n' q ≡ body_at n q) → HaveSame l (l.of_monitor k) m' n'
  same_admitted km kn one bodies_m bodies_n =
      record {
        cells = same.cells;
        bindings = same.bindings;
        phases = same.phases;
        monitors = λ j is. monitors j (one j k is);
        waiting = λ q w. statuses q (λ ne. same.waiting q (ap (waits_in l (l.of_monitor k)) (sym (status_other m p k gate q ne)) ∙ w)) (cases_eq q p);
        others_wait = λ q w. statuses q (λ ne. same.others_wait q (ap (waits_in l (l.of_monitor k)) (sym (status_other n p k gate_there q ne)) ∙ w)) (cases_eq q p);
        bodies = λ q is. bodies_n q ∙ same.bodies q is ∙ sym (bodies_m q);
        stages = λ q is. stages q is (cases_eq q p);
      }
    where
      monitors : (j : ℕ) → j ≡ k → monitor_at n' j ≡ monitor_at m' j
      monitors j e =
          ap (monitor_at n') e
          ∙ monitor_own n p k gate_there kn
          ∙ ap (λ (x : Monitor). let y : Monitor = record { holder = Some p; line = without p x.line } in y) (same.monitors k refl)
          ∙ sym (ap (monitor_at m') e ∙ monitor_own m p k gate km)

      own : (q : ℕ) → q ≡ p → status_at n' q ≡ status_at m' q
      own q e = ap (status_at n') e ∙ status_own n p k gate_there ∙ sym (ap (status_at m') e ∙ status_own m p k gate)

      statuses : (q : ℕ) → ((q ≡ p → ⊥) → status_at n q ≡ status_at m q) → (q ≡ p) ⊎ (q ≡ p → ⊥) → status_at n' q ≡ status_at m' q
      statuses q before (inl e) = own q e
      statuses q before (inr ne) = status_other n p k gate_there q ne ∙ before ne ∙ sym (status_other m p k gate q ne)

      stages : (q : ℕ) → l.of_process q ≡ l.of_monitor k → (q ≡ p) ⊎ (q ≡ p → ⊥) → stage (status_at n' q) ≡ stage (status_at m' q)
      stages q is (inl e) = ap stage (own q e)
      stages q is (inr ne) = ap stage (status_other n p k gate_there q ne) ∙ same.stages q is ∙ sym (ap stage (status_other m p k gate q ne))

-- ---- the row

module _ (s : PartStore) (t : PlaceTable) (r : Tables) (p k after : ℕ) (n : Machine) (row : List ℕ)
    (placed : IsPlaced r t) (fits : MachineFits r n) (pending : n.pending ≡ Some k) (stands : IsPartRow s t n row) (known : IsAdmission s t r p k (number_at row (guard_position t k)) after) where
  abbrev l : Places
  l = places_of t

  abbrev place : ℕ
  place = l.of_monitor k

  abbrev m : Machine
  m = known.first

  let_in_is : (x : Machine) → x.pending ≡ Some k → admit_waiting x p ≡ admit_at (Some k) x p
  let_in_is x is = ap (λ w. admit_at w x p) is

  bodies : (x : Machine) → x.pending ≡ Some k → (q : ℕ) → body_at (admit_at (Some k) x p) q ≡ body_at x q
  bodies x is q = ap (λ (y : Machine). body_at y q) (sym (let_in_is x is)) ∙ (admitted_keeps x p).1 q

  gate : status_at m p ≡ AtGate k
  gate = at_gate k (status_at m p) (sym (ap (λ w. in_line_of w (status_at m p)) known.pending) ∙ known.waits)

  few : (x : Machine) → MachineFits r x → x.pending ≡ Some k → k < r.monitors
  few x f is = subst (λ w. IfSome w (λ monitor. monitor < r.monitors)) is f.pending

  within : k < r.monitors
  within = few n fits pending

  place_within : place < place_count t
  place_within = omega (arith, within, placed.monitors)

  same : HaveSame l place m n
  same = part_law r s t m n place (number_at row (guard_position t k)) placed known.fits fits place_within known.found (stands.parts place place_within)

  gate_n : status_at n p ≡ AtGate k
  gate_n = gate_there l m n p k gate same

  abbrev let_in_n : Machine
  let_in_n = let_in n p k gate_n

  fits_let_in : (x : Machine) → MachineFits r x → x.pending ≡ Some k → MachineFits r (admit_at (Some k) x p)
  fits_let_in x f is = subst (MachineFits r) (let_in_is x is) (admitted_fits r x p f)

  one_monitor : (j i : ℕ) → l.of_monitor j ≡ l.of_monitor i → j ≡ i
  one_monitor j i e = omega (arith, e)

  same_after : HaveSame l place (let_in m p k gate) let_in_n
  same_after =
      same_admitted l m n p k gate same (omega (arith, within, known.fits.monitors)) (omega (arith, within, fits.monitors)) one_monitor (bodies m known.pending) (bodies n pending)

  abbrev first : List ℕ
  first = slice_set row p s.ready

  abbrev second : List ℕ
  second = slice_set first t.processes 0

  abbrev new : List ℕ
  new = admitted_row s t p k after row

  long : length new ≡ t.processes + 1 + place_count t
  long = length-set second (guard_position t k) after ∙ length-set first t.processes 0 ∙ length-set row p s.ready ∙ stands.long

  pid_within : p < t.processes
  pid_within = omega (arith, there n.threads p k gate_n, fits.threads, placed.processes)

  new_other : (j : ℕ) → (j ≡ p → ⊥) → (j ≡ t.processes → ⊥) → (j ≡ guard_position t k → ⊥) → number_at new j ≡ number_at row j
  new_other j a b c = get_or-set_other second (guard_position t k) j after 0 c ∙ get_or-set_other first t.processes j 0 0 b ∙ get_or-set_other row p j s.ready 0 a

  new_status : number_at new p ≡ s.ready
  new_status =
      get_or-set_other second (guard_position t k) p after 0 (λ e. omega (arith, e, pid_within))
      ∙ get_or-set_other first t.processes p 0 0 (λ e. omega (arith, e, pid_within))
      ∙ get_or-set_same row p s.ready 0 (omega (arith, stands.long, pid_within))

  new_pending : number_at new t.processes ≡ 0
  new_pending =
      get_or-set_other second (guard_position t k) t.processes after 0 (λ e. omega (arith, e))
      ∙ get_or-set_same first t.processes 0 0 (omega (arith, stands.long, length-set row p s.ready))

  new_part : number_at new (guard_position t k) ≡ after
  new_part = get_or-set_same second (guard_position t k) after 0 (omega (arith, stands.long, place_within, length-set row p s.ready, length-set first t.processes 0))

  statuses : (q : ℕ) → q < t.processes → IsStatusNumber s (status_at let_in_n q) (number_at new q)
  statuses q lt = go (cases_eq q p)
    where
      ready : IsStatusNumber s Ready s.ready
      ready = s.is_ready

      go : (q ≡ p) ⊎ (q ≡ p → ⊥) → IsStatusNumber s (status_at let_in_n q) (number_at new q)
      go (inl e) =
          subst (λ j. IsStatusNumber s (status_at let_in_n j) (number_at new j)) (sym e)
          (subst (λ c. IsStatusNumber s c (number_at new p)) (sym (status_own n p k gate_n)) (subst (IsStatusNumber s Ready) (sym new_status) ready))
      go (inr ne) =
          subst (λ c. IsStatusNumber s c (number_at new q)) (sym (status_other n p k gate_n q ne))
          (subst (IsStatusNumber s (status_at n q)) (sym (new_other q ne (λ e. omega (arith, e, lt)) (λ e. omega (arith, e, lt)))) (stands.statuses q lt))

  parts : (other : ℕ) → other < place_count t → IsPartNumber s t let_in_n other (number_at new (part_position t other))
  parts other lt = go (cases_eq other place)
    where
      go : (other ≡ place) ⊎ (other ≡ place → ⊥) → IsPartNumber s t let_in_n other (number_at new (part_position t other))
      go (inl e) =
          subst (λ j. IsPartNumber s t let_in_n j (number_at new (part_position t j))) (sym e)
          (subst (IsPartNumber s t let_in_n place) (sym new_part)
          (same_part_law r s t (let_in m p k gate) let_in_n place after placed (fits_let_in m known.fits known.pending) (fits_let_in n fits pending) place_within same_after
          (subst (λ (x : Machine). IsPartNumber s t x place after) (let_in_is m known.pending) known.comes)))
      go (inr ne) =
          subst (IsPartNumber s t let_in_n other) (sym (new_other (part_position t other) (λ e. omega (arith, e, pid_within)) (λ e. omega (arith, e)) (λ e. ne (omega (arith, e)))))
          (same_part_law r s t n let_in_n other (number_at row (part_position t other)) placed fits (fits_let_in n fits pending) lt (rest_admitted n p k gate_n l other ne (bodies n pending)) (stands.parts other lt))

  pub row_let_in : IsPartRow s t (admit_waiting n p) new
  row_let_in =
      subst (λ (x : Machine). IsPartRow s t x new) (sym (let_in_is n pending))
      (record { long = long; statuses = statuses; pending = new_pending; parts = parts })

pub admission_row_law : AdmissionRowLaw
admission_row_law s t r pid monitor after n row placed fits pending stands known = row_let_in s t r pid monitor after n row placed fits pending stands known

-- an admission that was made
pub admission_made : (s u : PartStore) (t : PlaceTable) (r : Tables) (m n : Machine) (pid monitor place part : ℕ) (row : List ℕ) →
    IsPlaced r t → MachineFits r m → m.pending ≡ Some monitor → in_line m pid ≡ true → KeepStore s u → IsPartRow s t m row →
    n ≡ admit_waiting m pid → place ≡ (places_of t).of_monitor monitor → IsPartNumber u t n place part → IsAdmission u t r pid monitor (number_at row (guard_position t monitor)) part
admission_made s u t r m n pid monitor place part row placed fits pending waits kept stands after here is =
    let within : monitor < r.monitors = subst (λ w. IfSome w (λ k. k < r.monitors)) pending fits.pending in
    record {
      first = m;
      fits = fits;
      pending = pending;
      waits = waits;
      found = part_on s u t m ((places_of t).of_monitor monitor) (number_at row (guard_position t monitor)) kept (stands.parts ((places_of t).of_monitor monitor) (omega (arith, within, placed.monitors)));
      comes = subst (λ p. IsPartNumber u t (admit_waiting m pid) p part) here (subst (λ (x : Machine). IsPartNumber u t x place part) after is);
    }
