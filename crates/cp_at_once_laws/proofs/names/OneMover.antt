-- Where a stretch that goes on for ever comes back to the same processes, one process makes each of its steps.
use Rattle.std.proofs.Common.{◌≡◌, ◌≢◌, ℕ, zero, suc, ◌+◌, ◌≤◌, ◌∙◌, ◌⊎◌, inl, inr, true, Ok, Err, ap, sym, refl, subst, arith}
use Rattle.cp_at_once_laws.proofs.Words.{Tree, Outcome, Status, ready, process_at, book_discipline, State, delays, Doing, kernel_step, IsWellFormed, OrderlyState}
use Rattle.cp_at_once_laws.proofs.Words.{reached, Over, Goes, turn_after, event_of, is_call, names, IsSomewhere, IsPlain, status_told}
use Rattle.cp_machine.specs.declared.event.Event as slot_event
use Rattle.cp_machine.specs.declared.event.Event.TheVariants as event
use Rattle.cp_meaning.specs.Readings.{is_ready as ready_status}
use Rattle.cp_meaning.specs.Steps.{settled, step_of, line_at}
use Rattle.cp_at_once_laws.proofs.rules.StartsKnown.{StartsKnown}
use Rattle.cp_at_once_laws.proofs.limits.Turns.{local_turn}
use Rattle.cp_at_once_laws.proofs.limits.Words.{EventKind, is_local, is_kernel, is_stop, which_event, stop_turn}
use Rattle.cp_at_once_laws.proofs.names.Commuting.{plain as is_plain, within_of}
use Rattle.cp_at_once_laws.proofs.names.Laws.{kept, beside_law}
use Rattle.cp_at_once_laws.proofs.names.States.{Known, known}
use Rattle.cp_at_once_laws.proofs.names.Waking.{only_ready, IsStuck, IsAtGate, Woken, unchanged, own, both_ready, let_go, begun_now, woken_by, own_status, own_what, goes_call, end_stuck, goes_same}
use Rattle.cp_at_once_laws.proofs.pairs.Changes.{GoesFrom, Becomes}
use Rattle.cp_at_once_laws.proofs.pairs.Facts.{Facts, AllFacts, done, facts}

no_more : (n : ℕ) → n + 0 ≡ n
no_more n = omega arith

one_later : (n k : ℕ) → n + suc k ≡ suc (n + k)
one_later n k = omega arith

not_ready_stuck : (status : Status) → status ≡ ready → IsStuck status → ⊥
not_ready_stuck status e h = subst IsStuck e h

not_ready_gate : (status : Status) → status ≡ ready → IsAtGate status → ⊥
not_ready_gate status e h = subst IsAtGate e h

module _ (t : Tree) (wf : IsWellFormed t.program) (rules : StartsKnown t.program) where
  plain : IsPlain (names t) (IsSomewhere t)
  plain = is_plain t wf (kept t wf rules) (beside_law t wf rules)

  abbrev status_of : State → ℕ → Status
  status_of s z = (process_at s.processes z).status

  -- what is known of a step after which y goes on
  record GoesOnTo (s : State) (pid y : ℕ) : Type 0 where
    stuck : (z : ℕ) → IsStuck (status_of s z) → IsStuck (status_of ((names t).step s pid) z)
    gate : (z : ℕ) → IsAtGate (status_of s z) → IsAtGate (status_of ((names t).step s pid) z) ⊎ IsStuck (status_of ((names t).step s pid) pid)
    mover : (y ≡ pid) ⊎ (IsAtGate (status_of ((names t).step s pid) pid) ⊎ IsStuck (status_of ((names t).step s pid) pid))
    ends : (names t).event s pid ≡ event.Ended → IsStuck (status_of ((names t).step s pid) pid)

  module _ (s : State) (pid y : ℕ) (met : IsSomewhere t s) (is_ready : status_of s pid ≡ ready) (there : IsSomewhere t ((names t).step s pid)) (turn : turn_after (names t) ((names t).step s pid) pid ((names t).event s pid) ≡ Goes y) where
    k : Known t wf (kept t wf rules) s
    k = known t wf (kept t wf rules) met.happened s met.met

    alone_ready : is_call ((names t).event s pid) ≡ true → (z : ℕ) → status_of ((names t).step s pid) z ≡ ready → z ≡ y
    alone_ready call z e =
        let now : (names t).is_ready ((names t).step s pid) z ≡ true = ap ready_status e in
        only_ready (names t) ((names t).step s pid) pid y z ((names t).event s pid) (plain.free ((names t).step s pid) there) call turn (plain.below ((names t).step s pid) z there now) now

    module _ (d : Doing) (f : Facts t.program s pid d) (is : step_of t.program s pid ≡ kernel_step t.program s pid d d.move) where
      inv : OrderlyState s
      inv = (reached t.program wf book_discipline s k.reach).1

      now_of : (z : ℕ) → status_of ((names t).step s pid) z ≡ status_of (kernel_step t.program s pid d d.move).state z
      now_of z = ap (λ x. (process_at x.state.processes z).status) is

      call_of : (m : ℕ) → GoesFrom d.move m → is_call ((names t).event s pid) ≡ true
      call_of m g = ap (λ x. is_call (event_of pid (line_at t s pid) x.event)) is ∙ goes_call t.program s pid d is_ready inv.orderly.lines (λ m. f.good.layout.line m) k.discipline pid (line_at t s pid) d.move m g

      woken : (z : ℕ) → Woken t.program s pid d is_ready inv.orderly.lines (λ m. f.good.layout.line m) k.discipline d.move z (process_at (kernel_step t.program s pid d d.move).state.processes z)
      woken z = woken_by t.program s pid d is_ready inv.orderly.lines (λ m. f.good.layout.line m) k.discipline d.move z

      own_now : (status_of (kernel_step t.program s pid d d.move).state pid ≡ ready) ⊎ Becomes d.move (status_of (kernel_step t.program s pid d d.move).state pid)
      own_now = own_status t.program s pid d is_ready inv.orderly.lines (λ m. f.good.layout.line m) k.discipline d.move

      -- two would be ready, and a choice due
      never_two : (m z : ℕ) → z ≢ pid → status_of (kernel_step t.program s pid d d.move).state z ≡ ready → GoesFrom d.move m → ((status : Status) → Becomes d.move status → status ≡ ready) → ⊥
      never_two m z ne now g b = ne (alone_ready (call_of m g) z (now_of z ∙ now) ∙ sym (alone_ready (call_of m g) pid (now_of pid ∙ mine own_now)))
        where
          mine : (status_of (kernel_step t.program s pid d d.move).state pid ≡ ready) ⊎ Becomes d.move (status_of (kernel_step t.program s pid d d.move).state pid) → status_of (kernel_step t.program s pid d d.move).state pid ≡ ready
          mine (inl e) = e
          mine (inr e) = b (status_of (kernel_step t.program s pid d d.move).state pid) e

      stuck_after : (z : ℕ) → IsStuck (status_of s z) → IsStuck (status_of ((names t).step s pid) z)
      stuck_after z h = subst IsStuck (sym (now_of z)) (go (woken z))
        where
          go : Woken t.program s pid d is_ready inv.orderly.lines (λ m. f.good.layout.line m) k.discipline d.move z (process_at (kernel_step t.program s pid d d.move).state.processes z) → IsStuck (status_of (kernel_step t.program s pid d d.move).state z)
          go (unchanged e) = subst IsStuck (sym e) h
          go (own e) = absurd (not_ready_stuck (status_of s z) (ap (status_of s) e ∙ is_ready) h)
          go (both_ready m ne now g b) = absurd (never_two m z ne now g b)
          go (let_go m now move (inl e)) = absurd (subst IsStuck e h)
          go (let_go m now move (inr e)) = absurd (subst IsStuck e h)
          go (begun_now e) = absurd (subst IsStuck e h)

      gate_after : (z : ℕ) → IsAtGate (status_of s z) → IsAtGate (status_of ((names t).step s pid) z) ⊎ IsStuck (status_of ((names t).step s pid) pid)
      gate_after z h = go (woken z)
        where
          delayed_now : (m : ℕ) → d.move ≡ delays m → (status_of (kernel_step t.program s pid d d.move).state pid ≡ ready) ⊎ Becomes d.move (status_of (kernel_step t.program s pid d d.move).state pid) →
              (status_of ((names t).step s pid) z ≡ ready → ⊥) ⊎ IsStuck (status_of ((names t).step s pid) pid)
          delayed_now m move (inr e) = inr (subst IsStuck (sym (now_of pid ∙ subst (λ v. Becomes v (status_of (kernel_step t.program s pid d d.move).state pid)) move e)) tt)
          delayed_now m move (inl e) = inl (λ now. (let call = call_of m (subst (λ v. GoesFrom v m) (sym move) refl) in
              not_ready_gate (status_of s z) (ap (status_of s) (alone_ready call z now ∙ sym (alone_ready call pid (now_of pid ∙ e))) ∙ is_ready) h))

          go : Woken t.program s pid d is_ready inv.orderly.lines (λ m. f.good.layout.line m) k.discipline d.move z (process_at (kernel_step t.program s pid d d.move).state.processes z) → IsAtGate (status_of ((names t).step s pid) z) ⊎ IsStuck (status_of ((names t).step s pid) pid)
          go (unchanged e) = inl (subst IsAtGate (sym (now_of z ∙ e)) h)
          go (own e) = absurd (not_ready_gate (status_of s z) (ap (status_of s) e ∙ is_ready) h)
          go (both_ready m ne now g b) = absurd (never_two m z ne now g b)
          go (let_go m now move w) = by (delayed_now m move own_now)
            where
              by : (status_of ((names t).step s pid) z ≡ ready → ⊥) ⊎ IsStuck (status_of ((names t).step s pid) pid) → IsAtGate (status_of ((names t).step s pid) z) ⊎ IsStuck (status_of ((names t).step s pid) pid)
              by (inl never) = absurd (never (now_of z ∙ now))
              by (inr e) = inr e
          go (begun_now e) = absurd (subst IsAtGate e h)

      mover_after : (y ≡ pid) ⊎ (IsAtGate (status_of ((names t).step s pid) pid) ⊎ IsStuck (status_of ((names t).step s pid) pid))
      mover_after = go (own_what t.program s pid d is_ready inv.orderly.lines (λ m. f.good.layout.line m) k.discipline d.move)
        where
          here : status_of ((names t).step s pid) pid ≡ ready → (e : slot_event.Event) → (names t).event s pid ≡ e → EventKind e → y ≡ pid
          here now _ e is_local =
              let ready_now : (names t).is_ready ((names t).step s pid) pid ≡ true = ap ready_status now in
              sym (goes_same pid y (sym (local_turn (names t) ((names t).step s pid) pid (plain.free ((names t).step s pid) there) (plain.below ((names t).step s pid) pid there ready_now) ready_now) ∙ ap (turn_after (names t) ((names t).step s pid) pid) (sym e) ∙ turn))
          here now _ e (is_kernel x h) = sym (alone_ready (ap is_call e ∙ h) pid now)
          here now _ e (is_stop x kind h) = absurd (stops (sym (stop_turn (names t) ((names t).step s pid) pid x kind h) ∙ ap (turn_after (names t) ((names t).step s pid) pid) (sym e) ∙ turn))
            where
              stops : Over kind ≡ Goes y → ⊥
              stops bad = cc

          go : (status_of (kernel_step t.program s pid d d.move).state pid ≡ ready) ⊎ (IsAtGate (status_of (kernel_step t.program s pid d d.move).state pid) ⊎ IsStuck (status_of (kernel_step t.program s pid d d.move).state pid)) →
              (y ≡ pid) ⊎ (IsAtGate (status_of ((names t).step s pid) pid) ⊎ IsStuck (status_of ((names t).step s pid) pid))
          go (inl e) = inl (here (now_of pid ∙ e) ((names t).event s pid) refl (which_event ((names t).event s pid)))
          go (inr (inl h)) = inr (inl (subst IsAtGate (sym (now_of pid)) h))
          go (inr (inr h)) = inr (inr (subst IsStuck (sym (now_of pid)) h))

      ends_after : (names t).event s pid ≡ event.Ended → IsStuck (status_of ((names t).step s pid) pid)
      ends_after e =
          subst IsStuck (sym (now_of pid))
          (end_stuck t.program s pid d is_ready inv.orderly.lines (λ m. f.good.layout.line m) k.discipline (within_of s.processes pid is_ready) pid (line_at t s pid) (ap (λ x. event_of pid (line_at t s pid) x.event) (sym is) ∙ e))

    by_outcome : (o : Outcome Doing) → AllFacts t.program s pid o → step_of t.program s pid ≡ settled t.program s pid o → GoesOnTo s pid y
    by_outcome (Ok d) f is = record { stuck = stuck_after d f is; gate = gate_after d f is; mover = mover_after d f is; ends = ends_after d f is }
    by_outcome (Err x) f is = absurd (stops (ap (λ u. turn_after (names t) ((names t).step s pid) pid (event_of pid (line_at t s pid) u.event)) (sym is) ∙ turn))
      where
        stops : turn_after (names t) ((names t).step s pid) pid (event_of pid (line_at t s pid) (settled t.program s pid (Err x)).event) ≡ Goes y → ⊥
        stops bad = cc

    step_goes : GoesOnTo s pid y
    step_goes =
        let inv = reached t.program wf book_discipline s k.reach in
        by_outcome (done t.program s pid) (facts t.program s pid wf inv.0 inv.1 (within_of s.processes pid is_ready) is_ready rules k.unknown) refl

  -- ---- a stretch that goes on for ever

  pub record Endless (state : ℕ → State) (mover : ℕ → ℕ) : Type 0 where
    pub met : (n : ℕ) → IsSomewhere t (state n)
    pub ready : (n : ℕ) → (names t).is_ready (state n) (mover n) ≡ true
    pub next : (n : ℕ) → state (suc n) ≡ (names t).step (state n) (mover n)
    pub turn : (n : ℕ) → turn_after (names t) ((names t).step (state n) (mover n)) (mover n) ((names t).event (state n) (mover n)) ≡ Goes (mover (suc n))

  module _ (state : ℕ → State) (mover : ℕ → ℕ) (x : Endless state mover) (since period : ℕ) (again : (n : ℕ) → since ≤ n → mover (n + suc period) ≡ mover n) where
    abbrev at_step : ℕ → ℕ → Status
    at_step n z = status_of (state n) z

    ready_at : (n : ℕ) → at_step n (mover n) ≡ ready
    ready_at n = status_told (at_step n (mover n)) (x.ready n)

    goes_at : (n : ℕ) → GoesOnTo (state n) (mover n) (mover (suc n))
    goes_at n = step_goes (state n) (mover n) (mover (suc n)) (x.met n) (ready_at n) (subst (IsSomewhere t) (x.next n) (x.met (suc n))) (x.turn n)

    stuck_next : (n z : ℕ) → IsStuck (at_step n z) → IsStuck (at_step (suc n) z)
    stuck_next n z h = subst (λ s. IsStuck (status_of s z)) (sym (x.next n)) ((goes_at n).stuck z h)

    stuck_on : (n z j : ℕ) → IsStuck (at_step n z) → IsStuck (at_step (n + j) z)
    stuck_on n z zero h = subst (λ i. IsStuck (at_step i z)) (sym (no_more n)) h
    stuck_on n z (suc j) h = subst (λ i. IsStuck (at_step i z)) (sym (one_later n j)) (stuck_next (n + j) z (stuck_on n z j h))

    -- who makes a step here is not stuck after it, since it makes one again
    round_on : (n : ℕ) → n + suc period ≡ suc n + period
    round_on n = omega arith

    moves_again : (n : ℕ) → since ≤ n → at_step (suc n + period) (mover n) ≡ ready
    moves_again n le = ap (λ i. at_step i (mover n)) (sym (round_on n)) ∙ ap (at_step (n + suc period)) (sym (again n le)) ∙ ready_at (n + suc period)

    not_stuck : (n : ℕ) → since ≤ n → IsStuck (at_step (suc n) (mover n)) → ⊥
    not_stuck n le h = not_ready_stuck (at_step (suc n + period) (mover n)) (moves_again n le) (stuck_on (suc n) (mover n) period h)

    gate_next : (n z : ℕ) → since ≤ n → IsAtGate (at_step n z) → IsAtGate (at_step (suc n) z)
    gate_next n z le h = go ((goes_at n).gate z h)
      where
        go : IsAtGate (status_of ((names t).step (state n) (mover n)) z) ⊎ IsStuck (status_of ((names t).step (state n) (mover n)) (mover n)) → IsAtGate (at_step (suc n) z)
        go (inl g) = subst (λ s. IsAtGate (status_of s z)) (sym (x.next n)) g
        go (inr g) = absurd (not_stuck n le (subst (λ s. IsStuck (status_of s (mover n))) (sym (x.next n)) g))

    gate_on : (n z j : ℕ) → since ≤ n → IsAtGate (at_step n z) → IsAtGate (at_step (n + j) z)
    gate_on n z zero le h = subst (λ i. IsAtGate (at_step i z)) (sym (no_more n)) h
    gate_on n z (suc j) le h = subst (λ i. IsAtGate (at_step i z)) (sym (one_later n j)) (gate_next (n + j) z (omega (arith, le)) (gate_on n z j le h))

    one_next : (n : ℕ) → since ≤ n → mover (suc n) ≡ mover n
    one_next n le = go (goes_at n).mover
      where
        go : (mover (suc n) ≡ mover n) ⊎ (IsAtGate (status_of ((names t).step (state n) (mover n)) (mover n)) ⊎ IsStuck (status_of ((names t).step (state n) (mover n)) (mover n))) → mover (suc n) ≡ mover n
        go (inl e) = e
        go (inr (inl g)) =
            absurd (not_ready_gate (at_step (suc n + period) (mover n)) (moves_again n le) (gate_on (suc n) (mover n) period (omega (arith, le)) (subst (λ s. IsAtGate (status_of s (mover n))) (sym (x.next n)) g)))
        go (inr (inr g)) = absurd (not_stuck n le (subst (λ s. IsStuck (status_of s (mover n))) (sym (x.next n)) g))

    pub one_mover : (n : ℕ) → mover (since + n) ≡ mover since
    one_mover zero = ap mover (no_more since)
    one_mover (suc n) = ap mover (one_later since n) ∙ one_next (since + n) (omega arith) ∙ one_mover n

    pub no_end : (n : ℕ) → (names t).event (state (since + n)) (mover (since + n)) ≡ event.Ended → ⊥
    no_end n e = not_stuck (since + n) (omega arith) (subst (λ s. IsStuck (status_of s (mover (since + n)))) (sym (x.next (since + n))) ((goes_at (since + n)).ends e))
