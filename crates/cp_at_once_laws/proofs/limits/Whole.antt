-- The search at once on one of two systems that go in step leaves nothing out of the other: whatever the limit of steps.
use Rattle.std.proofs.Common.{◌≡◌, ◌≢◌, ◌⊎◌, inl, inr, ◌∙◌, ◌+◌, ◌≤◌, ℕ, zero, suc, true, false, List, None, Some, ap, sym, subst, arith}
use Rattle.cp_at_once_laws.proofs.Words.{Event, Local, OutcomeKind, StepLimit, Turn, Goes, System, turn_after, CanGo, GoInStep, AnyOf, EndsAfter, SetsOut, spot_after}
use Rattle.cp_at_once_laws.proofs.Words.{spot_by, is_call, after_steps, Spins, Commutes, HasQuietLeg, GoesThrough, IsPlain, some_same, distance, CallsAt, IsKernelCall}
use Rattle.cp_at_once_laws.proofs.Words.{Repeats, repeated_part, ComesOut, GoesRound, SearchesAtOnce}
use Rattle.cp_endless_laws.proofs.steps.Rounds.{cut_if_on}
use Rattle.cp_at_once_laws.proofs.limits.Complete.{end_known}
use Rattle.cp_at_once_laws.proofs.limits.InStep.{StandsAlike, stands_alike, Among, Begun, goes_through_too}
use Rattle.cp_at_once_laws.proofs.limits.Meeting.{GoesAlone, MovesOn, loops_there, alone_there, MarkThere, marks_there}
use Rattle.cp_at_once_laws.proofs.limits.Searching.{Followed, Taken, goes_through, same_mover, calls_in, calls_again}

-- what stands after some steps stood before
stood : {S : Type 0} (sys : System S) (k d : ℕ) (s : S) (p : ℕ) (x : S × ℕ) → spot_after sys (k + d) s p ≡ Some x → spot_after sys k s p ≡ None → ⊥
stood sys zero d s p x e none = cc
stood {S} sys (suc k) d s p x e none = by (turn_after sys (sys.step s p) p (sys.event s p)) (ap (λ i. spot_after sys i s p) (sym plus) ∙ e) none (λ r f g. stood sys k d (sys.step s p) r x f g)
  where
    plus : suc k + d ≡ suc (k + d)
    plus = omega arith

    by : (turn : Turn) → spot_by (sys.step s p) (spot_after sys (k + d) (sys.step s p)) turn ≡ Some x → spot_by (sys.step s p) (spot_after sys k (sys.step s p)) turn ≡ None →
        ((r : ℕ) → spot_after sys (k + d) (sys.step s p) r ≡ Some x → spot_after sys k (sys.step s p) r ≡ None → ⊥) → ⊥
    by (Goes r) e none on = on r e none
    by x e none on = cc

no_local_call : (e : Event) → e ≡ Local → IsKernelCall e → ⊥
no_local_call e is call = subst IsKernelCall is call

module _ {S T : Type 0} (a : System S) (b : System T) (R : S → T → Type 0) (go : GoInStep a b R) (free : (s : S) (t : T) → R s t → a.is_pending s ≡ false)
    (Qa : S → ℕ → Type 0) (AtOnce : T → ℕ → Type 0) (quick : (s : S) (t : T) (p : ℕ) → R s t → CanGo a s p → AtOnce t p → HasQuietLeg a Qa s p) (Met : S → Type 0) (law : Commutes a Met Qa) (plain : IsPlain a Met)
    (steps most : ℕ) (kept : T → Type 0) (known : OutcomeKind → Type 0) (alone spins : ℕ → Type 0) (shown : T → ℕ → Type 0) (search : SearchesAtOnce b steps most AtOnce kept known alone spins shown) where
  abbrev among : ℕ → T → Type 0
  among = Followed b steps most AtOnce kept known alone spins shown search

  abbrev taken : ℕ → T → ℕ → Type 0
  taken = Taken b steps most AtOnce kept known alone spins shown search

  abbrev through : GoesThrough b AtOnce among taken known
  through = goes_through b steps most AtOnce kept known alone spins shown search

  abbrev amonga : ℕ → S → Type 0
  amonga = Among a b R go free Qa AtOnce quick among taken known through

  abbrev beguna : ℕ → S → ℕ → Type 0
  beguna = Begun a b R go free Qa AtOnce quick among taken known through

  abbrev there : GoesThrough a (HasQuietLeg a Qa) amonga beguna known
  there = goes_through_too a b R go free Qa AtOnce quick among taken known through

  -- ---- ends

  pub ends_told : (limit : ℕ) (word : List ℕ) (kind : OutcomeKind) → kind ≢ StepLimit → EndsAfter a limit word kind → known kind
  ends_told limit word kind apart e = end_known a Met Qa law plain amonga beguna known there limit word kind apart e

  -- ---- what goes on for ever

  abbrev Moves : ℕ → Type 0
  Moves q = MovesOn a Met Qa law plain amonga beguna known there q

  module _ (q : ℕ) (m : Moves q) where
    begin : T
    begin = m.gone.0

    at_step : (n : ℕ) → StandsAlike a b R go free (after_steps a n m.state q) q (m.since + n) begin m.first
    unfolding begin
    at_step n = stands_alike a b R go free (m.since + n) m.begin m.gone.0 m.first (after_steps a n m.state q) q m.gone.1 m.gone.2 (m.stands n)

    -- so it was cut, and repeats
    repeats : GoesRound b steps alone spins begin m.first
    unfolding begin
    repeats = by m.gone.3.comes
      where
        some : spot_after b (steps + m.since) m.gone.0 m.first ≡ Some ((at_step steps).state, q)
        some = ap (λ i. spot_after b i m.gone.0 m.first) (omega arith) ∙ (at_step steps).stands

        by : ComesOut b steps known (among m.left) m.gone.0 m.first ⊎ GoesRound b steps alone spins m.gone.0 m.first → GoesRound b steps alone spins m.gone.0 m.first
        by (inl out) = absurd (out.uncut (cut_if_on b steps m.gone.0 m.first (stood b steps m.since m.gone.0 m.first ((at_step steps).state, q) some)))
        by (inr round) = round

    is_process : (r : Repeats b steps begin m.first) → r.process ≡ q
    is_process r = same_mover b steps begin m.first r q m.since (λ n. ((at_step n).state, (at_step n).stands))

    event_there : (n : ℕ) → a.event (after_steps a n m.state q) q ≡ b.event (at_step n).state q
    event_there n = go.event (after_steps a n m.state q) (at_step n).state q (at_step n).same (at_step n).can

    pub spins_told : Spins a m.state q → spins q
    spins_told h = subst spins (is_process repeats.repeats) (repeats.calls_none no_call)
      where
        no_call : AnyOf (CallsAt b) (repeated_part repeats.repeats) → ⊥
        no_call calls = at (calls_again b steps begin m.first repeats.repeats (CallsAt b) calls m.since)
          where
            at : (k : ℕ) × (m.since ≤ k) × ((t : T) × (r : ℕ) × (spot_after b k begin m.first ≡ Some (t, r)) × CallsAt b (record { state = t; mover = r })) → ⊥
            at x =
                let d = distance m.since x.0 x.1 in
                let same = some_same (x.2.0, x.2.1) ((at_step d.0).state, q) (sym x.2.2 ∙ ap (λ i. spot_after b i begin m.first) (sym d.1) ∙ (at_step d.0).stands) in
                no_local_call (b.event (at_step d.0).state q) (sym (event_there d.0) ∙ h d.0) (subst (λ (y : T × ℕ). IsKernelCall (b.event y.0 y.1)) same x.2.3)

    pub alone_told : GoesAlone a m.state q → alone q
    alone_told h = subst alone (is_process repeats.repeats) (repeats.calls (calls_in b steps begin m.first repeats.repeats (CallsAt b) often))
      where
        often : (n : ℕ) → (k : ℕ) × (n ≤ k) × ((t : T) × (r : ℕ) × (spot_after b k begin m.first ≡ Some (t, r)) × CallsAt b (record { state = t; mover = r }))
        often n =
            let c = h.calls n in
            let le = c.1 in
            (m.since + c.0, omega (arith, le), ((at_step c.0).state, q, (at_step c.0).stands, subst IsKernelCall (event_there c.0) c.2))

  pub loops_told : (limit : ℕ) (word : List ℕ) (x : S) (f n : ℕ) (s : S) (q : ℕ) → SetsOut a limit word x f → spot_after a n x f ≡ Some (s, q) → Spins a s q → spins q
  loops_told limit word x f n s q out at h = let m = loops_there a Met Qa law plain amonga beguna known there limit word x f n s q out at h in spins_told q m.0 m.1

  pub lonely_told : (limit : ℕ) (word : List ℕ) (x : S) (f n : ℕ) (s : S) (q : ℕ) → SetsOut a limit word x f → spot_after a n x f ≡ Some (s, q) → GoesAlone a s q → alone q
  lonely_told limit word x f n s q out at h = let m = alone_there a Met Qa law plain amonga beguna known there limit word x f n s q out at h in alone_told q m.0 m.1

  -- ---- calls with a mark

  -- a state of the one, and one of the other for which it stands, with the mark there, and told here
  pub record IsShown (Mark : S → ℕ → Type 0) : Type 0 where
    pub state : S
    pub other : T
    pub process : ℕ
    pub same : R state other
    pub can : CanGo a state process
    pub mark : Mark state process
    pub shows : shown other process

  pub marks_told : (Mark : S → ℕ → Type 0) → ((s : S) (p q : ℕ) → Met s → p ≢ q → a.is_ready s p ≡ true → a.is_ready s q ≡ true → Qa s p → Mark s q → Mark (a.step s p) q) →
      ((s : S) (p q : ℕ) → Met s → p ≢ q → a.is_ready s p ≡ true → a.is_ready s q ≡ true → Qa s p → (a.event s q ≡ Local) ⊎ (is_call (a.event s q) ≡ true) → Mark (a.step s q) p → Mark s p) →
      (limit : ℕ) (word : List ℕ) (x : S) (f n : ℕ) (s : S) (q : ℕ) → SetsOut a limit word x f → spot_after a n x f ≡ Some (s, q) → is_call (a.event s q) ≡ true → Mark s q → IsShown Mark
  marks_told Mark forth back limit word x f n s q out at call mark = by (marks_there a Met Qa law plain amonga beguna known there Mark forth back limit word x f n s q out at call mark)
    where
      by : MarkThere a Met Qa law plain amonga beguna known there Mark forth back → IsShown Mark
      by m =
          let y = stands_alike a b R go free m.after m.begin m.gone.0 m.first m.state m.process m.gone.1 m.gone.2 m.stands in
          record { state = m.state; other = y.state; process = m.process; same = y.same; can = y.can; mark = m.mark; shows = m.gone.3.tells m.after y.state m.process y.stands }
