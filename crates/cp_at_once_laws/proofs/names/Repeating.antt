-- A stretch that is seen to repeat on slots goes on for ever on names, and one process makes each of its steps.
use Rattle.std.proofs.Common.{◌≡◌, inl, inr, ◌∙◌, ◌+◌, ◌≤◌, ℕ, zero, suc, true, List, Option, None, Some, ap, sym, refl, subst, arith}
use Rattle.cp_at_once_laws.proofs.Words.{IsRead, Tree, plain, laid, Tables, IsAccepted, well_formed, Machine, by_the_book, State, IsWellFormed, Turn, Over, Due, Goes, System}
use Rattle.cp_at_once_laws.proofs.Words.{Choosing, opened, turn_after, CanGo, GoInStep, AnyOf, stretch_moments, silent_slots, Commutes, names, IsSomewhere, IsQuietStep}
use Rattle.cp_at_once_laws.proofs.Words.{IsPlain, some_same, distance, Repeats, repeated_part, CallsAt, IsKernelCall, from_there, rounds, happens_early}
use Rattle.cp_machine.specs.declared.event.Event as slot_event
use Rattle.cp_machine.specs.declared.event.Event.TheVariants as event
use Rattle.cp_endless_laws.specs.Rounds.{IsRound, SetsOut, chosen_spot, opening_spot, spot_after, spot_by}
use Rattle.cp_endless_laws.proofs.names.Going.{in_choices}
use Rattle.cp_endless_laws.proofs.names.Together.{ChoicesAlike, after_there, choosing_alike, turned}
use Rattle.cp_at_once_laws.specs.OnSlots.{RepeatsByOneLaw}
use Rattle.cp_at_once_laws.proofs.rules.StartsKnown.{StartsKnown}
use Rattle.cp_at_once_laws.specs.Whole.{GoesOnBy, IsAloneBy, SpinsBy}
use Rattle.cp_at_once_laws.proofs.limits.NothingLeft.{met_there}
use Rattle.cp_at_once_laws.proofs.limits.Searching.{calls_again}
use Rattle.cp_endless_laws.proofs.steps.Rounds.{any_moment}
use Rattle.cp_at_once_laws.proofs.names.Commuting.{plain as is_plain}
use Rattle.cp_at_once_laws.proofs.names.Laws.{kept, beside_law, all_commute}
use Rattle.cp_at_once_laws.proofs.names.OneMover.{Endless, one_mover, no_end}
use Rattle.cp_at_once_laws.proofs.names.QuietLegs.{OnSlots, in_step}
use Rattle.cp_at_once_laws.proofs.rules.Started.{starts_known}
use Rattle.cp_endless_laws.proofs.steps.Repeating.{none_of as each_none}
use Rattle.cp_endless_laws.proofs.names.WaitTogether.{plus as one_more_step, spot_there}

-- ---- spots of two systems that are alike

sets_out_there : {S T : Type 0} (a : System S) (b : System T) (steps : ℕ) (R : S → T → Type 0) (V : S → T → ℕ → Type 0) → ChoicesAlike a b steps R V → (word : List ℕ) (s : S) (p : ℕ) → SetsOut a steps word s p → (t : T) × SetsOut b steps word t p × V s t p
sets_out_there a b steps R V h word s p (inl x) = let y = spot_there V s p (opening_spot a) (opening_spot b) x.1 h.spots_first in (y.0, inl (x.0, y.1), y.2)
sets_out_there a b steps R V h word s p (inr x) =
    let l = after_there a b steps R V h x.0 (opened a steps) (Choosing x.2) (opened b steps) h.begins x.4 in
    let c = choosing_alike R x.2 l.0 l.2 in
    let y = spot_there V s p (chosen_spot a x.2 x.1) (chosen_spot b c.0 x.1) x.6 (h.spots_then x.2 c.0 x.1 c.2 x.5) in
    (y.0, inr (x.0, x.1, c.0, x.3, l.1 ∙ ap Some c.1, sym (h.same x.2 c.0 x.1 c.2) ∙ x.5, y.1), y.2)

-- ---- spots one after the other

a_spot : {A : Type 0} (o : Option A) → (o ≡ None → ⊥) → (x : A) × (o ≡ Some x)
a_spot None never = absurd (never refl)
a_spot (Some x) never = (x, refl)

one_more : {S : Type 0} (sys : System S) (b : S) (f n : ℕ) (x y : S × ℕ) → spot_after sys n b f ≡ Some x → spot_after sys (suc n) b f ≡ Some y → spot_after sys 1 x.0 x.1 ≡ Some y
one_more sys b f n x y here next = sym (from_there sys n 1 b f x.0 x.1 here) ∙ ap (λ i. spot_after sys i b f) (one_more_step n) ∙ next

-- where a step leads to
step_told : {S : Type 0} (sys : System S) (x y : S × ℕ) → spot_after sys 1 x.0 x.1 ≡ Some y → (turn_after sys (sys.step x.0 x.1) x.1 (sys.event x.0 x.1) ≡ Goes y.1) × (y.0 ≡ sys.step x.0 x.1)
step_told {S} sys x y e = go (turn_after sys (sys.step x.0 x.1) x.1 (sys.event x.0 x.1)) e
  where
    go : (turn : Turn) → spot_by (sys.step x.0 x.1) (spot_after sys 0 (sys.step x.0 x.1)) turn ≡ Some y → (turn ≡ Goes y.1) × (y.0 ≡ sys.step x.0 x.1)
    go (Over kind) e = absurd (cc)
    go Due e = absurd (cc)
    go (Goes r) e = let same = some_same (sys.step x.0 x.1, r) y e in (ap (λ (z : S × ℕ). Goes z.1) same, sym (ap (λ (z : S × ℕ). z.0) same))

-- ---- a stretch that repeats

module _ (t : Tree) (r : Tables) (read : IsRead t.program) (ok : IsAccepted t) (same : plain r ≡ laid t) (limit : ℕ) (word : List ℕ) (begin : Machine) (first : ℕ) (out : SetsOut (silent_slots r by_the_book) limit word begin first) (rep : Repeats (silent_slots r by_the_book) limit begin first) where
  abbrev b : System Machine
  b = silent_slots r by_the_book

  abbrev V : Machine → State → ℕ → Type 0
  V m s p = OnSlots t r s m × CanGo (names t) s p

  rules : StartsKnown t.program
  rules = starts_known t read ok

  wf : IsWellFormed t.program
  wf = well_formed t ok

  go : GoInStep (names t) (silent_slots r by_the_book) (OnSlots t r)
  go = in_step t r read ok rules same

  alike : ChoicesAlike (silent_slots r by_the_book) (names t) limit (λ m s. OnSlots t r s m) V
  alike = turned (names t) (silent_slots r by_the_book) limit (OnSlots t r) (λ s m p. OnSlots t r s m × CanGo (names t) s p) (in_choices (names t) (silent_slots r by_the_book) (OnSlots t r) go limit)

  round : IsRound (silent_slots r by_the_book) begin first
  round = record { before = limit; state = rep.state; process = rep.process; comes = rep.comes; after = rep.after; returns = rep.returns }

  spot : (n : ℕ) → (x : Machine × ℕ) × (spot_after (silent_slots r by_the_book) n begin first ≡ Some x)
  spot n = a_spot (spot_after (silent_slots r by_the_book) n begin first) (rounds (silent_slots r by_the_book) begin first round n)

  begun : (s : State) × SetsOut (names t) limit word s first × V begin s first
  begun = sets_out_there (silent_slots r by_the_book) (names t) limit (λ m s. OnSlots t r s m) V alike word begin first out

  abbrev There : ℕ → Type 0
  There n = (s : State) × V (spot n).0.0 s (spot n).0.1 × (spot_after (names t) n begun.0 first ≡ Some (s, (spot n).0.1))

  there_next : (n : ℕ) → There n → There (suc n)
  there_next n h =
      let y = spot_there V (spot (suc n)).0.0 (spot (suc n)).0.1 (spot_after (silent_slots r by_the_book) 1 (spot n).0.0 (spot n).0.1) (spot_after (names t) 1 h.0 (spot n).0.1) (one_more (silent_slots r by_the_book) begin first n (spot n).0 (spot (suc n)).0 (spot n).1 (spot (suc n)).1) (alike.spots_on (spot n).0.0 h.0 (spot n).0.1 h.1) in
      (y.0, y.2, ap (λ i. spot_after (names t) i begun.0 first) (sym (one_more_step n)) ∙ from_there (names t) n 1 begun.0 first h.0 (spot n).0.1 h.2 ∙ y.1)

  there : (n : ℕ) → There n
  there zero =
      let e : (let x : Machine × ℕ = (begin, first) in x) ≡ (spot 0).0 = some_same (begin, first) (spot 0).0 (spot 0).1 in
      (begun.0, subst (λ (z : Machine × ℕ). V z.0 begun.0 z.1) e begun.2, ap (λ (z : Machine × ℕ). Some (begun.0, z.1)) e)
  there (suc n) = there_next n (there n)

  state : ℕ → State
  state n = (there n).0

  mover : ℕ → ℕ
  mover n = (spot n).0.1

  stands : (n : ℕ) → spot_after (names t) n begun.0 first ≡ Some (state n, mover n)
  unfolding state mover
  stands n = (there n).2

  law : Commutes (names t) (IsSomewhere t) (IsQuietStep t)
  law = all_commute t wf rules

  plain_names : IsPlain (names t) (IsSomewhere t)
  plain_names = is_plain t wf (kept t wf rules) (beside_law t wf rules)

  at_name : (n : ℕ) → IsSomewhere t (state n) × ((names t).is_ready (state n) (mover n) ≡ true)
  at_name n = met_there (names t) (IsSomewhere t) (IsQuietStep t) law plain_names limit word begun.0 first n (state n) (mover n) begun.1 (stands n)

  told : (n : ℕ) → (turn_after (names t) ((names t).step (state n) (mover n)) (mover n) ((names t).event (state n) (mover n)) ≡ Goes (mover (suc n))) × (state (suc n) ≡ (names t).step (state n) (mover n))
  told n = step_told (names t) (state n, mover n) (state (suc n), mover (suc n)) (one_more (names t) begun.0 first n (state n, mover n) (state (suc n), mover (suc n)) (stands n) (stands (suc n)))

  endless : Endless t wf rules state mover
  endless = record { met = λ n. (at_name n).0; ready = λ n. (at_name n).1; next = λ n. (told n).1; turn = λ n. (told n).0 }

  -- the processes come again
  again : (n : ℕ) → limit ≤ n → mover (n + suc rep.after) ≡ mover n
  unfolding mover
  again n le = ap (λ (z : Machine × ℕ). z.1) (some_same (spot (n + suc rep.after)).0 (spot n).0 (sym (spot (n + suc rep.after)).1 ∙ back ∙ (spot n).1))
    where
      d : (k : ℕ) × (limit + k ≡ n)
      d = distance limit n le

      shifted : limit + (suc rep.after + d.0) ≡ n + suc rep.after
      shifted = (let e = d.1 in omega (arith, e))

      back : spot_after (silent_slots r by_the_book) (n + suc rep.after) begin first ≡ spot_after (silent_slots r by_the_book) n begin first
      back =
          ap (λ i. spot_after (silent_slots r by_the_book) i begin first) (sym shifted) ∙ from_there (silent_slots r by_the_book) limit (suc rep.after + d.0) begin first rep.state rep.process rep.comes
          ∙ from_there (silent_slots r by_the_book) (suc rep.after) d.0 rep.state rep.process rep.state rep.process rep.returns
          ∙ sym (from_there (silent_slots r by_the_book) limit d.0 begin first rep.state rep.process rep.comes) ∙ ap (λ i. spot_after (silent_slots r by_the_book) i begin first) d.1

  at_limit : mover limit ≡ rep.process
  unfolding mover
  at_limit = ap (λ (z : Machine × ℕ). z.1) (some_same (spot limit).0 (rep.state, rep.process) (sym (spot limit).1 ∙ rep.comes))

  one : (n : ℕ) → mover (limit + n) ≡ rep.process
  one n = one_mover t wf rules state mover endless limit rep.after again n ∙ at_limit

  pub goes_on : GoesOnBy (names t) limit word rep.process
  goes_on = record { begin = begun.0; first = first; sets_out = begun.1; since = limit; moves = λ n. (state (limit + n), stands (limit + n) ∙ ap (λ i. Some (state (limit + n), i)) (one n)) }

  event_there : (n : ℕ) → (names t).event (state n) (mover n) ≡ (silent_slots r by_the_book).event (spot n).0.0 (spot n).0.1
  unfolding state mover
  event_there n = go.event (there n).0 (spot n).0.0 (spot n).0.1 (there n).1.0 (there n).1.1

  pub is_alone : AnyOf (CallsAt (silent_slots r by_the_book)) (repeated_part rep) → IsAloneBy (names t) limit word rep.process
  unfolding goes_on
  is_alone calls = record { goes_on = goes_on; calls = often }
    where
      often : (n : ℕ) → (m : ℕ) × (n ≤ m) × IsKernelCall ((names t).event (state (limit + m)) rep.process)
      often n = at (calls_again (silent_slots r by_the_book) limit begin first rep (CallsAt (silent_slots r by_the_book)) calls (limit + n))
        where
          at : (k : ℕ) × (limit + n ≤ k) × ((m : Machine) × (q : ℕ) × (spot_after (silent_slots r by_the_book) k begin first ≡ Some (m, q)) × CallsAt (silent_slots r by_the_book) (record { state = m; mover = q })) → (m : ℕ) × (n ≤ m) × IsKernelCall ((names t).event (state (limit + m)) rep.process)
          at x =
              let less = x.1 in
              let d = distance limit x.0 (omega (arith, less)) in
              let e = d.1 in
              let here = some_same (x.2.0, x.2.1) (spot x.0).0 (sym x.2.2 ∙ (spot x.0).1) in
              let call : IsKernelCall ((names t).event (state x.0) (mover x.0)) = subst IsKernelCall (sym (event_there x.0)) (subst (λ (z : Machine × ℕ). IsKernelCall ((silent_slots r by_the_book).event z.0 z.1)) here x.2.3) in
              (d.0, omega (arith, less, e), subst (λ i. IsKernelCall ((names t).event (state (limit + d.0)) i)) (one d.0) (subst (λ i. IsKernelCall ((names t).event (state i) (mover i))) (sym d.1) call))

  -- a kernel call after the limit would be one in the part that repeats
  no_call : (AnyOf (CallsAt (silent_slots r by_the_book)) (repeated_part rep) → ⊥) → (n : ℕ) → IsKernelCall ((names t).event (state (limit + n)) (mover (limit + n))) → ⊥
  no_call none n call =
      let again_round : IsRound (silent_slots r by_the_book) rep.state rep.process = record { before = 0; state = rep.state; process = rep.process; comes = refl; after = rep.after; returns = rep.returns } in
      none (subst (λ i. AnyOf (CallsAt (silent_slots r by_the_book)) (stretch_moments (silent_slots r by_the_book) i rep.state rep.process)) (zero_less (suc rep.after))
      (happens_early (silent_slots r by_the_book) rep.state rep.process again_round (CallsAt (silent_slots r by_the_book)) (suc n)
      (any_moment (silent_slots r by_the_book) (CallsAt (silent_slots r by_the_book)) (suc n) rep.state rep.process n (spot (limit + n)).0.0 (spot (limit + n)).0.1 (omega arith) (sym (from_there (silent_slots r by_the_book) limit n begin first rep.state rep.process rep.comes) ∙ (spot (limit + n)).1)
      (subst IsKernelCall (event_there (limit + n)) call))))
    where
      zero_less : (n : ℕ) → 0 + n ≡ n
      zero_less n = omega arith

  pub does_spin : (AnyOf (CallsAt (silent_slots r by_the_book)) (repeated_part rep) → ⊥) → SpinsBy (names t) limit word rep.process
  unfolding goes_on
  does_spin none = record { goes_on = goes_on; local = local }
    where
      local : (n : ℕ) → (names t).event (state (limit + n)) rep.process ≡ event.Local
      local n = subst (λ i. (names t).event (state (limit + n)) i ≡ event.Local) (one n) (by ((names t).event (state (limit + n)) (mover (limit + n))) refl)
        where
          by : (e : slot_event.Event) → (names t).event (state (limit + n)) (mover (limit + n)) ≡ e → (names t).event (state (limit + n)) (mover (limit + n)) ≡ event.Local
          by event.Local e = e
          by (event.Kernel call) e = absurd (no_call none n (subst IsKernelCall (sym e) tt))
          by event.Ended e = absurd (no_end t wf rules state mover endless limit rep.after again n e)
          by (event.Fault x) e = absurd (over (ap (turn_after (names t) ((names t).step (state (limit + n)) (mover (limit + n))) (mover (limit + n))) (sym e) ∙ (told (limit + n)).0))
            where
              over : turn_after (names t) ((names t).step (state (limit + n)) (mover (limit + n))) (mover (limit + n)) (event.Fault x) ≡ Goes (mover (suc (limit + n))) → ⊥
              over bad = cc
          by event.OutputFull e = absurd (over (ap (turn_after (names t) ((names t).step (state (limit + n)) (mover (limit + n))) (mover (limit + n))) (sym e) ∙ (told (limit + n)).0))
            where
              over : turn_after (names t) ((names t).step (state (limit + n)) (mover (limit + n))) (mover (limit + n)) event.OutputFull ≡ Goes (mover (suc (limit + n))) → ⊥
              over bad = cc

pub repeats_by_one : RepeatsByOneLaw
repeats_by_one t r read ok same =
    record {
      alone = λ limit word q x. subst (IsAloneBy (names t) limit word) x.is (is_alone t r read ok same limit word x.begin x.first x.sets_out x.repeats x.calls);
      spins = λ limit word q x. subst (SpinsBy (names t) limit word) x.is (does_spin t r read ok same limit word x.begin x.first x.sets_out x.repeats (λ calls. each_none (CallsAt (silent_slots r by_the_book)) (repeated_part x.repeats) x.calls_none calls));
    }
