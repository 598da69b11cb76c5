-- What the code found is what a search at once tells: from the graph of the slot machine to its stretches.
use Rattle.std.proofs.Common.{◌≡◌, ◌∙◌, ◌⊎◌, inl, inr, ⊎_elim, ◌+◌, ◌<◌, ◌≤◌, ℕ, zero, suc, List, [], ◌∷◌, ◌++◌, Bool, true, false, if◌then◌else◌, length, Option, None, Some, refl, sym, ap, subst, arith}
use Rattle.std.specs.Prelude.{Contains, slice_get}
use Rattle.std.proofs.lemmas.Bool.{cases_lt}
use Rattle.cp_at_once.proofs.Words.{slice_get_within, Tables, by_the_book, Shown, Machine, is_pending, slots, silent_slots, without_output, slot_graph, Goal, Place}
use Rattle.cp_at_once.proofs.Words.{same_key, SlotArrival, has, End, HasLeg, FoundAtOnce}
use Rattle.cp_run.specs.declared.outcome.OutcomeKind.{OutcomeKind}
use Rattle.cp_run.specs.declared.outcome.OutcomeKind.TheVariants.{StepLimit}
use Rattle.cp_run.specs.declared.outcome.Turn.{Turn}
use Rattle.cp_run.specs.declared.outcome.Turn.TheVariants as turn
use Rattle.cp_run.specs.System.{System}
use Rattle.cp_run.specs.Run.{Node, Halted, Choosing, may, turn_at, turn_after, stretch}
use Rattle.cp_run.specs.Table.{each}
use Rattle.cp_endless_laws.specs.Moments.{Moment, AnyOf, moments_by, stretch_moments}
use Rattle.cp_endless_laws.specs.Repeats.{CallsAt, repeated_part}
use Rattle.cp_endless_laws.specs.Rounds.{IsCut, IsRound, spot_after, spot_by}
use Rattle.cp_endless_laws.specs.Settled.{IsIn}
use Rattle.cp_endless_laws.specs.Shown.{shown_at}
use Rattle.cp_endless_laws.proofs.steps.Rounds.{happens_early, some_none}
use Rattle.cp_ends.specs.Arrivals.{arrival_by, first_arrival, goal_of, has_call, stretch_arrival}
use Rattle.cp_ends.specs.Graph as graph
use Rattle.cp_ends.specs.declared.end.End.TheVariants.{Over, Alone, Spins}
use Rattle.cp_ends.proofs.Arriving.{next_free}
use Rattle.cp_ends.proofs.Stretches.{moments_there}
use Rattle.cp_ends.proofs.words.Returns.{ComesAgain, ComesToNode, alone_or_spins, cut_there, edge_comes, has_calls, has_no_calls}
use Rattle.cp_ends.proofs.words.Translated.{any_value}
use Rattle.cp_ends.proofs.words.Edges.{some_same}
use Rattle.cp_at_once_laws.specs.OnSlots.{IsQuietOnSlots, Tells}
use Rattle.cp_at_once_laws.specs.Search.{IsFollowed, IsTaken, SearchesAtOnce}
use Rattle.cp_at_once_laws.specs.Through.{IsOpeningKnown}
use Rattle.cp_at_once.specs.Following.{Follows, IsDone, IsGone, IsGoneThrough, IsKnownGoal, knows_end, knows_value}
use Rattle.cp_at_once.proofs.Following.{States}
use Rattle.cp_endless_laws.proofs.steps.Repeating.{none_of as each_none}
use Rattle.cp_endless_laws.proofs.possible.Walks.{each_append}
use Rattle.cp_endless_laws.proofs.Basics.{distance}
use Rattle.cp_ends.proofs.named.Keys.{key_same, key_self}

true_false : true ≡ false → ⊥
true_false e = cc

-- ---- stretches of any system

module _ {S : Type 0} (sys : System S) where
  -- who stood still stands still
  still : (n m : ℕ) (s : S) (p : ℕ) → spot_after sys n s p ≡ None → spot_after sys (n + m) s p ≡ None
  still zero m s p e = absurd (some_none (s, p) e)
  still (suc n) m s p e = ap (λ i. spot_after sys i s p) (plus n) ∙ by (turn_after sys (sys.step s p) p (sys.event s p)) e (λ r d. still n m (sys.step s p) r d)
    where
      plus : (n : ℕ) → suc n + m ≡ suc (n + m)
      plus n = omega arith

      by : (t : Turn) → spot_by (sys.step s p) (spot_after sys n (sys.step s p)) t ≡ None → ((r : ℕ) → spot_after sys n (sys.step s p) r ≡ None → spot_after sys (n + m) (sys.step s p) r ≡ None) → spot_by (sys.step s p) (spot_after sys (n + m) (sys.step s p)) t ≡ None
      by (turn.Goes r) e on = on r e
      by _ e on = refl

  any_moment : (P : Moment S → Type 0) (n : ℕ) (s : S) (p i : ℕ) (t : S) (q : ℕ) → i < n → spot_after sys i s p ≡ Some (t, q) → P (record { state = t; mover = q }) → AnyOf P (stretch_moments sys n s p)
  unfolding stretch_moments
  any_moment P zero s p i t q less is h = absurd (omega (arith, less))
  any_moment P (suc n) s p zero t q less is h = inl (subst (λ (x : S × ℕ). P (record { state = x.0; mover = x.1 })) (sym (some_same (s, p) (t, q) is)) h)
  any_moment P (suc n) s p (suc i) t q less is h = inr (by (turn_after sys (sys.step s p) p (sys.event s p)) is (λ r k. any_moment P n (sys.step s p) r i t q (omega (arith, less)) k h))
    where
      by : (u : Turn) → spot_by (sys.step s p) (spot_after sys i (sys.step s p)) u ≡ Some (t, q) → ((r : ℕ) → spot_after sys i (sys.step s p) r ≡ Some (t, q) → AnyOf P (stretch_moments sys n (sys.step s p) r)) → AnyOf P (moments_by (stretch_moments sys n (sys.step s p)) u)
      by (turn.Over kind) is on = absurd (cc)
      by turn.Due is on = absurd (cc)
      by (turn.Goes r) is on = on r is

  -- a stretch that stands somewhere after its limit of steps is cut
  cut_if_there : (steps n : ℕ) (s : S) (p : ℕ) (t : S) (q : ℕ) → steps ≤ n → spot_after sys n s p ≡ Some (t, q) → IsCut (stretch sys steps s p)
  cut_if_there steps n s p t q le is = by (spot_after sys steps s p) refl
    where
      by : (o : Option (S × ℕ)) → spot_after sys steps s p ≡ o → IsCut (stretch sys steps s p)
      by None e = let d = distance steps n le in absurd (some_none (t, q) (sym is ∙ ap (λ i. spot_after sys i s p) (sym d.1) ∙ still steps d.0 s p e))
      by (Some x) e = subst IsCut (sym (cut_there sys steps s p x.0 x.1 e)) tt

-- ---- what the code found

module _ (r : Tables) (steps : ℕ) (found : FoundAtOnce) (states : States) (uncut : knows_end found (Over StepLimit) ≡ false) where
  abbrev sys : System Machine
  sys = slots r by_the_book

  abbrev quiet : System Machine
  quiet = silent_slots r by_the_book

  abbrev Leg : Machine → ℕ → Type 0
  Leg = HasLeg r by_the_book

  abbrev pub is_kept : Machine → Type 0
  is_kept m = has same_key states m ≡ true

  abbrev pub known : OutcomeKind → Type 0
  known k = knows_end found (Over k) ≡ true

  abbrev pub alone : ℕ → Type 0
  alone q = knows_end found (Alone q) ≡ true

  abbrev pub spins : ℕ → Type 0
  spins q = knows_end found (Spins q) ≡ true

  abbrev pub shown : Machine → ℕ → Type 0
  shown = Tells r (λ v. knows_value found v ≡ true)

  not_cut : (node : Node Machine) (followed : Machine → Type 0) → IsKnownGoal found followed (goal_of node) → IsCut node → ⊥
  not_cut (Halted StepLimit s) followed k cut = true_false (sym k ∙ uncut)
  not_cut _ followed k cut = cut

  goes_in : (node : Node Machine) (followed : Machine → Type 0) → IsKnownGoal found followed (goal_of node) → IsIn followed known node
  goes_in (Halted kind s) followed k = k
  goes_in (Choosing s) followed k = k

  module _ (followed : Machine → Type 0) where
    abbrev Taken : Machine → ℕ → Type 0
    Taken s p = IsTaken quiet steps known alone spins shown followed s p

    -- a stretch that does not come again
    once : (s : Machine) (p : ℕ) → IsGone found followed (stretch_arrival sys without_output same_key steps s p) → ComesToNode sys without_output same_key steps (s, turn.Goes p) → Taken s p
    once s p gone x =
        record {
          comes = inl (record { uncut = not_cut (stretch quiet steps s p) followed goal; to = goes_in (stretch quiet steps s p) followed goal });
          tells = λ n t q is v c. gone.shown v (subst (λ l. Contains l v) (sym x.shown) (any_value sys without_output same_key steps key_same key_self v (stretch_moments quiet steps s p) (any_moment quiet (λ m. Contains (shown_at sys m) v) steps s p n t q (early n t q is) is c)));
        }
      where
        goal : IsKnownGoal found followed (goal_of (stretch quiet steps s p))
        goal = subst (IsKnownGoal found followed) x.goal gone.goal

        early : (n : ℕ) (t : Machine) (q : ℕ) → spot_after quiet n s p ≡ Some (t, q) → n < steps
        early n t q is = ⊎_elim (λ (lt : n < steps). lt) (λ (le : steps ≤ n). absurd (not_cut (stretch quiet steps s p) followed goal (cut_if_there quiet steps n s p t q le is))) (cases_lt n steps)

    -- one that comes again
    again : (s : Machine) (p : ℕ) → IsGone found followed (stretch_arrival sys without_output same_key steps s p) → (x : ComesAgain sys without_output same_key steps (s, turn.Goes p)) → Taken x.begin x.first
    again s p gone x =
        record {
          comes = inr (record { repeats = x.repeats; calls = λ a. calls (has_call quiet (repeated_part x.repeats)) refl a; calls_none = λ none. none_called (has_call quiet (repeated_part x.repeats)) refl none });
          tells = λ n t q is v c. gone.shown v (subst (λ l. Contains l v) (sym x.shown) (told n t q is v c));
        }
      where
        goal : (b : Bool) → has_call quiet (repeated_part x.repeats) ≡ b → knows_end found (alone_or_spins b x.repeats.process) ≡ true
        goal b e = subst (λ c. knows_end found (alone_or_spins c x.repeats.process) ≡ true) e (subst (IsKnownGoal found followed) x.goal gone.goal)

        calls : (b : Bool) → has_call quiet (repeated_part x.repeats) ≡ b → AnyOf (CallsAt quiet) (repeated_part x.repeats) → alone x.repeats.process
        calls true e a = goal true e
        calls false e a = absurd (each_none (CallsAt quiet) (repeated_part x.repeats) (has_no_calls quiet (repeated_part x.repeats) e) a)

        none_called : (b : Bool) → has_call quiet (repeated_part x.repeats) ≡ b → (AnyOf (CallsAt quiet) (repeated_part x.repeats) → ⊥) → spins x.repeats.process
        none_called true e none = absurd (none (has_calls quiet (repeated_part x.repeats) e))
        none_called false e none = goal false e

        round : IsRound quiet x.begin x.first
        round = record { before = steps; state = x.repeats.state; process = x.repeats.process; comes = x.repeats.comes; after = x.repeats.after; returns = x.repeats.returns }

        same : (◌≡◌ {A = Machine × ℕ}) (x.begin, x.first) (s, p)
        same = some_same (x.begin, x.first) (s, p) (sym x.spot)

        told : (n : ℕ) (t : Machine) (q : ℕ) → spot_after quiet n x.begin x.first ≡ Some (t, q) → (v : Shown) → Contains (shown_at sys (record { state = t; mover = q })) v → Contains (each (shown_at sys) (stretch_moments quiet steps s p) ++ each (shown_at sys) (repeated_part x.repeats)) v
        told n t q is v c =
            let P : Moment Machine → Type 0 = λ (m : Moment Machine). Contains (shown_at sys m) v in
            let here = any_moment quiet P (suc n) x.begin x.first n t q (omega arith) is c in
            let soon = happens_early quiet x.begin x.first round P (suc n) here in
            let whole = any_value sys without_output same_key steps key_same key_self v (stretch_moments quiet (steps + suc x.repeats.after) x.begin x.first) soon in
            subst (λ (y : Machine × ℕ). Contains (each (shown_at sys) (stretch_moments quiet steps y.0 y.1) ++ each (shown_at sys) (repeated_part x.repeats)) v) same
            (subst (λ l. Contains l v) (ap (each (shown_at sys)) (moments_there quiet steps (suc x.repeats.after) x.begin x.first x.repeats.state x.repeats.process x.repeats.comes) ∙ each_append (shown_at sys) (stretch_moments quiet steps x.begin x.first) (repeated_part x.repeats)) whole)

    pub taken : (s : Machine) (p : ℕ) → IsGone found followed (stretch_arrival sys without_output same_key steps s p) → Taken s p
    taken s p gone = by (edge_comes sys without_output same_key steps key_same key_self (s, turn.Goes p))
      where
        by : ComesToNode sys without_output same_key steps (s, turn.Goes p) ⊎ ComesAgain sys without_output same_key steps (s, turn.Goes p) → Taken s p
        by (inl x) = once s p gone x
        by (inr x) = subst (λ (y : Machine × ℕ). Taken y.0 y.1) (some_same (x.begin, x.first) (s, p) (sym x.spot)) (again s p gone x)

  -- ---- due choices

  may_there : (s : Machine) (p : ℕ) → may sys s p ≡ true → may quiet s p ≡ true
  unfolding may
  may_there s p h = h

  may_back : (s : Machine) (p : ℕ) → may quiet s p ≡ true → may sys s p ≡ true
  unfolding may
  may_back s p h = h

  goal_on : (P Q : Machine → Type 0) → ((s : Machine) → P s → Q s) → (o : Goal Machine End) → IsKnownGoal found P o → IsKnownGoal found Q o
  goal_on P Q on (Place s) k = on s k
  goal_on P Q on (graph.End e) k = k

  gone_on : (P Q : Machine → Type 0) → ((s : Machine) → P s → Q s) → (x : SlotArrival) → IsGone found P x → IsGone found Q x
  gone_on P Q on x k = record { goal = goal_on P Q on x.goal k.goal; shown = k.shown }

  abbrev Followed : ℕ → Machine → Type 0
  Followed c = IsFollowed quiet steps (IsQuietOnSlots r) is_kept known alone spins shown c

  abbrev Here : ℕ → Machine → Type 0
  Here c = Follows (slot_graph r by_the_book steps) Leg found states c

  -- where nobody is to be let in, a choice begins its stretch
  begins : (P : Machine → Type 0) (s : Machine) (p : ℕ) → is_pending s ≡ false → IsGone found P ((slot_graph r by_the_book steps).on s p) → IsGone found P (stretch_arrival sys without_output same_key steps s p)
  begins P s p free k = subst (IsGone found P) (next_free sys without_output same_key steps s p free) k

  follows_there : (c : ℕ) (s : Machine) → Here c s → Followed c s
  follows_there zero s k = k
  follows_there (suc c) s (inl k) = inl k
  follows_there (suc c) s (inr k) =
      inr (
        k.0,
        may_there s k.0 k.1,
        record { after = k.2.after; leg = k.2.leg; phases = k.2.phases },
        taken (Followed c) s k.0 (begins (Followed c) s k.0 k.2.free (gone_on (Here c) (Followed c) (follows_there c) ((slot_graph r by_the_book steps).on s k.0) k.3)),
      )

  -- the kept state that is this one
  kept_at : (xs : States) (m : Machine) → has same_key xs m ≡ true → (i : ℕ) × (x : Machine × List ℕ) × (slice_get xs i ≡ Some x) × (x.0 ≡ m)
  kept_at [] m h = absurd (cc)
  kept_at (x ∷ xs) m h = by (same_key x.0 m) refl h (λ k. kept_at xs m k)
    where
      by : (b : Bool) → same_key x.0 m ≡ b → (if b then true else has same_key xs m) ≡ true → (has same_key xs m ≡ true → (i : ℕ) × (y : Machine × List ℕ) × (slice_get xs i ≡ Some y) × (y.0 ≡ m)) → (i : ℕ) × (y : Machine × List ℕ) × (slice_get (x ∷ xs) i ≡ Some y) × (y.0 ≡ m)
      by true e h on = (0, x, refl, key_same x.0 m e)
      by false e h on = let k = on h in (suc k.0, k.1, k.2, k.3)

  module _ (t : IsGoneThrough (slot_graph r by_the_book steps) Leg 8 (length states) found states) (free : (i : ℕ) (x : Machine × List ℕ) → slice_get states i ≡ Some x → is_pending x.0 ≡ false) where
    on : (s : Machine) (p : ℕ) → is_kept s → may quiet s p ≡ true → IsTaken quiet steps known alone spins shown (Followed 8) s p
    on s p kept m =
        let k = kept_at states s kept in
        let done : IsDone (slot_graph r by_the_book steps) Leg 8 found states k.1.0 = t.on k.0 k.1 (slice_get_within states k.0 k.1 k.2) k.2 in
        let at : IsDone (slot_graph r by_the_book steps) Leg 8 found states s = subst (IsDone (slot_graph r by_the_book steps) Leg 8 found states) k.3 done in
        let nobody : is_pending s ≡ false = ap is_pending (sym k.3) ∙ free k.0 k.1 k.2 in
        taken (Followed 8) s p (begins (Followed 8) s p nobody (gone_on (Here 8) (Followed 8) (follows_there 8) ((slot_graph r by_the_book steps).on s p) (at p (may_back s p m))))

    start_by : (b : Turn) → IsGone found (Here 8) (arrival_by quiet.start (stretch_arrival sys without_output same_key steps quiet.start) b) →
        IsOpeningKnown (Followed 8) (IsTaken quiet steps known alone spins shown (Followed 8)) known quiet.start b
    start_by (turn.Over kind) k = k.goal
    start_by turn.Due k = follows_there 8 quiet.start k.goal
    start_by (turn.Goes q) k = taken (Followed 8) quiet.start q (gone_on (Here 8) (Followed 8) (follows_there 8) (stretch_arrival sys without_output same_key steps quiet.start q) k)

    start_is : IsGone found (Here 8) (slot_graph r by_the_book steps).start → IsGone found (Here 8) (arrival_by quiet.start (stretch_arrival sys without_output same_key steps quiet.start) (turn_at quiet quiet.start false 0))
    unfolding first_arrival
    start_is k = k

    pub searches : SearchesAtOnce quiet steps 8 (IsQuietOnSlots r) is_kept known alone spins shown
    searches = record { start = start_by (turn_at quiet quiet.start false 0) (start_is t.start); on = on }
