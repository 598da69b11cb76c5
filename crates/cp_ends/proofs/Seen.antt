-- What is seen of stretches that are made leg by leg.
use Rattle.std.proofs.Common.{◌≡◌, ◌∙◌, ◌+◌, ◌++◌, ℕ, suc, Bool, true, false, List, [], ◌∷◌, ap, append-nil, append_assoc, arith, if◌then◌else◌, refl, subst, sym}
use Rattle.cp_slots.specs.Fits.{IsSound}
use Rattle.cp_slots.specs.Tables.{Tables}
use Rattle.cp_machine.specs.declared.discipline.Discipline.{Discipline}
use Rattle.cp_machine.specs.declared.event.Event.TheVariants.{Local}
use Rattle.cp_machine.specs.declared.shown.Shown.{Shown}
use Rattle.cp_machine.specs.Statements.{Stepped}
use Rattle.cp_machine.specs.Step.{step_at}
use Rattle.cp_machine.specs.System.{Machine, is_pending}
use Rattle.cp_run.specs.declared.outcome.Halt.{Halt}
use Rattle.cp_run.specs.declared.outcome.Halt.TheVariants.{Choice, Ended}
use Rattle.cp_run.specs.declared.outcome.OutcomeKind.{OutcomeKind}
use Rattle.cp_run.specs.declared.outcome.Turn.{Turn}
use Rattle.cp_run.specs.declared.outcome.Turn.TheVariants.{Due, Goes}
use Rattle.cp_run.specs.Run.{may, settled_turn, turn_after}
use Rattle.cp_run.specs.Slots.{slots}
use Rattle.cp_run.proofs.Choosing.{may_be_ready}
use Rattle.cp_run.specs.System.{System}
use Rattle.cp_effect_laws.specs.Effects.{IsToStep, Leg}
use Rattle.cp_effect_laws.specs.Effects.Leg.{ends, goes_on}
use Rattle.cp_effect_laws.proofs.Legs.{next_step}
use Rattle.cp_effect_laws.proofs.Walked.{local_turn}
use Rattle.cp_parts.specs.declared.placing.PlaceTable.{PlaceTable}
use Rattle.cp_parts.specs.declared.store.PartStore.{PartStore}
use Rattle.cp_stretches.specs.Cached.{StandsFor}
use Rattle.cp_stretches.proofs.Going.{gone_on, leads}
use Rattle.cp_stretches.specs.Stretching.{Begins, LeadsTo, MakesLeg, MayGo, StandsAt, first_of, turn_of}
use Rattle.cp_endless_laws.specs.Moments.{Moment, moments, moments_by, stretch_moments}
use Rattle.cp_endless_laws.specs.Silent.{silent_slots, without_output}
use Rattle.cp_ends.specs.Legs.{IsAlike, moment_at}
use Rattle.cp_ends.proofs.LocalInside.{local_alike}
use Rattle.cp_ends.specs.Moves.{IsOneLeg}

-- a list of one moment
abbrev pub one : Machine → (mover : ℕ) → List (Moment Machine)
one m p = record { state = m; mover = p } ∷ []

first : (left : ℕ) → 1 + left ≡ suc left
first left = omega (arith)

one_more : (k left : ℕ) → suc k + left ≡ suc (k + left)
one_more k left = omega (arith)

module _ (r : Tables) (discipline : Discipline) where
  abbrev quiet : System Machine
  quiet = silent_slots r discipline

  -- the moments after a turn before which so many steps are left
  abbrev pub moments_on : (left : ℕ) → Machine → Turn → List (Moment Machine)
  moments_on left m turn = moments_by (stretch_moments quiet left m) turn

  -- where nothing is pending the process goes on there
  pub free_first : (m : Machine) (p : ℕ) → is_pending m ≡ false → first_of quiet m p ≡ (m, Goes p)
  free_first m p free = ap (λ b. if b then (quiet.admit m p, settled_turn quiet (quiet.admit m p) true p) else (m, Goes p)) free

  -- a choice begins with what comes first
  pub begun_moments : (steps : ℕ) (m : Machine) (p : ℕ) → moments quiet steps m p ≡ moments_on steps (first_of quiet m p).0 (first_of quiet m p).1
  unfolding moments
  begun_moments steps m p = by (quiet.is_pending m)
    where
      begun_if : Bool → Machine × Turn
      begun_if b = if b then (quiet.admit m p, settled_turn quiet (quiet.admit m p) true p) else (m, Goes p)

      by : (b : Bool) → (if b then moments_by (stretch_moments quiet steps (quiet.admit m p)) (settled_turn quiet (quiet.admit m p) true p) else stretch_moments quiet steps m p) ≡ moments_on steps (begun_if b).0 (begun_if b).1
      by true = refl
      by false = refl

  -- where a choice leads that is one leg
  pub one_leg_leads : (s u : PartStore) (t v : PlaceTable) (steps : ℕ) (m : Machine) (p : ℕ) (before shown : List Shown) (row new : List ℕ) → IsSound r → StandsFor r discipline s t m row → may (slots r discipline) m p ≡ true → IsOneLeg r discipline u v steps m p before new shown → LeadsTo r discipline u v steps m p before Choice new shown
  one_leg_leads s u t v steps m p before shown row new sound stands is it =
      let go : MayGo r discipline s t m row p = record { machine = stands; ready = may_be_ready (slots r discipline) m p it.free is; free = it.free } in
      let begins : Begins r discipline s t m p (Goes p) row = record { after = m; stands = go; begun = free_first m p it.free } in
      leads r discipline s u t v m p steps (Goes p) it.rest row new before shown Choice begins (gone_on r discipline s u t v m row new p steps it.rest before shown Due sound go it.made)

  module _ {W : Type 0} (sees : W → List Machine → List (Moment Machine) → Type 0)
      (alike : (w : W) (due : List Machine) (ms : List (Moment Machine)) (m n : Machine) (p : ℕ) → IsAlike m n → sees w due (ms ++ one m p) → sees w due ((ms ++ one m p) ++ one n p)) where
    -- of a leg all is seen that is seen of its first moment
    pub leg_seen : (w : W) (due : List Machine) (m : Machine) (p k : ℕ) (last : Stepped) → Leg r m p k last → IsToStep r m p → (ms : List (Moment Machine)) → sees w due (ms ++ one m p) →
        (ns : List (Moment Machine)) × sees w due (ms ++ ns) × ((left : ℕ) → stretch_moments quiet (k + left) m p ≡ ns ++ moments_on left (without_output last.machine) (turn_after quiet (without_output last.machine) p last.event))
    unfolding stretch_moments
    leg_seen w due _ _ _ _ (ends m p is) may ms seen = (one m p, seen, λ left. ap (λ c. stretch_moments quiet c m p) (first left))
    leg_seen w due _ _ _ _ (goes_on m p k last is rest) may ms seen =
        let after = without_output (step_at r m p).machine in
        let next = next_step r m p may is in
        let more = leg_seen w due after p k last rest next (ms ++ one m p) (alike w due ms m after p (local_alike r m p may is) seen) in
        let here : Moment Machine = record { state = m; mover = p } in (
          here ∷ more.0,
          subst (sees w due) (append_assoc ms (one m p) more.0) more.1,
          λ left.
              ap (λ c. stretch_moments quiet c m p) (one_more k left)
              ∙ ap (λ e. here ∷ moments_on (k + left) after (turn_after quiet after p e)) is
              ∙ ap (λ turn. here ∷ moments_on (k + left) after turn) (local_turn r discipline after p next)
              ∙ ap (λ l. here ∷ l) (more.2 left),
        )

    -- a choice that is one leg, after which a choice is due
    pub one_leg_seen : (s : PartStore) (t : PlaceTable) (steps : ℕ) (m : Machine) (p : ℕ) (before shown : List Shown) (row : List ℕ) (w : W) (due : List Machine) → IsToStep r m p → IsOneLeg r discipline s t steps m p before row shown → sees w due (one m p) → sees w due (moments quiet steps m p)
    one_leg_seen s t steps m p before shown row w due may it seen =
        let made = it.made in
        let after = without_output made.last.machine in
        let leg = leg_seen w due m p made.count made.last made.leg may [] seen in
        subst (sees w due)
        (sym
        (begun_moments steps m p
        ∙ ap (λ (x : Machine × Turn). moments_on steps x.0 x.1) (free_first m p it.free)
        ∙ ap (λ n. stretch_moments quiet n m p) (sym made.long)
        ∙ leg.2 it.rest
        ∙ ap (λ k. leg.0 ++ moments_on it.rest after k) (sym made.next)
        ∙ append-nil leg.0))
        leg.1

    -- ---- leg after leg

    module _ (t : PlaceTable) (steps : ℕ) (m : Machine) (begin : Turn) (due : List Machine) where
      -- how far it is seen, with the first moment of the leg that comes next
      pub record SeenTo (s : PartStore) (w : W) (turn : Turn) (left : ℕ) (row : List ℕ) : Type 0 where
        pub after : Machine
        pub stands : StandsAt r discipline s t after turn row
        pub ms : List (Moment Machine)
        pub seen : sees w due (ms ++ moment_at after turn)
        pub all : moments_on steps m begin ≡ ms ++ moments_on left after turn

      pub seen_nowhere : (s : PartStore) (w : W) (row : List ℕ) → StandsAt r discipline s t m begin row → sees w due (moment_at m begin) → SeenTo s w begin steps row
      seen_nowhere s w row stands seen = record { after = m; stands = stands; ms = []; seen = seen; all = refl }

      pub to_go : (s : PartStore) (w : W) (turn : Turn) (left : ℕ) (row : List ℕ) (q : ℕ) → (x : SeenTo s w turn left row) → turn ≡ Goes q → MayGo r discipline s t x.after row q
      to_go s w turn left row q x is = subst (λ u. StandsAt r discipline s t x.after u row) is x.stands

      pub seen_further : (s u : PartStore) (w new : W) (turn next : Turn) (left rest : ℕ) (row row_after : List ℕ) (q : ℕ) (before shown : List Shown) → IsSound r → (x : SeenTo s w turn left row) → turn ≡ Goes q →
          (made : MakesLeg r discipline u t x.after q left before next rest row_after shown) →
          ((ms : List (Moment Machine)) → sees w due ms → sees new due (ms ++ moment_at (without_output made.last.machine) next)) → SeenTo u new next rest row_after
      seen_further s u w new turn next left rest row row_after q before shown sound x is made on =
          let may = to_go s w turn left row q x is in
          let after : Machine = without_output made.last.machine in
          let here : sees w due (x.ms ++ one x.after q) = subst (λ k. sees w due (x.ms ++ moment_at x.after k)) is x.seen in
          let leg = leg_seen w due x.after q made.count made.last made.leg (record { sound = sound; kept = may.machine.kept; ready = may.ready; free = may.free }) x.ms here in
          record {
            after = after;
            stands = made.stands;
            ms = x.ms ++ leg.0;
            seen = on (x.ms ++ leg.0) leg.1;
            all =
                x.all
                ∙ ap (λ k. x.ms ++ moments_on left x.after k) is
                ∙ ap (λ n. x.ms ++ stretch_moments quiet n x.after q) (sym made.long)
                ∙ ap (λ l. x.ms ++ l) (leg.2 rest)
                ∙ ap (λ k. x.ms ++ (leg.0 ++ moments_on rest after k)) (sym made.next)
                ∙ sym (append_assoc x.ms leg.0 (moments_on rest after next));
          }

      -- where it halts all is seen
      pub seen_whole : (s : PartStore) (w : W) (turn : Turn) (left : ℕ) (row : List ℕ) (halt : Halt OutcomeKind) → turn ≡ turn_of halt → SeenTo s w turn left row → sees w due (moments_on steps m begin)
      seen_whole s w turn left row halt is x = subst (sees w due) (sym (x.all ∙ ap (λ k. x.ms ++ moments_on left x.after k) is ∙ no_more halt)) (subst (λ k. sees w due (x.ms ++ moment_at x.after k)) is x.seen)
        where
          no_more : (h : Halt OutcomeKind) → (x.ms ++ moments_on left x.after (turn_of h)) ≡ (x.ms ++ moment_at x.after (turn_of h))
          no_more Choice = refl
          no_more (Ended kind) = refl
