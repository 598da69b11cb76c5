-- Stretches, leg by leg.
use Rattle.std.proofs.Common.{◌≡◌, ◌∙◌, ◌+◌, ◌++◌, ℕ, Bool, true, false, List, [], ap, if◌then◌else◌, refl, subst, sym}
use Rattle.std.specs.Prelude.{option_to_list}
use Rattle.cp_slots.specs.Fits.{IsSound}
use Rattle.cp_slots.specs.Tables.{Tables}
use Rattle.cp_machine.specs.declared.discipline.Discipline.{Discipline}
use Rattle.cp_machine.specs.declared.shown.Shown.{Shown}
use Rattle.cp_machine.specs.Machine.{Machine, is_pending, is_ready}
use Rattle.cp_machine.specs.Statements.{Stepped}
use Rattle.cp_machine.specs.Step.{is_local}
use Rattle.cp_run.specs.declared.outcome.Halt.{Halt}
use Rattle.cp_run.specs.declared.outcome.Halt.TheVariants.{Choice, Ended}
use Rattle.cp_run.specs.declared.outcome.OutcomeKind.{OutcomeKind}
use Rattle.cp_run.specs.declared.outcome.Turn.{Turn}
use Rattle.cp_run.specs.declared.outcome.Turn.TheVariants.{Due, Goes, Over}
use Rattle.cp_run.specs.Code.{IfGoes}
use Rattle.cp_run.specs.Fold.{fold_chosen, fold_stretch, fold_turn, walked, walked_chosen}
use Rattle.cp_run.specs.Run.{settled_turn, turn_after}
use Rattle.cp_run.specs.Silent.{silent_slots, without_output}
use Rattle.cp_run.specs.Slots.{slots}
use Rattle.cp_run.specs.System.{System}
use Rattle.cp_run.proofs.Walking.{walked_up}
use Rattle.cp_effect_laws.specs.Effects.{IsToStep}
use Rattle.cp_effect_laws.proofs.Walked.{leg_walked}
use Rattle.cp_parts.specs.declared.placing.PlaceTable.{PlaceTable}
use Rattle.cp_parts.specs.declared.store.PartStore.{PartStore}
use Rattle.cp_effects.specs.declared.table.EffectTable.{EffectTable}
use Rattle.cp_effects.specs.declared.table.KnownLeg.{KnownLeg}
use Rattle.cp_effects.specs.Changes.{written}
use Rattle.cp_effects.specs.Known.{writes_of}
use Rattle.cp_effects.specs.Remembered.{GoesAs}
use Rattle.cp_stretches.specs.Cached.{StandsFor}
use Rattle.cp_stretches.specs.Stretching.{Begins, GoesOn, LeadsTo, MakesLeg, MayGo, StandsAt, first_of, shower, turn_of}
use Rattle.cp_stretches.specs.Telling.{IsTold}
use Rattle.cp_stretches.proofs.Ending.{leg_kept, leg_ruled, leg_shown, leg_tells, other_row, quiet_kept}
use Rattle.cp_stretches.proofs.Turns.{free_after, ready_after, silent_after}

-- ---- one leg

module _ (r : Tables) (discipline : Discipline) (s : PartStore) (t : PlaceTable) (m : Machine) (row : List ℕ) (pid : ℕ) (table : EffectTable) (e : KnownLeg)
    (sound : IsSound r) (may : MayGo r discipline s t m row pid) (told : IsTold s t r discipline table row pid e) where
  abbrev sys : System Machine
  sys = silent_slots r discipline

  abbrev new : List ℕ
  new = written (writes_of table.writes.items e) row

  abbrev may_step : IsToStep r m pid
  may_step = record { sound = sound; kept = may.machine.kept; ready = may.ready; free = may.free }

  abbrev gone : (last : Stepped) × GoesAs s t r m row pid e.leg (option_to_list e.shown) (writes_of table.writes.items e) last
  gone = told.tells m may_step may.machine.quiet may.machine.ruled may.machine.stands

  -- the machine after the leg, which displays nothing
  abbrev pub after : Machine
  after = without_output gone.0.machine

  pub not_local : is_local e.leg.event ≡ false
  not_local = ap is_local (sym gone.1.event) ∙ leg_tells r m pid e.leg.steps gone.0 gone.1.steps

  pub stands_after : StandsFor r discipline s t after new
  stands_after =
      record {
        stands = other_row s t gone.0.machine new gone.0.machine.discipline [] gone.1.comes;
        kept = quiet_kept r gone.0.machine (leg_kept r m pid e.leg.steps gone.0 may_step gone.1.steps);
        quiet = refl;
        ruled = leg_ruled r m pid e.leg.steps gone.0 gone.1.steps ∙ may.machine.ruled;
      }

  pub makes_leg : (left rest : ℕ) (before : List Shown) (turn : Turn) → e.leg.steps + rest ≡ left → turn ≡ turn_after (slots r discipline) after pid e.leg.event → MakesLeg r discipline s t m pid left before turn rest new (before ++ option_to_list e.shown)
  makes_leg left rest before turn is comes =
      record {
        count = e.leg.steps;
        last = gone.0;
        leg = gone.1.steps;
        long = is;
        stands = record {
          machine = stands_after;
          ready = subst (λ u. IfGoes u (λ q. is_ready after q ≡ true)) (sym comes) (ready_after r discipline after pid e.leg.event not_local);
          free = subst (λ u. IfGoes u (λ q. is_pending after ≡ false)) (sym comes) (free_after r discipline after pid e.leg.event not_local);
        };
        next = comes ∙ silent_after r discipline after pid e.leg.event ∙ ap (turn_after sys after pid) (sym gone.1.event);
        shows = ap (λ out. before ++ out) (sym gone.1.shows);
      }

-- a stretch goes on by a leg
pub gone_on : (r : Tables) (discipline : Discipline) (s u : PartStore) (t v : PlaceTable) (m : Machine) (row new : List ℕ) (pid left rest : ℕ) (before shown : List Shown) (turn : Turn) → IsSound r → MayGo r discipline s t m row pid →
    MakesLeg r discipline u v m pid left before turn rest new shown → GoesOn r discipline u v m (Goes pid) left before turn rest new shown
gone_on r discipline s u t v m row new pid left rest before shown turn sound may made =
    let sys : System Machine = silent_slots r discipline in
    let after : Machine = without_output made.last.machine in
    let steps : IsToStep r m pid = record { sound = sound; kept = may.machine.kept; ready = may.ready; free = may.free } in
    record {
      after = after;
      stands = made.stands;
      walked = ap (λ n. walked sys n m (Goes pid)) (sym made.long) ∙ leg_walked r discipline m pid made.count rest made.last steps made.leg ∙ ap (walked sys rest after) (sym made.next);
      told =
          ap (λ n. fold_stretch sys (shower r) n m pid before) (sym made.long)
          ∙ leg_shown r discipline m pid made.count rest made.last before may.machine.quiet steps made.leg
          ∙ ap (λ next. fold_turn (fold_stretch sys (shower r) rest after) next (before ++ made.last.machine.output)) (sym made.next)
          ∙ ap (fold_turn (fold_stretch sys (shower r) rest after) turn) (sym made.shows);
    }

-- ---- leg after leg

module _ (r : Tables) (discipline : Discipline) (t : PlaceTable) (m : Machine) (first : Turn) (steps : ℕ) (before : List Shown) where
  abbrev silent : System Machine
  silent = silent_slots r discipline

  -- no leg is made
  pub gone_nowhere : (s : PartStore) (row : List ℕ) → StandsAt r discipline s t m first row → GoesOn r discipline s t m first steps before first steps row before
  gone_nowhere s row stands = record { after = m; stands = stands; walked = refl; told = refl }

  -- who goes on may make a leg
  pub may_go : (s : PartStore) (turn : Turn) (left : ℕ) (row : List ℕ) (shown : List Shown) (q : ℕ) → (g : GoesOn r discipline s t m first steps before turn left row shown) → turn ≡ Goes q → MayGo r discipline s t g.after row q
  may_go s turn left row shown q g is = subst (λ u. StandsAt r discipline s t g.after u row) is g.stands

  -- a leg more is made
  pub gone_further : (s u : PartStore) (turn next : Turn) (left rest : ℕ) (row new : List ℕ) (shown more : List Shown) (q : ℕ) → GoesOn r discipline s t m first steps before turn left row shown → turn ≡ Goes q →
      ((n : Machine) → MayGo r discipline s t n row q → GoesOn r discipline u t n (Goes q) left shown next rest new more) → GoesOn r discipline u t m first steps before next rest new more
  gone_further s u turn next left rest row new shown more q g is leg =
      let h = leg g.after (may_go s turn left row shown q g is) in
      record {
        after = h.after;
        stands = h.stands;
        walked = g.walked ∙ ap (walked silent left g.after) is ∙ h.walked;
        told = g.told ∙ ap (λ v. fold_turn (fold_stretch silent (shower r) left g.after) v shown) is ∙ h.told;
      }

-- ---- the end

module _ (r : Tables) (discipline : Discipline) (s u : PartStore) (t v : PlaceTable) (m : Machine) (pid steps : ℕ) where
  abbrev whole : System Machine
  whole = silent_slots r discipline

  abbrev let_in : Machine
  let_in = whole.admit m pid

  abbrev begun_if : Bool → Machine × Turn
  begun_if b = if b then (let_in, settled_turn whole let_in true pid) else (m, Goes pid)

  up : (halt : Halt OutcomeKind) (left : ℕ) (n : Machine) → walked whole left n (turn_of halt) ≡ (n, turn_of halt)
  up Choice left n = walked_up whole left n Due tt
  up (Ended kind) left n = walked_up whole left n (Over kind) tt

  no_more : (halt : Halt OutcomeKind) (on : ℕ → List Shown → List Shown) (shown : List Shown) → fold_turn on (turn_of halt) shown ≡ shown
  no_more Choice on shown = refl
  no_more (Ended kind) on shown = refl

  begun_walked : walked_chosen whole steps m pid ≡ walked whole steps (first_of whole m pid).0 (first_of whole m pid).1
  unfolding walked_chosen
  begun_walked = by (whole.is_pending m)
    where
      by : (b : Bool) → (if b then walked whole steps let_in (settled_turn whole let_in true pid) else walked whole steps m (Goes pid)) ≡ walked whole steps (begun_if b).0 (begun_if b).1
      by true = refl
      by false = refl

  begun_told : (shown : List Shown) → fold_chosen whole (shower r) steps m pid shown ≡ fold_turn (fold_stretch whole (shower r) steps (first_of whole m pid).0) (first_of whole m pid).1 shown
  unfolding fold_chosen
  begun_told shown = by (whole.is_pending m)
    where
      by : (b : Bool) → (if b then fold_turn (fold_stretch whole (shower r) steps let_in) (settled_turn whole let_in true pid) shown else fold_stretch whole (shower r) steps m pid shown) ≡ fold_turn (fold_stretch whole (shower r) steps (begun_if b).0) (begun_if b).1 shown
      by true = refl
      by false = refl

  -- a choice leads to where the stretch halts that it begins
  pub leads : (first : Turn) (rest : ℕ) (row new : List ℕ) (before shown : List Shown) (halt : Halt OutcomeKind) → (b : Begins r discipline s t m pid first row) → GoesOn r discipline u v b.after first steps before (turn_of halt) rest new shown → LeadsTo r discipline u v steps m pid before halt new shown
  leads first rest row new before shown halt b g =
      record {
        after = g.after;
        stands = g.stands.machine;
        walked = begun_walked ∙ ap (λ (x : Machine × Turn). walked whole steps x.0 x.1) b.begun ∙ g.walked ∙ up halt rest g.after;
        told = begun_told before ∙ ap (λ (x : Machine × Turn). fold_turn (fold_stretch whole (shower r) steps x.0) x.1 before) b.begun ∙ g.told ∙ no_more halt (fold_stretch whole (shower r) rest g.after) shown;
      }
