-- Legs that are known, as those that may be made at once.
use Rattle.cp_at_once.proofs.Words.{◌≡◌, ◌∙◌, ◌<◌, ℕ, List, [], true, false, refl, ap, Tables, Discipline, Machine, is_pending, may, slots, silent_slots, without_output, HasLeg}
use Rattle.cp_machine.specs.declared.event.Event.{Event}
use Rattle.cp_machine.specs.declared.event.Event.TheVariants.{Kernel, Ended}
use Rattle.std.specs.Prelude.{option_to_list}
use Rattle.cp_machine.specs.Statements.{Stepped}
use Rattle.cp_machine.specs.Step.{step_at}
use Rattle.cp_effect_laws.specs.Effects.{IsToStep, Leg}
use Rattle.cp_effect_laws.specs.Effects.Leg.{ends, goes_on}
use Rattle.cp_effects.specs.Changes.{written}
use Rattle.cp_effects.specs.Known.{writes_of}
use Rattle.cp_effects.specs.Remembered.{GoesAs}
use Rattle.cp_effects.specs.declared.table.KnownLeg.{KnownLeg}
use Rattle.cp_parts.specs.Placed.{place_count}
use Rattle.cp_run.proofs.Choosing.{may_be_ready}
use Rattle.cp_stretches.specs.Telling.{IsTold}
use Rattle.cp_stretches.proofs.Ending.{leg_kept}
use Rattle.cp_ends.specs.Holds as by_states
use Rattle.cp_ends.specs.Rows.{IsRowFor}
use Rattle.cp_ends.specs.declared.states.States.{States}
use Rattle.cp_ends.proofs.Rowwise.{stands_for}
use Rattle.cp_at_once_laws.specs.AtOnce.{QuietLeg, calls_quietly, after_quiet, is_call}
use Rattle.cp_at_once_laws.specs.Quiet.{is_quiet}
use Rattle.cp_at_once.specs.ByRows.{phases_number}
use Rattle.cp_at_once.specs.Legs.{ends_quietly}
use Rattle.cp_at_once.proofs.Phases.{same_phases}

quiet_is : (e : Event) → ends_quietly e ≡ true → is_quiet e ≡ true
quiet_is (Kernel call) h = h
quiet_is Ended h = refl
quiet_is x h = absurd (cc)

call_is : (e : Event) → ends_quietly e ≡ true → is_call e ≡ true
call_is (Kernel call) h = refl
call_is Ended h = refl
call_is x h = absurd (cc)

-- a leg that ends quietly is quiet: its other steps are local
quiet_leg : (r : Tables) (discipline : Discipline) (m : Machine) (p k : ℕ) (last : Stepped) → Leg r m p k last → ends_quietly last.event ≡ true → QuietLeg (silent_slots r discipline) (λ n q. is_quiet ((silent_slots r discipline).event n q) ≡ true) m p (without_output last.machine)
quiet_leg r discipline _ _ _ _ (ends m p is) quiet = calls_quietly m p (quiet_is (step_at r m p).event quiet) (call_is (step_at r m p).event quiet)
quiet_leg r discipline _ _ _ _ (goes_on m p k last is rest) quiet = after_quiet m p (without_output last.machine) (ap is_quiet is) is (quiet_leg r discipline (without_output (step_at r m p).machine) p k last rest quiet)

module _ (r : Tables) (discipline : Discipline) (kept : States) (row : List ℕ) (p : ℕ) (e : KnownLeg) (m : Machine) (held : by_states.AreStates r kept []) (ruled : kept.discipline ≡ discipline) (told : IsTold kept.cache.store kept.cache.table r kept.discipline kept.cache.legs.effects row p e) (is : IsRowFor r kept row m) (may_be : may (slots r discipline) m p ≡ true) (free : is_pending m ≡ false) where
  steps : IsToStep r m p
  steps = record { sound = held.cached.sound; kept = (stands_for r kept row m is).kept; ready = may_be_ready (slots r discipline) m p free may_be; free = free }

  -- where a leg that is known leads from the state of a row
  pub leg_after : (last : Stepped) × GoesAs kept.cache.store kept.cache.table r m row p e.leg (option_to_list e.shown) (writes_of kept.cache.legs.effects.writes.items e) last
  leg_after = told.tells m steps is.it.quiet is.it.ruled is.is

  -- it is one that may be made at once
  pub has_leg : ends_quietly e.leg.event ≡ true → ((place : ℕ) → place < place_count kept.cache.table → phases_number kept.cache.store kept.cache.table row place ≡ phases_number kept.cache.store kept.cache.table (written (writes_of kept.cache.legs.effects.writes.items e) row) place) → HasLeg r discipline m p
  has_leg quiet same =
      let goes = leg_after.1 in
      let last : Stepped = leg_after.0 in
      record {
        free = free;
        after = without_output last.machine;
        leg = quiet_leg r discipline m p e.leg.steps last goes.steps (ap ends_quietly goes.event ∙ quiet);
        phases = same_phases r kept.cache.store kept.cache.table m last.machine row (written (writes_of kept.cache.legs.effects.writes.items e) row) held.cached.placed steps.kept.fits (leg_kept r m p e.leg.steps last steps goes.steps).fits is.is goes.comes same;
      }
