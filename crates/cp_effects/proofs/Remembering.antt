-- What is remembered of a leg that was made.
use Rattle.std.proofs.Common.{◌≡◌, ◌<◌, ℕ, List, [], false, refl, subst, sym, true}
use Rattle.cp_slots.specs.Tables.{Tables}
use Rattle.cp_machine.specs.declared.shown.Shown.{Shown}
use Rattle.cp_machine.specs.declared.state.State.{State}
use Rattle.cp_machine.specs.Fits.{IsStateOf}
use Rattle.cp_machine.specs.Machine.{Machine, is_pending, is_ready, machine_of}
use Rattle.cp_machine.specs.Statements.{Stepped}
use Rattle.cp_effect_laws.specs.Effects.{Leg, LegWithin}
use Rattle.cp_effect_laws.specs.Effects.Leg.{ends, goes_on}
use Rattle.cp_effect_laws.specs.Effects.LegWithin.{ends_within, goes_on_within}
use Rattle.cp_effect_laws.specs.Footprint.{Footprint}
use Rattle.cp_parts.specs.declared.placing.PlaceTable.{PlaceTable}
use Rattle.cp_parts.specs.declared.store.PartStore.{PartStore}
use Rattle.cp_parts.specs.Parts.{IsPartRow, KeepStore}
use Rattle.cp_parts.specs.Placed.{place_count, places_of}
use Rattle.cp_parts.proofs.Keeping.{row_on}
use Rattle.cp_effects.specs.declared.changes.Write.{Write}
use Rattle.cp_effects.specs.declared.leg.WatchedLeg.{WatchedLeg}
use Rattle.cp_effects.specs.Changes.{AreChanges, numbers_at}
use Rattle.cp_effects.specs.Noting.{among}
use Rattle.cp_effects.specs.Remembered.{GoesAs, IsRemembered}
use Rattle.cp_effects.specs.Touching.{noted_by}
use Rattle.cp_effects.specs.Watching.{IsEffect, came_to}
use Rattle.cp_effects.proofs.Watching.{may_step}

pub remembered : (s u : PartStore) (t : PlaceTable) (r : Tables) (before : State) (pid : ℕ) (places row row_after : List ℕ) (leg : WatchedLeg) (after : Machine) (shown : List Shown) (writes : List Write) →
    IsStateOf r before → is_ready (machine_of before) pid ≡ true → is_pending (machine_of before) ≡ false → before.output.items ≡ [] →
    KeepStore s u → IsPartRow s t (machine_of before) row → IsPartRow u t after row_after → IsEffect (places_of t) r places (machine_of before) pid leg after →
    ((place : ℕ) → among places place ≡ true → place < place_count t) → shown ≡ after.output → AreChanges t places row row_after writes →
    IsRemembered u t r before.discipline pid places (numbers_at t places row) leg shown writes
remembered s u t r before pid places row row_after leg after shown writes own ready free quiet kept stands comes effect inside shows changes =
    record {
      first = machine_of before;
      row = row;
      after = after;
      row_after = row_after;
      stands = row_on s u t (machine_of before) row kept stands;
      comes = comes;
      steps = may_step r before pid own ready free;
      quiet = quiet;
      ruled = refl;
      effect = effect;
      inside = inside;
      found = refl;
      shows = sym shows;
      changes = changes;
    }

-- a leg within a footprint is a leg
pub leg_of : (f : Footprint) (r : Tables) (m : Machine) (pid k : ℕ) (last : Stepped) → LegWithin f r m pid k last → Leg r m pid k last
leg_of f r _ _ _ _ (ends_within m pid has is) = ends m pid is
leg_of f r _ _ _ _ (goes_on_within m pid k last has is rest) = goes_on m pid k last is (leg_of f r _ pid k last rest)

-- what a leg that was made came to
pub went : (s : PartStore) (t : PlaceTable) (r : Tables) (m : Machine) (pid : ℕ) (places row row_after : List ℕ) (leg : WatchedLeg) (after : Machine) (shown : List Shown) (writes : List Write) →
    IsPartRow s t after row_after → IsEffect (places_of t) r places m pid leg after → shown ≡ after.output → AreChanges t places row row_after writes →
    GoesAs s t r m row pid leg shown writes (came_to leg after)
went s t r m pid places row row_after leg after shown writes comes effect shows changes =
    record {
      steps = leg_of (noted_by (places_of t) places m pid) r m pid leg.steps (came_to leg after) effect.within;
      event = refl;
      shows = sym shows;
      comes = subst (IsPartRow s t after) changes.row comes;
    }
