-- Legs that were made and watched.
use Rattle.std.specs.Prelude.{◌≡◌, ℕ, List, true}
use Rattle.cp_slots.specs.Tables.{Tables}
use Rattle.cp_machine.specs.Machine.{Machine}
use Rattle.cp_machine.specs.Statements.{Stepped}
use Rattle.cp_machine.specs.Step.{step_at}
use Rattle.cp_machine.specs.declared.event.Event.{Event}
use Rattle.cp_effect_laws.specs.Effects.{LegWithin}
use Rattle.cp_effect_laws.specs.Parts.{AreSettled, Places}
use Rattle.cp_effect_laws.specs.Touches.{HasStep}
use Rattle.cp_effects.specs.declared.leg.WatchedLeg.{WatchedLeg}
use Rattle.cp_effects.specs.Noting.{among}
use Rattle.cp_effects.specs.Touching.{noted_by}

-- A step of a process was this event and led from one machine to another, and touched no other places than these.
pub record IsStepWithin (l : Places) (r : Tables) (places : List ℕ) (m : Machine) (pid : ℕ) (event : Event) (after : Machine) : Type 0 where
  pub touches : HasStep (noted_by l places m pid) r m pid
  pub step : step_at r m pid ≡ record { machine = after; event = event }

-- what a leg came to that led to this machine
abbrev pub came_to : WatchedLeg → Machine → Stepped
came_to leg after = record { machine = after; event = leg.event }

-- A leg of a process led from one machine to another, and touched no other places than these.
abbrev pub IsLegWithin : Places → Tables → List ℕ → Machine → (pid : ℕ) → WatchedLeg → Machine → Type 0
IsLegWithin l r places m pid leg after = LegWithin (noted_by l places m pid) r m pid leg.steps (came_to leg after)

-- What a leg did that led from one machine to another: each machine that has the same in these places makes the same leg.
pub record IsEffect (l : Places) (r : Tables) (places : List ℕ) (m : Machine) (pid : ℕ) (leg : WatchedLeg) (after : Machine) : Type 0 where
  pub own : among places (l.of_process pid) ≡ true
  pub within : IsLegWithin l r places m pid leg after
  pub settled : AreSettled l (among places) pid m after
