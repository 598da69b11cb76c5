-- Places that are noted because steps may touch them.
use Rattle.std.specs.Prelude.{◌≡◌, ◌+◌, ◌<◌, ◌⊎◌, ℕ, Bool, true, List, length, slice_index_or}
use Rattle.cp_slots.specs.declared.tables.ComponentKind.{ComponentKind}
use Rattle.cp_slots.specs.declared.tables.ComponentKind.TheVariants as kind
use Rattle.cp_slots.specs.Tables.{Tables, routine_at}
use Rattle.cp_store.specs.declared.memory.Address.{Address}
use Rattle.cp_store.specs.declared.memory.Frame.{Frame}
use Rattle.cp_store.specs.Places.{reference_at}
use Rattle.cp_machine.specs.Machine.{Machine, is_unstarted}
use Rattle.cp_effect_laws.specs.Footprint.{Footprint}
use Rattle.cp_effect_laws.specs.Parts.{Places, footprint_of, status_at}
use Rattle.cp_effect_laws.specs.Touches.{HasAt}
use Rattle.cp_parts.specs.declared.placing.PlaceTable.{PlaceTable}
use Rattle.cp_parts.specs.Placed.{places_of}
use Rattle.cp_effects.specs.Noting.{among}

-- what a process may touch in a machine, whose steps touch no other places than these
abbrev pub noted_by : Places → List ℕ → Machine → (pid : ℕ) → Footprint
noted_by l places m pid = footprint_of l (among places) m pid

-- the cells of each `var` parameter of a frame
abbrev pub HasBehind : (ℕ → Bool) → Tables → List Address → Frame → Type 0
HasBehind own r references g =
    (k : ℕ) → k < length (routine_at r g.routine).extents →
    HasAt own (reference_at references (g.references + k)) (slice_index_or (routine_at r g.routine).extents k 0)

-- the process that steps, or one that is not started, in a noted place
abbrev pub IsOwnOrUnstarted : (places : List ℕ) → Machine → (pid number : ℕ) → Type 0
IsOwnOrUnstarted places m pid number = (number ≡ pid) ⊎ ((among places number ≡ true) × (is_unstarted (status_at m number) ≡ true))

-- what is noted of a component beside its own place: a monitor is in a noted place; a process is the one that steps, or is in a noted place and not started
abbrev pub MayTouch : PlaceTable → (places : List ℕ) → Machine → (pid : ℕ) → ComponentKind → Type 0
MayTouch t places m pid (kind.Process number) = IsOwnOrUnstarted places m pid number
MayTouch t places m pid (kind.Monitor number) = among places ((places_of t).of_monitor number) ≡ true
MayTouch t places m pid kind.Class = Unit {0}
