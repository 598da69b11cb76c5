-- Rows of the states of a search.
use Rattle.std.specs.Prelude.{◌≡◌, ◌+◌, ◌++◌, ℕ, List, length, take}
use Rattle.cp_slots.specs.Tables.{Tables}
use Rattle.cp_key.specs.Room.{IsMachineOf}
use Rattle.cp_machine.specs.declared.discipline.Discipline.{Discipline}
use Rattle.cp_machine.specs.declared.shown.Shown.{Shown}
use Rattle.cp_machine.specs.System.{Machine}
use Rattle.cp_run.specs.Code.{node_of}
use Rattle.cp_run.specs.Run.{chosen}
use Rattle.cp_run.specs.Slots.{slots}
use Rattle.cp_run.specs.declared.outcome.Halt.{Halt}
use Rattle.cp_run.specs.declared.outcome.OutcomeKind.{OutcomeKind}
use Rattle.cp_states.specs.Numbers.{number_at}
use Rattle.cp_states.specs.Pieces.{IsPiece, KeepPieces}
use Rattle.cp_parts.specs.declared.placing.PlaceTable.{PlaceTable}
use Rattle.cp_parts.specs.Parts.{IsPartRow, KeepStore}
use Rattle.cp_parts.specs.Placed.{IsPlaced, place_count}
use Rattle.cp_stretches.specs.Cached.{IsCache, IsStanding}
use Rattle.cp_merged.specs.declared.known.KnownStates.{KnownStates}

-- how many numbers a row of parts has
abbrev pub width_of : PlaceTable → ℕ
width_of t = t.processes + 1 + place_count t

-- the parts and the legs are the program's, and a state of it stands in the room for one
pub record IsKnown (r : Tables) (k : KnownStates) : Type 0 where
  pub cached : IsCache r k.discipline k.cache
  pub standing : IsStanding r k.cache.store k.cache.table k.standing

-- the first numbers of a row are those of the parts of a machine
pub record HasParts (r : Tables) (k : KnownStates) (row : List ℕ) (m : Machine) : Type 0 where
  pub placed : IsPlaced r k.cache.table
  pub long : length row ≡ width_of k.cache.table + 1
  pub parts : IsPartRow k.cache.store k.cache.table m (take (width_of k.cache.table) row)
  pub ruled : m.discipline ≡ k.discipline

-- the number of these values stands at the end of a row
pub record IsBefore (k : KnownStates) (row : List ℕ) (o : List Shown) : Type 0 where
  pub long : length row ≡ width_of k.cache.table + 1
  pub is : IsPiece k.outputs.items.items k.outputs.ends.items (number_at row (width_of k.cache.table)) o

-- the row of a machine: at the end stands the number of what it displayed
pub record IsRowFor (r : Tables) (k : KnownStates) (row : List ℕ) (m : Machine) : Type 0 where
  pub has : HasParts r k row m
  pub output : IsBefore k row m.output

-- all that has a number keeps it
pub record KeepKnown (old new : KnownStates) : Type 0 where
  pub table : new.cache.table ≡ old.cache.table
  pub ruled : new.discipline ≡ old.discipline
  pub store : KeepStore old.cache.store new.cache.store
  pub outputs : KeepPieces old.outputs.items.items old.outputs.ends.items new.outputs.items.items new.outputs.ends.items

-- Words arrive at a machine of the program. At the end of the row stands the number of what it displayed before these values.
pub record IsArrival (r : Tables) (k : KnownStates) (row : List ℕ) (shown : List Shown) (m : Machine) : Type 0 where
  pub own : IsMachineOf r m
  pub has : HasParts r k row m
  pub old : List Shown
  pub before : IsBefore k row old
  pub told : m.output ≡ old ++ shown

-- a choice leads to where a stretch halts, at the machine of a row
pub record Goes (r : Tables) (discipline : Discipline) (steps : ℕ) (m : Machine) (process : ℕ) (halt : Halt OutcomeKind) (k : KnownStates) (row : List ℕ) (shown : List Shown) : Type 0 where
  pub after : Machine
  pub arrival : IsArrival r k row shown after
  pub node : chosen (slots r discipline) steps m process ≡ node_of halt after
