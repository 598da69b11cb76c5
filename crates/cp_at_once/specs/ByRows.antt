-- A search that expands rows.
use Rattle.std.specs.Prelude.{◌≡◌, ℕ, List, [], length}
use Rattle.cp_slots.specs.Tables.{Tables}
use Rattle.cp_machine.specs.declared.discipline.Discipline.{Discipline}
use Rattle.cp_machine.specs.System.{Machine}
use Rattle.cp_states.specs.Numbers.{number_at}
use Rattle.cp_parts.specs.declared.placing.PlaceTable.{PlaceTable}
use Rattle.cp_parts.specs.declared.store.PartStore.{PartStore}
use Rattle.cp_parts.specs.Parts.{part_at}
use Rattle.cp_effects.specs.Changes.{part_position}
use Rattle.cp_ends.specs.Answer.{slot_graph}
use Rattle.cp_ends.specs.Halves.{width_of}
use Rattle.cp_ends.specs.Holds.{AreStates}
use Rattle.cp_ends.specs.Rows.{IsHalved, IsRowFor}
use Rattle.cp_ends.specs.declared.states.States.{States}
use Rattle.cp_at_once.specs.Following.{Within}
use Rattle.cp_at_once.specs.Legs.{HasLeg}
use Rattle.cp_at_once.specs.declared.found.FoundAtOnce.{FoundAtOnce}
use Rattle.cp_at_once.specs.declared.search.SearchAtOnce.{SearchAtOnce}

-- the number of the phases in which a row has the components of a place
abbrev pub phases_number : PartStore → PlaceTable → (row : List ℕ) → (place : ℕ) → ℕ
phases_number s t row place = number_at (part_at s (number_at row (part_position t place))) 2

-- What is known of parts and legs is the program's still, rows are those of their machines, and have their numbers.
pub record KeepStore (r : Tables) (old new : States) : Type 0 where
  pub known : AreStates r old [] → AreStates r new []
  pub rows : (row : List ℕ) (m : Machine) → IsRowFor r old row m → IsRowFor r new row m
  pub halved : (numbers row : List ℕ) → IsHalved old numbers row → IsHalved new numbers row
  pub table : new.cache.table ≡ old.cache.table
  pub ruled : new.discipline ≡ old.discipline

-- the same findings with another store
abbrev pub with_store : FoundAtOnce → States → FoundAtOnce
with_store found store = record found { kept = record found.kept { store = store } }

-- there is room for two rows, and what is known is so under this discipline
pub record HasRoom (discipline : Discipline) (s : SearchAtOnce) : Type 0 where
  pub ruled : s.found.kept.store.discipline ≡ discipline
  pub row : length s.row.items ≡ width_of s.found.kept.store.cache.table
  pub from : length s.from.items ≡ width_of s.found.kept.store.cache.table

-- The search expands the kept state of a number, which is this machine and has this row, and took these choices.
pub record IsWithinRow (r : Tables) (discipline : Discipline) (steps most : ℕ) (s : SearchAtOnce) (row : List ℕ) (at : ℕ) (m : Machine) (done : List ℕ) : Type 0 where
  pub row_is : IsRowFor r s.found.kept.store row m
  pub within : Within r (slot_graph r discipline steps) (HasLeg r discipline) most 8 s.found at m done
