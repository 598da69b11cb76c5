-- A search that expands rows.
use Rattle.std.specs.Prelude.{◌≡◌, ◌∷◌, ◌++◌, ℕ, List, [], Some, length, slice_get}
use Rattle.cp_slots.specs.Tables.{Tables}
use Rattle.cp_machine.specs.declared.discipline.Discipline.{Discipline}
use Rattle.cp_machine.specs.declared.shown.Shown.{Shown}
use Rattle.cp_machine.specs.System.{Machine}
use Rattle.cp_run.specs.Slots.{slots}
use Rattle.cp_run.specs.Silent.{without_output}
use Rattle.cp_run.specs.declared.outcome.Halt.{Halt}
use Rattle.cp_run.specs.declared.outcome.Halt.TheVariants.{Choice, Ended}
use Rattle.cp_run.specs.declared.outcome.OutcomeKind.{OutcomeKind}
use Rattle.cp_parts.specs.Parts.{IsPartRow}
use Rattle.cp_stretches.specs.declared.cache.Standing.{Standing}
use Rattle.cp_ends.specs.Halves.{width_of}
use Rattle.cp_endless_laws.specs.Moments.{Moment}
use Rattle.cp_endless_laws.specs.Silent.{silent_slots}
use Rattle.cp_run.specs.Run.{may, those_below}
use Rattle.cp_ends.specs.Answer.{HasNumber, ends_tests, halt_of, slot_graph}
use Rattle.cp_ends.specs.Legs.{ComesTo, choice_leg, with_round}
use Rattle.cp_ends.specs.Searched.{searched}
use Rattle.cp_ends.specs.Arrivals.{goal_at, next_arrival}
use Rattle.cp_ends.specs.Holds.{Holds, SlotFindings, same_key}
use Rattle.cp_ends.specs.Rows.{IsHalved, IsRowFor}
use Rattle.cp_ends.specs.Visited.{IsWithin, gone_with}
use Rattle.cp_ends.specs.declared.end.End.{End}
use Rattle.cp_ends.specs.declared.end.End.TheVariants.{Over}
use Rattle.cp_ends.specs.declared.found.Arrived.{Arrived}
use Rattle.cp_ends.specs.declared.found.Arrived.TheVariants.{At}
use Rattle.cp_ends.specs.declared.found.Found.{Found}
use Rattle.cp_ends.specs.declared.row.StateRow.{StateRow}
use Rattle.cp_ends.specs.declared.rows.RowSearch.{RowSearch}
use Rattle.cp_ends.specs.declared.told.Told.{Told}

-- the end of a stretch that is over
abbrev pub end_of : Halt OutcomeKind → Halt End
end_of Choice = Choice
end_of (Ended kind) = Ended (Over kind)

-- its room has a row, and its states are under this discipline
pub record HasRoom {W : Type 0} (discipline : Discipline) (s : RowSearch W) : Type 0 where
  pub ruled : s.found.states.discipline ≡ discipline
  pub row : length s.row.items ≡ width_of s.found.states.cache.table

-- the same findings where another state stands in the room for one
abbrev pub with_standing : Found → Standing → Found
with_standing found standing = record found { states = record found.states { standing = standing } }

-- what is found stays so, rows are those of their machines, and have their numbers
pub record KeepFound (r : Tables) (old new : Found) : Type 0 where
  pub holds : (f : SlotFindings) → Holds r old f → Holds r new f
  pub rows : (row : List ℕ) (m : Machine) → IsRowFor r old.states row m → IsRowFor r new.states row m
  pub halved : (numbers row : List ℕ) → IsHalved old.states numbers row → IsHalved new.states numbers row

-- what is seen of due choices and of the moments after them
abbrev pub Seeing : Type 0 → Type 1
Seeing W = W → Tables → Discipline → List Machine → List (Moment Machine) → Type 0

-- what is told of a choice of a machine, and of the stretch after it, which comes to this machine and halts so there
abbrev pub TellsOf : {W : Type 0} → Seeing W → Tables → Discipline → (steps : ℕ) → Machine → (process : ℕ) → Told W → Halt End → Machine → Type 0
TellsOf sees r discipline steps m process told halt last =
    ComesTo (silent_slots r discipline) (λ w. sees w r discipline) steps (choice_leg (silent_slots r discipline) steps m process) (m ∷ []) told.seen (with_round told.again halt) last

-- A choice leads to where a stretch halts, and displays these values. Where it halts at a choice, the machine there is such a one.
pub record Goes (r : Tables) (discipline : Discipline) (steps : ℕ) (m : Machine) (process : ℕ) (halt : Halt End) (IsSuch : Machine → Type 0) (values : List Shown) : Type 0 where
  pub after : Machine
  pub is : halt ≡ Choice → IsSuch after
  pub goal : goal_at halt after ≡ (next_arrival (slots r discipline) without_output same_key steps m process).goal
  pub shown : values ≡ (next_arrival (slots r discipline) without_output same_key steps m process).shown

-- .. and that is told
pub record GoesAsTold {W : Type 0} (sees : Seeing W) (r : Tables) (discipline : Discipline) (steps : ℕ) (m : Machine) (process : ℕ) (halt : Halt End) (IsSuch : Machine → Type 0) (told : Told W) : Type 0 where
  pub goes : Goes r discipline steps m process halt IsSuch told.values.items
  pub seen : TellsOf sees r discipline steps m process told halt goes.after

-- The search expands the state of a number, which is this machine and has this row with these numbers and this look, and took these choices.
pub record IsWithinRow {W : Type 0} (looks : W → Tables → Machine → Type 0) (r : Tables) (discipline : Discipline) (steps most : ℕ) (s : RowSearch W) (from : StateRow W) (at : ℕ) (m : Machine) (done : List ℕ) : Type 0 where
  pub room : HasRoom discipline s
  pub row_is : IsPartRow s.found.states.cache.store s.found.states.cache.table m from.row.items
  pub halved : IsHalved s.found.states from.numbers.numbers from.row.items
  pub look : looks from.seen r m
  pub within : IsWithin r (slot_graph r discipline steps) most s.found at m done

-- A choice that was taken in the state of a number, after these: it arrived at the machine to which it leads, which has the number that was answered.
pub record IsTold {W : Type 0} (sees : Seeing W) (r : Tables) (discipline : Discipline) (steps at : ℕ) (m : Machine) (process : ℕ) (arrived : Arrived) (told : Told W) : Type 0 where
  pub last : Machine
  pub seen : TellsOf sees r discipline steps m process told (halt_of arrived) last
  pub number : (number : ℕ) (from : Machine × List ℕ) → arrived ≡ At number → slice_get (searched (slot_graph r discipline steps) ends_tests at).states at ≡ Some from →
      HasNumber (gone_with (slot_graph r discipline steps) from (those_below process (may (slots r discipline) m) ++ process ∷ []) (searched (slot_graph r discipline steps) ends_tests at)).states last number
