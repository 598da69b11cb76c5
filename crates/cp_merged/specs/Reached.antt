-- How far the walk by layers has come.
use Rattle.std.specs.Prelude.{◌≡◌, ◌+◌, ◌≤◌, ℕ, List, length}
use Rattle.cp_slots.specs.Tables.{Tables}
use Rattle.cp_machine.specs.declared.discipline.Discipline.{Discipline}
use Rattle.cp_run.specs.Slots.{slots}
use Rattle.cp_walk.specs.Report.{same_outcome}
use Rattle.cp_merged.specs.Layers.{front_at}
use Rattle.cp_merged.specs.Holds.{same_key, Holds}
use Rattle.cp_merged.specs.Known.{IsKnown, width_of}
use Rattle.cp_merged.specs.TooMany.{FitsBefore}
use Rattle.cp_merged.specs.declared.end_key.EndKey.{EndKey}
use Rattle.cp_merged.specs.declared.prefixes.Prefixes as code
use Rattle.cp_merged.specs.declared.known.KnownStates.{KnownStates}

-- layer d is made, and all that came before fits
pub record Reached (r : Tables) (discipline : Discipline) (choices steps most d : ℕ) (known : KnownStates) (ends : List (EndKey × code.Prefixes)) (states : List (List ℕ × code.Prefixes)) : Type 0 where
  pub holds : Holds r known ends states (front_at (slots r discipline) same_outcome same_key steps d)
  pub few : length states ≤ most
  pub fits : FitsBefore (slots r discipline) choices steps most d

-- What is known is of the program, under its discipline. A row has room for its parts and the number of an output, and so have those of the layer.
pub record CanGoOn (r : Tables) (discipline : Discipline) (known : KnownStates) (row : List ℕ) (width : ℕ) : Type 0 where
  pub known_is : IsKnown r known
  pub ruled : known.discipline ≡ discipline
  pub long : length row ≡ width_of known.cache.table + 1
  pub width_is : width ≡ width_of known.cache.table + 1
