-- How far a search has come that expands one state after the other.
use Rattle.std.specs.Prelude.{◌≡◌, ◌≤◌, ℕ, List, [], ◌∷◌, ◌++◌, Some, length, slice_get}
use Rattle.cp_slots.specs.Tables.{Tables}
use Rattle.cp_machine.specs.declared.shown.Shown.{Shown}
use Rattle.cp_machine.specs.System.{Machine, output_of}
use Rattle.cp_ends.specs.Answer.{HoldsFew, ends_tests}
use Rattle.cp_ends.specs.Graph.{Graph}
use Rattle.cp_ends.specs.Holds.{SlotFindings}
use Rattle.cp_ends.specs.Searched.{arrived, searched}
use Rattle.cp_ends.specs.declared.end.End.{End}
use Rattle.cp_ends.specs.declared.found.Found.{Found}

-- a place with its word is expanded with these numbers
abbrev pub gone_with : Graph Machine End Shown → Machine × List ℕ → List ℕ → SlotFindings → SlotFindings
gone_with g x [] f = f
gone_with g x (p ∷ ps) f = gone_with g x ps (arrived ends_tests f (x.1 ++ p ∷ []) (g.on x.0 p))

-- The states before the one of this number were expanded, and this one, which is the machine, with these numbers.
pub record IsWithin (r : Tables) (g : Graph Machine End Shown) (most : ℕ) (found : Found) (at : ℕ) (m : Machine) (done : List ℕ) : Type 0 where
  pub from : Machine × List ℕ
  pub is : slice_get (searched g ends_tests at).states at ≡ Some from
  pub here : m ≡ from.0
  pub quiet : output_of m ≡ []
  pub holds : HoldsFew r most found (gone_with g from done (searched g ends_tests at))

-- Each state was expanded.
pub record IsWhole (r : Tables) (g : Graph Machine End Shown) (most : ℕ) (found : Found) : Type 0 where
  pub count : ℕ
  pub holds : HoldsFew r most found (searched g ends_tests count)
  pub all : length (searched g ends_tests count).states ≤ count
