-- A schedule with an outcome.
use Rattle.std.specs.Prelude.{◌≡◌, ℕ, List, ◌∷◌, [], true}
use Rattle.cp_run.specs.System.{System}
use Rattle.cp_run.specs.Run.{run}
use Rattle.cp_run.specs.Table.{lines_of}
use Rattle.cp_run.specs.declared.outcome.Outcome.{Outcome}
use Rattle.cp_walk.specs.Report.{same_outcome}

-- the word is a row of the table, with the same outcome
abbrev pub IsScheduleOf : {S : Type 0} → System S → (choices steps : ℕ) → List ℕ → Outcome → Type 0
IsScheduleOf sys choices steps word outcome = (o : Outcome) × (lines_of word (run sys choices steps word) ≡ record { word = word; outcome = o } ∷ []) × (same_outcome o outcome ≡ true)
