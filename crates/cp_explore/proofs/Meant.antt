-- The rows of the machine are those of the meaning, which lets no two processes into one monitor.
use Rattle.std.proofs.Common.{◌≡◌, ◌∙◌, ℕ, List, map, Result, Ok, Err, IfOk, ap, sym}
use Rattle.cp_slots.specs.Tables.{Tables}
use Rattle.cp_machine.specs.declared.discipline.Discipline.{Discipline}
use Rattle.cp_run.specs.Slots.{slots}
use Rattle.cp_run.specs.Table.{Line, table}
use Rattle.cp_meaning_laws.proofs.Accepting.{keeps_exclusion}
use Rattle.cp_machine_laws.specs.Named.{named_discipline}
use Rattle.cp_machine_laws.proofs.Meaning.{runs_as_meant}
use Rattle.cp_explore.specs.Meant.{AreExclusive, AreMeant, AreTallied}
use Rattle.cp_merged.specs.Tallies.{tally}
use Rattle.cp_walk.specs.Groups.{Tally}
use Rattle.cp_walk.specs.Report.{same_outcome}
use Rattle.cp_walk.specs.Rows.{line_of}
use Rattle.cp_walk.specs.declared.fault.ExploreFault.{ExploreFault}
use Rattle.cp_walk.specs.declared.row.Table.{Table}

pub meant : (r : Tables) (discipline : Discipline) (choices steps : ℕ) (lines : List Line) → lines ≡ table (slots r discipline) choices steps → AreMeant r discipline choices steps lines
meant r discipline choices steps lines e t read ok same = e ∙ sym (runs_as_meant t r discipline read ok same choices steps).tables

-- where there are any
pub meant_rows : (answer : Result Table ExploreFault) (r : Tables) (discipline : Discipline) (choices steps : ℕ) → IfOk answer (λ t. map line_of t.rows ≡ table (slots r discipline) choices steps) → IfOk answer (λ t. AreMeant r discipline choices steps (map line_of t.rows))
meant_rows (Ok t) r discipline choices steps h = meant r discipline choices steps (map line_of t.rows) h
meant_rows (Err fault) r discipline choices steps h = tt

pub tallied : (r : Tables) (discipline : Discipline) (choices steps : ℕ) (tallies : List Tally) → tallies ≡ tally same_outcome (table (slots r discipline) choices steps) → AreTallied r discipline choices steps tallies
tallied r discipline choices steps tallies e t read ok same = e ∙ sym (ap (λ (lines : List Line). tally same_outcome lines) (runs_as_meant t r discipline read ok same choices steps).tables)

pub are_exclusive : (r : Tables) (discipline : Discipline) → AreExclusive r discipline
are_exclusive r discipline t read ok same = keeps_exclusion t ok (named_discipline discipline)
