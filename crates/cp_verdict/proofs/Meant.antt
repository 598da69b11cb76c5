-- What is so of the table of the slot machine is so of the table of the meaning.
use Rattle.std.proofs.Common.{◌≡◌, ℕ, List, sym, subst}
use Rattle.cp_tree.specs.Read.{IsRead}
use Rattle.cp_tree.specs.Syntax.{Tree}
use Rattle.cp_layout.specs.Laid.{plain, laid}
use Rattle.cp_slots.specs.Tables.{Tables}
use Rattle.cp_meaning_laws.specs.Accepted.{IsAccepted}
use Rattle.cp_machine.specs.declared.discipline.Discipline.{Discipline}
use Rattle.cp_run.specs.Slots.{slots}
use Rattle.cp_run.specs.Table.{Line, table}
use Rattle.cp_machine_laws.specs.Named.{named, named_discipline}
use Rattle.cp_machine_laws.proofs.Meaning.{runs_as_meant}

pub on_names : (P : List Line → Type 0) (r : Tables) (discipline : Discipline) (choices steps : ℕ) → P (table (slots r discipline) choices steps) → (t : Tree) → ∥ IsRead t.program ∥₁ → IsAccepted t → plain r ≡ laid t → P (table (named t (named_discipline discipline)) choices steps)
on_names P r discipline choices steps h t read ok same = subst P (sym (runs_as_meant t r discipline read ok same choices steps).tables) h
