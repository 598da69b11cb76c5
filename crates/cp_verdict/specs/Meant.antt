-- What a mark is in the terms of the program's own names.
use Rattle.std.specs.Prelude.{◌≡◌, ℕ, List}
use Rattle.cp_tree.specs.Read.{IsRead}
use Rattle.cp_tree.specs.Syntax.{Tree}
use Rattle.cp_layout.specs.Laid.{plain, laid}
use Rattle.cp_slots.specs.Tables.{Tables}
use Rattle.cp_meaning_laws.specs.Accepted.{IsAccepted}
use Rattle.cp_machine.specs.declared.discipline.Discipline.{Discipline}
use Rattle.cp_run.specs.Table.{table}
use Rattle.cp_machine_laws.specs.Named.{named, named_discipline}
use Rattle.cp_verdict.specs.Marked.{IsMarked}
use Rattle.cp_expectation.specs.declared.expectation.Expectation.{Expectation}
use Rattle.cp_verdict.specs.declared.program.Marked.{Marked}

-- of whatever program was read, is accepted, and has these tables: each expectation is judged and marked by the table of its meaning
abbrev pub IsMeantMark : Tables → Discipline → (choices steps : ℕ) → List Expectation → Marked → Type 0
IsMeantMark r discipline choices steps es m = (t : Tree) → ∥ IsRead t.program ∥₁ → IsAccepted t → plain r ≡ laid t → IsMarked r.names es (table (named t (named_discipline discipline)) choices steps) m
