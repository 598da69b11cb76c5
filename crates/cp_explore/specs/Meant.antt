-- What a table is in the terms of the program's own names.
use Rattle.std.specs.Prelude.{◌≡◌, ℕ, List}
use Rattle.cp_tree.specs.Read.{IsRead}
use Rattle.cp_tree.specs.Syntax.{Tree}
use Rattle.cp_layout.specs.Laid.{plain, laid}
use Rattle.cp_slots.specs.Tables.{Tables}
use Rattle.cp_meaning_laws.specs.Accepted.{IsAccepted, KeepsExclusion}
use Rattle.cp_machine.specs.declared.discipline.Discipline.{Discipline}
use Rattle.cp_run.specs.Table.{Line, table}
use Rattle.cp_machine_laws.specs.Named.{named, named_discipline}
use Rattle.cp_walk.specs.Groups.{Tally}
use Rattle.cp_walk.specs.Report.{same_outcome}
use Rattle.cp_merged.specs.Tallies.{tally}

-- it holds of whatever program was read, is accepted, and has these tables
abbrev pub OfPrograms : Tables → (Tree → Type 0) → Type 0
OfPrograms r P = (t : Tree) → ∥ IsRead t.program ∥₁ → IsAccepted t → plain r ≡ laid t → P t

-- the rows are the table of its meaning
abbrev pub AreMeant : Tables → Discipline → (choices steps : ℕ) → List Line → Type 0
AreMeant r discipline choices steps lines = OfPrograms r (λ t. lines ≡ table (named t (named_discipline discipline)) choices steps)

-- the tallies are those of this table
abbrev pub AreTallied : Tables → Discipline → (choices steps : ℕ) → List Tally → Type 0
AreTallied r discipline choices steps tallies = OfPrograms r (λ t. tallies ≡ tally same_outcome (table (named t (named_discipline discipline)) choices steps))

-- in every state that the program reaches, at most one process is inside each monitor or initialises it
abbrev pub AreExclusive : Tables → Discipline → Type 0
AreExclusive r discipline = OfPrograms r (λ t. KeepsExclusion t (named_discipline discipline))
