-- What a mark is in the terms of the program's own names, where expectations may name who waits at an end.
use Rattle.std.specs.Prelude.{◌≡◌, ℕ, List}
use Rattle.cp_tree.specs.Read.{IsRead}
use Rattle.cp_tree.specs.Syntax.{Tree}
use Rattle.cp_layout.specs.Laid.{plain, laid}
use Rattle.cp_slots.specs.Tables.{Tables}
use Rattle.cp_meaning_laws.specs.Accepted.{IsAccepted}
use Rattle.cp_machine.specs.declared.discipline.Discipline.{Discipline}
use Rattle.cp_meaning.specs.State as meaning
use Rattle.cp_run.specs.Slots.{slots}
use Rattle.cp_run.specs.Table.{table}
use Rattle.cp_machine_laws.specs.Named.{named, named_discipline}
use Rattle.cp_endless_laws.specs.Silent.{waits_on_names, waits_on_slots}
use Rattle.cp_expectation.specs.declared.expectation.Expectation.{Expectation}
use Rattle.cp_verdict.specs.endless.Naming.{Processes}
use Rattle.cp_verdict.specs.waiting.Marked.{IsMarked}
use Rattle.cp_verdict.specs.waiting.Who.{who_at}
use Rattle.cp_verdict.specs.declared.program.Marked.{Marked}

-- by the table of the slot machine, and who waits at the ends of its rows
abbrev pub IsSlotMark : Tables → Processes → Discipline → (choices steps : ℕ) → List Expectation → Marked → Type 0
IsSlotMark r ps discipline choices steps es m = IsMarked r.names ps (who_at (slots r discipline) waits_on_slots choices steps) es (table (slots r discipline) choices steps) m

-- by the table of the meaning of a program
abbrev pub IsNamedMark : Tree → Tables → Processes → meaning.Discipline → (choices steps : ℕ) → List Expectation → Marked → Type 0
IsNamedMark t r ps g choices steps es m = IsMarked r.names ps (who_at (named t g) waits_on_names choices steps) es (table (named t g) choices steps) m

-- of whatever program was read, is accepted, and has these tables: each expectation is judged and marked by the table of its meaning
abbrev pub IsMeantMark : Tables → Processes → Discipline → (choices steps : ℕ) → List Expectation → Marked → Type 0
IsMeantMark r ps discipline choices steps es m = (t : Tree) → ∥ IsRead t.program ∥₁ → IsAccepted t → plain r ≡ laid t → IsNamedMark t r ps (named_discipline discipline) choices steps es m
