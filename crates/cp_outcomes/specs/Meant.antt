-- What is found, in the terms of the program's own names.
use Rattle.std.specs.Prelude.{◌≡◌, ℕ, List, map, Contains, IfSome}
use Rattle.cp_tree.specs.Read.{IsRead}
use Rattle.cp_tree.specs.Syntax.{Tree}
use Rattle.cp_layout.specs.Laid.{plain, laid}
use Rattle.cp_slots.specs.Tables.{Tables}
use Rattle.cp_meaning_laws.specs.Accepted.{IsAccepted}
use Rattle.cp_machine.specs.declared.discipline.Discipline.{Discipline}
use Rattle.cp_run.specs.Table.{Line, table}
use Rattle.cp_walk.specs.Report.{same_outcome}
use Rattle.cp_merged.specs.Code.{tally_of}
use Rattle.cp_merged.specs.Tallies.{tally}
use Rattle.cp_merged.specs.TooMany.{MoreThan}
use Rattle.cp_machine_laws.specs.Named.{named, named_discipline}
use Rattle.cp_outcomes.specs.declared.subject.Excess.{Excess}
use Rattle.cp_outcomes.specs.declared.subject.Excess.TheVariants.{States, Outcomes}
use Rattle.cp_outcomes.specs.declared.telling.Finding.{Finding}
use Rattle.cp_outcomes.specs.declared.telling.Finding.TheVariants.{Whole, TooMany}

-- there is too much of it in these rows; how many states lead to them is said of the slot machine alone
abbrev pub IsExcessIn : List Line → Excess → Type 0
IsExcessIn lines (States most) = Unit {0}
IsExcessIn lines Outcomes = MoreThan 50000 (λ o. (l : Line) × Contains lines l × (l.outcome ≡ o))

-- what is found of a table, whose rows with so many choices are these
abbrev pub IsFoundIn : (ℕ → List Line) → ℕ → Finding → Type 0
IsFoundIn rows choices (Whole tallies) = map tally_of tallies ≡ tally same_outcome (rows choices)
IsFoundIn rows choices (TooMany excess known) = IsExcessIn (rows choices) excess × IfSome known (λ k. map tally_of k.tallies ≡ tally same_outcome (rows k.choices))

-- of whatever program was read, is accepted, and has these tables: it is found in the table of its meaning
abbrev pub IsMeantFinding : Tables → Discipline → (choices steps : ℕ) → Finding → Type 0
IsMeantFinding r discipline choices steps f = (t : Tree) → ∥ IsRead t.program ∥₁ → IsAccepted t → plain r ≡ laid t → IsFoundIn (λ k. table (named t (named_discipline discipline)) k steps) choices f
