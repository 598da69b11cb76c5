-- What an answer tells, and its exit code.
use Rattle.std.specs.Prelude.{◌≡◌, ◌⊎◌, ℕ, List, false}
use Rattle.cp_tree.specs.Syntax.{Tree}
use Rattle.cp_walk.specs.Text.{Spellings}
use Rattle.cp_run.specs.Slots.{slots}
use Rattle.cp_run.specs.Table.{Line, table}
use Rattle.cp_slots.specs.Tables.{Tables}
use Rattle.cp_resolved.specs.Enumerations.{constant_names}
use Rattle.cp_machine.specs.declared.discipline.Discipline.{Discipline}
use Rattle.cp_machine_laws.specs.Named.{named, named_discipline}
use Rattle.cp_endless_laws.specs.Silent.{waits_on_names, waits_on_slots}
use Rattle.cp_verdict.specs.endless.AtOnce.{IsEndsMark, IsMarkAtOnce}
use Rattle.cp_verdict.specs.endless.Naming.{Processes}
use Rattle.cp_verdict.specs.declared.endless.verdict.EndsMark as ends_mark
use Rattle.cp_verdict.specs.declared.endless.verdict.EndsMark.TheVariants as of_ends
use Rattle.cp_verdict.specs.Marked.{IsMarkOf, IsMarked}
use Rattle.cp_verdict.specs.Meant.{IsMeantMark}
use Rattle.cp_verdict.specs.waiting.Asking.{name_who}
use Rattle.cp_verdict.specs.waiting.Marked as who_in_rows
use Rattle.cp_verdict.specs.waiting.Meant as who_meant
use Rattle.cp_verdict.specs.waiting.Who.{who_at}
use Rattle.cp_expectation.specs.declared.expectation.Expectation.{Expectation}
use Rattle.cp_verdict.specs.declared.marking.Standing.{Standing}
use Rattle.cp_verdict.specs.declared.marking.Standing.TheVariants as mark
use Rattle.cp_verdict.specs.declared.program.Marked.{Marked}
pub use Rattle.cp_show_mark.specs.declared.answer.ShowVerdict.{ShowVerdict}
use Rattle.cp_show_mark.specs.declared.answer.ShowVerdict.TheVariants.{Reported, Refused, TooMany, Misread, Fails, Open}

abbrev pub code_of : ShowVerdict → ℕ
code_of Reported = 0
code_of Refused = 1
code_of Misread = 2
code_of TooMany = 5
code_of Fails = 6
code_of Open = 7

abbrev pub verdict_of : Standing → ShowVerdict
verdict_of mark.Holds = Reported
verdict_of mark.Fails = Fails
verdict_of mark.Open = Open

-- ---- by a table

-- by the rows and who waits at their ends; where nobody is named, by the outcomes of the rows alone
abbrev pub IsMarkBy : Spellings → Processes → (who : List ℕ → List ℕ) → List Expectation → List Line → Standing → Type 0
IsMarkBy names ps who es lines m = who_in_rows.IsMarkOf names ps who es lines m × (name_who es ≡ false → IsMarkOf names es lines m)

-- There are too many rows, states or outcomes; or the mark of a program whose table has these rows is told.
abbrev pub TellsMark : Spellings → Processes → (who : List ℕ → List ℕ) → List Expectation → List Line → ShowVerdict → Type 0
TellsMark names ps who es lines verdict = (verdict ≡ TooMany) ⊎ ((m : Standing) × (verdict ≡ verdict_of m) × IsMarkBy names ps who es lines m)

-- by the table of the slot machine
abbrev pub TellsSlotMark : Tables → Processes → Discipline → (choices steps : ℕ) → List Expectation → ShowVerdict → Type 0
TellsSlotMark r ps discipline choices steps es verdict = TellsMark r.names ps (who_at (slots r discipline) waits_on_slots choices steps) es (table (slots r discipline) choices steps) verdict

-- by the table of the meaning of a program
abbrev pub TellsNamedMark : Tree → Processes → Discipline → (choices steps : ℕ) → List Expectation → ShowVerdict → Type 0
TellsNamedMark t ps discipline choices steps es verdict =
    TellsMark (constant_names t.program) ps (who_at (named t (named_discipline discipline)) waits_on_names choices steps) es (table (named t (named_discipline discipline)) choices steps) verdict

-- each expectation is judged, and all are marked
abbrev pub IsSlotMark : Tables → Processes → Discipline → (choices steps : ℕ) → List Expectation → Marked → Type 0
IsSlotMark r ps discipline choices steps es m = who_meant.IsSlotMark r ps discipline choices steps es m × (name_who es ≡ false → IsMarked r.names es (table (slots r discipline) choices steps) m)

-- the same by the table of the meaning, of whatever program was read, is accepted, and has these tables
abbrev pub IsNamedMark : Tables → Processes → Discipline → (choices steps : ℕ) → List Expectation → Marked → Type 0
IsNamedMark r ps discipline choices steps es m = who_meant.IsMeantMark r ps discipline choices steps es m × (name_who es ≡ false → IsMeantMark r discipline choices steps es m)

-- ---- by schedules of any length

abbrev pub ends_verdict_of : ends_mark.EndsMark → ShowVerdict
ends_verdict_of of_ends.Holds = Reported
ends_verdict_of of_ends.Fails = Fails
ends_verdict_of of_ends.Open = Open
ends_verdict_of of_ends.TooMany = TooMany

-- the mark by all states or, where there are too many and nobody is named, with kernel calls at once is told
abbrev pub TellsEndsMark : Tables → Processes → Discipline → (steps most : ℕ) → List Expectation → ShowVerdict → Type 0
TellsEndsMark r ps discipline steps most es verdict = (m : ends_mark.EndsMark) × (verdict ≡ ends_verdict_of m) × IsEndsMark r ps discipline steps most es m

-- the mark with kernel calls at once from the first is told
abbrev pub TellsMarkAtOnce : Tables → Processes → (steps most : ℕ) → List Expectation → ShowVerdict → Type 0
TellsMarkAtOnce r ps steps most es verdict = (m : ends_mark.EndsMark) × (verdict ≡ ends_verdict_of m) × IsMarkAtOnce r ps steps most es m
