-- A mark by schedules of any length as one object of JSON.
use Rattle.std.specs.Prelude.{ℕ, List, [], ◌∷◌, ◌++◌, map, Option, Some, string_bytes, codes}
use Rattle.serde_json.specs.Data.{Data}
use Rattle.cp_ends.specs.declared.end.End.{End}
use Rattle.cp_ends.specs.declared.end.End.TheVariants.{Over, Alone, Spins}
use Rattle.cp_story.specs.Objects.{Member, array_of, number_data, numbers_data, object_with, text_data}
use Rattle.cp_story.specs.StoryData.{kind_members}
use Rattle.cp_verdict.specs.declared.endless.saying.Against.{Against}
use Rattle.cp_verdict.specs.declared.endless.saying.Against.TheVariants as against
use Rattle.cp_verdict.specs.declared.endless.saying.MarkedEnds.{MarkedEnds}
use Rattle.cp_verdict.specs.declared.endless.saying.Said.{Said}
use Rattle.cp_verdict.specs.declared.endless.verdict.EndsMark.{EndsMark}
use Rattle.cp_verdict.specs.declared.endless.verdict.EndsMark.TheVariants as of_ends
use Rattle.cp_verdict.specs.declared.marking.Standing.TheVariants as mark
use Rattle.cp_show_mark.specs.EndsText.{said_reason}
use Rattle.cp_show_mark.specs.MarkData.{end_members, expectation_members, mark_members, note_if, notes_data}
use Rattle.cp_show_mark.specs.MarkText.{Setting, mark_name}

-- ---- an expectation

-- who goes on for ever, and how
abbrev pub process_members : (kind : List ℕ) → (process : ℕ) → List Member
process_members kind process = (codes "kind", text_data kind) ∷ (codes "process", number_data process) ∷ []

-- how a schedule ends, and who waits where then
abbrev pub how_members : Setting → (word : List ℕ) → End → List Member
how_members s word (Over kind) = kind_members kind ++ end_members s word kind
how_members s word (Alone process) = process_members (codes "alone") process
how_members s word (Spins process) = process_members (codes "spins") process

-- the schedule that is against it: how it ends; that it displays a value; or which round a process waits in for ever
abbrev pub against_members : Setting → Option Against → List Member
against_members s (Some (against.End k)) = (codes "first", numbers_data k.word.items) ∷ how_members s k.word.items k.end
against_members s (Some (against.Value word)) = (codes "first", numbers_data word.items) ∷ []
against_members s (Some (against.Round process first again)) = (codes "first", numbers_data first.items) ∷ (codes "again", numbers_data again.items) ∷ (codes "process", number_data process) ∷ []
against_members s a = []

unfoldable pub said_data : Setting → Said → Data
said_data s x = object_with (against_members s x.against ++ expectation_members (string_bytes x.expectation) x.standing (said_reason s x))

-- ---- the whole

abbrev pub ends_mark_name : EndsMark → List ℕ
ends_mark_name of_ends.Holds = mark_name mark.Holds
ends_mark_name of_ends.Fails = mark_name mark.Fails
ends_mark_name of_ends.Open = mark_name mark.Open
ends_mark_name of_ends.TooMany = codes "too many states"

-- what is said of all, and how the mark was found, if anything is
abbrev pub notes_of : MarkedEnds → List (List ℕ)
notes_of m = note_if (string_bytes m.note) ++ note_if (string_bytes m.last)

abbrev pub ends_data : Setting → MarkedEnds → Data
ends_data s m = object_with (mark_members (ends_mark_name m.mark) (array_of (map (said_data s) m.each.items)) m.stops (notes_data (notes_of m)) s.discipline.signals)
