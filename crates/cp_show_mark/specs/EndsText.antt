-- The text that tells a mark by schedules of any length.
use Rattle.std.specs.Prelude.{ℕ, not, Bool, true, false, if◌then◌else◌, List, [], ◌++◌, Option, Some, string_bytes, codes}
use Rattle.cp_ends.specs.declared.end.End.{End}
use Rattle.cp_ends.specs.declared.end.End.TheVariants.{Over}
use Rattle.cp_run.specs.Table.{each}
use Rattle.cp_verdict.specs.declared.endless.saying.Against.{Against}
use Rattle.cp_verdict.specs.declared.endless.saying.Against.TheVariants as against
use Rattle.cp_verdict.specs.declared.endless.saying.MarkedEnds.{MarkedEnds}
use Rattle.cp_verdict.specs.declared.endless.saying.Said.{Said}
use Rattle.cp_verdict.specs.declared.endless.verdict.EndsMark.{EndsMark}
use Rattle.cp_verdict.specs.declared.endless.verdict.EndsMark.TheVariants as of_ends
use Rattle.cp_verdict.specs.declared.marking.Standing.{Standing}
use Rattle.cp_verdict.specs.declared.marking.Standing.TheVariants as mark
use Rattle.cp_show_mark.specs.MarkText.{Setting, end_text, mark_name}

-- ---- an expectation

-- at the end of a schedule that is over: who waits where, or the line of its error
abbrev pub how_text : Setting → (word : List ℕ) → End → List ℕ
how_text s word (Over kind) = end_text s word kind
how_text s word end = []

abbrev pub against_text : Setting → Option Against → List ℕ
against_text s (Some (against.End k)) = how_text s k.word.items k.end
against_text s a = []

-- why it does not hold, or is not settled, and who waits where at the end that is against it
abbrev pub said_reason : Setting → Said → List ℕ
said_reason s x = string_bytes x.reason ++ against_text s x.against

-- the verdict, the expectation as it is written, and why
abbrev pub said_text : Setting → Said → List ℕ
said_text s x = mark_name x.standing ++ codes ": " ++ string_bytes x.expectation ++ codes "\n" ++ said_reason s x

-- it fails, or it is not settled
abbrev pub is_said : (failing : Bool) → Standing → Bool
is_said failing mark.Holds = false
is_said failing mark.Fails = failing
is_said failing mark.Open = not failing

abbrev pub said_if : Setting → (failing : Bool) → Said → List ℕ
said_if s failing x = if is_said failing x.standing then said_text s x else []

abbrev pub those_said : Setting → (failing : Bool) → List Said → List ℕ
those_said s failing all = each (said_if s failing) all

-- ---- the whole

abbrev pub held_text : EndsMark → List ℕ
held_text of_ends.Holds = codes "holds\n"
held_text _ = []

-- `holds`, if all hold; what is said of all; those that fail; those that are not settled; and how the mark was found
abbrev pub ends_text : Setting → MarkedEnds → List ℕ
ends_text s m = held_text m.mark ++ string_bytes m.note ++ those_said s true m.each.items ++ those_said s false m.each.items ++ string_bytes m.last
