-- A mark by schedules of any length has no floats.
use Rattle.std.proofs.Common.{◌≡◌, ◌++◌, ℕ, false, List, Option, None, Some, refl, string_bytes}
use Rattle.std.specs.List.{list_any}
use Rattle.serde_json.specs.Written.{has_float}
use Rattle.cp_ends.specs.declared.end.End.{End}
use Rattle.cp_ends.specs.declared.end.End.TheVariants.{Over, Alone, Spins}
use Rattle.cp_outcomes.proofs.Jsons.{kind_free}
use Rattle.cp_story.proofs.Floats.{both, is_float_member, no_float-numbers, no_float-object, none_of}
use Rattle.cp_story.specs.StoryData.{kind_members}
use Rattle.cp_verdict.specs.declared.endless.saying.Against.{Against}
use Rattle.cp_verdict.specs.declared.endless.saying.Against.TheVariants as against
use Rattle.cp_verdict.specs.declared.endless.saying.MarkedEnds.{MarkedEnds}
use Rattle.cp_verdict.specs.declared.endless.saying.Said.{Said}
use Rattle.cp_show_mark.specs.EndsData as spec
use Rattle.cp_show_mark.specs.EndsText.{said_reason}
use Rattle.cp_show_mark.specs.MarkData.{end_members, expectation_members}
use Rattle.cp_show_mark.specs.MarkText.{Setting}
use Rattle.cp_show_mark.proofs.MarkFloats.{end_free, expectation_free, free_mark}

how_free : (s : Setting) (word : List ℕ) (end : End) → list_any is_float_member (spec.how_members s word end) ≡ false
how_free s word (Over kind) = none_of (kind_members kind) (end_members s word kind) (kind_free kind) (end_free s word kind)
how_free s word (Alone process) = refl
how_free s word (Spins process) = refl

against_free : (s : Setting) (a : Option Against) → list_any is_float_member (spec.against_members s a) ≡ false
against_free s None = refl
against_free s (Some (against.End k)) = both (no_float-numbers k.word.items) (how_free s k.word.items k.end)
against_free s (Some (against.Value word)) = both (no_float-numbers word.items) refl
against_free s (Some (against.Round process first again)) = both (no_float-numbers first.items) (both (no_float-numbers again.items) refl)

said_free : (s : Setting) (x : Said) → has_float (spec.said_data s x) ≡ false
unfolding spec.said_data
said_free s x =
    let a = spec.against_members s x.against in
    let e = expectation_members (string_bytes x.expectation) x.standing (said_reason s x) in
    no_float-object (a ++ e) (none_of a e (against_free s x.against) (expectation_free (string_bytes x.expectation) x.standing (said_reason s x)))

pub ends_free : (s : Setting) (m : MarkedEnds) → has_float (spec.ends_data s m) ≡ false
ends_free s m = free_mark (spec.ends_mark_name m.mark) (spec.said_data s) m.each.items (said_free s) m.stops (spec.notes_of m) s.discipline.signals
