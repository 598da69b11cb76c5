-- The names that many proofs of this crate use, from one place.
pub use Rattle.std.proofs.Common.{Bool, List, ap, inl, inr, map, nat_eq, subst, sym, take, true, ℕ, ◌∙◌, ◌≡◌}
pub use Rattle.std.proofs.lemmas.List.{length-map, take_all, take_more}
pub use Rattle.std.specs.Borrow.{Bor}
pub use Rattle.std.specs.List.{list_all}
pub use Rattle.std.specs.Prelude.{All, Contains, None, Option, Some, find, option_map, slice_get, string_bytes}
pub use Rattle.std.specs.declared.alloc.Global.{Global}
pub use Rattle.std.specs.declared.vec.Vec.{Vec}
pub use Rattle.cp_at_once.specs.Holds.{HasWord, IsWordOf}
pub use Rattle.cp_at_once_laws.specs.OnSlots.{by_the_book}
pub use Rattle.cp_endless_laws.specs.Silent.{silent_slots, without_output}
pub use Rattle.cp_ends.specs.Ends.{EndsSo, ShowsSo}
pub use Rattle.cp_ends.specs.Holds.{Holds, SlotFindings}
pub use Rattle.cp_ends.specs.declared.end.End.{End}
pub use Rattle.cp_ends.specs.declared.end.End.TheVariants.{Alone, Over, Spins}
pub use Rattle.cp_ends.specs.declared.found.TheConstants.{MOST_VALUES}
pub use Rattle.cp_meaning_laws.specs.Accepted.{IsAccepted}
pub use Rattle.cp_layout.specs.Laid.{plain}
unfoldable pub use Rattle.cp_layout.specs.Laid.{laid}
pub use Rattle.cp_machine.specs.System.{Machine}
pub use Rattle.cp_machine.specs.declared.discipline.Discipline.{Discipline}
pub use Rattle.cp_machine.specs.declared.shown.Shown.{Shown}
pub use Rattle.cp_run.specs.Slots.{slots}
pub use Rattle.cp_run.specs.declared.outcome.OutcomeKind.TheVariants.{StepLimit}
pub use Rattle.cp_slots.specs.Tables.{Tables}
pub use Rattle.cp_tree.specs.Read.{IsRead}
pub use Rattle.cp_tree.specs.Syntax.{Tree}
pub use Rattle.cp_waits.specs.declared.waiting.Waiting.{Waiting}
pub use Rattle.cp_walk.specs.Text.{Spellings}
pub use lib.Pointwise.{pointwise}
pub use Rattle.cp_verdict.specs.endless.AtOnce.{IsKnownAtOnce}
pub use Rattle.cp_verdict.specs.endless.Behaviour.{Finding, on_slots}
pub use Rattle.cp_verdict.specs.endless.Expectations.{asks_some, is_cut}
pub use Rattle.cp_verdict.specs.endless.Judged.{IsJudgedBy, judgement_of}
pub use Rattle.cp_verdict.specs.endless.Knowledge.{HasTexts, IsKnown, end_pair, finding_of, is_kept, is_settled, is_whole, value_pair}
pub use Rattle.cp_verdict.specs.endless.Naming.{Names, Processes}
pub use Rattle.cp_expectation.specs.declared.expectation.Expectation.{Expectation}
pub use Rattle.cp_verdict.specs.declared.endless.judging.EndsJudgement.{EndsJudgement}
pub use Rattle.cp_verdict.specs.declared.endless.known.KnownEnd.{KnownEnd}
pub use Rattle.cp_verdict.specs.declared.endless.known.KnownEnds.{KnownEnds}
pub use Rattle.cp_verdict.specs.declared.endless.known.KnownValue.{KnownValue}
pub use Rattle.cp_verdict.specs.declared.endless.known.Witness.{Witness}
pub use Rattle.cp_verdict.specs.declared.endless.verdict.EndsVerdict.{EndsVerdict}
