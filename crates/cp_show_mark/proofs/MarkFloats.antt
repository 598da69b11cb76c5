-- A mark has no floats.
use Rattle.std.proofs.Common.{◌≡◌, ◌==◌, ◌∷◌, ◌++◌, ℕ, Bool, true, false, List, [], Option, codes, if◌then◌else◌, length, map, refl}
use Rattle.std.specs.List.{list_any, zip}
use Rattle.std.specs.Str.{trim_end}
use Rattle.serde_json.specs.Written.{has_float}
use Rattle.serde_json.specs.Data.{Data}
use Rattle.cp_legend.specs.Names.{Legend}
use Rattle.cp_machine.specs.declared.discipline.Signals.{Signals}
use Rattle.cp_outcomes.proofs.Jsons.{kind_free, signals_free, wait_free}
use Rattle.cp_run.specs.Table.{Line}
use Rattle.cp_run.specs.declared.outcome.OutcomeKind.{OutcomeKind}
use Rattle.cp_run.specs.declared.outcome.OutcomeKind.TheVariants as kind
use Rattle.cp_story.proofs.Floats.{both, is_float_member, no_float-array, no_float-numbers, no_float-object, none_of}
use Rattle.cp_story.specs.Objects.{array_of, object_with, text_data}
use Rattle.cp_story.specs.StoryData.{kind_members, wait_data}
use Rattle.cp_story.specs.Waiting.{Waiting}
use Rattle.cp_verdict.specs.Judged.{row_line}
use Rattle.cp_expectation.specs.Written.{expectation_text}
use Rattle.cp_expectation.specs.declared.expectation.Expectation.{Expectation}
use Rattle.cp_verdict.specs.declared.judging.Judgement.{Judgement}
use Rattle.cp_verdict.specs.declared.judging.Judgement.TheVariants as judgement
use Rattle.cp_verdict.specs.declared.marking.Standing.{Standing}
use Rattle.cp_verdict.specs.declared.program.Marked.{Marked}
use Rattle.cp_verdict.specs.declared.program.Stops.{Stops}
use Rattle.cp_show_mark.specs.MarkData as spec
use Rattle.cp_show_mark.specs.MarkText.{Setting, doubt_told, doubtful_text, mark_name, reason_text, standing_of, waits_in}

final_free : (l : Legend) (ws : List Waiting) → list_any is_float_member (spec.final_members l ws) ≡ false
final_free l [] = refl
final_free l (w ∷ ws) = both (no_float-array (wait_data l) (w ∷ ws) (wait_free l)) refl

pub end_free : (s : Setting) (word : List ℕ) (k : OutcomeKind) → list_any is_float_member (spec.end_members s word k) ≡ false
end_free s word kind.Finished = refl
end_free s word kind.AllWaiting = final_free s.legend (waits_in s word)
end_free s word (kind.RunError name process line) = refl
end_free s word kind.ChoiceLimit = refl
end_free s word kind.StepLimit = refl
end_free s word kind.OutputLimit = refl

row_free : (s : Setting) (l : Line) → list_any is_float_member (spec.row_members s l) ≡ false
row_free s l = both (no_float-numbers l.word) (none_of (kind_members l.outcome.kind) _ (kind_free l.outcome.kind) (both refl (end_free s l.word l.outcome.kind)))

shown_free : (s : Setting) (j : Judgement) → list_any is_float_member (spec.shown_members s j) ≡ false
shown_free s judgement.Holds = refl
shown_free s (judgement.Shown r) = row_free s (row_line r)
shown_free s (judgement.Against r) = row_free s (row_line r)
shown_free s judgement.Missing = refl
shown_free s judgement.Unsettled = refl

said_free : (reason : List ℕ) → list_any is_float_member (spec.said_members reason) ≡ false
said_free reason = by (length reason == 0)
  where
    by : (b : Bool) → list_any is_float_member (if b then [] else (codes "said", text_data (trim_end reason)) ∷ []) ≡ false
    by true = refl
    by false = refl

pub expectation_free : (e : List ℕ) (v : Standing) (reason : List ℕ) → list_any is_float_member (spec.expectation_members e v reason) ≡ false
expectation_free e v reason = both refl (both refl (said_free reason))

judged_free : (s : Setting) (stops : Stops) (p : Expectation × Judgement) → has_float (spec.judged_data s stops p) ≡ false
unfolding spec.judged_data
judged_free s stops p =
    let shown = spec.shown_members s p.1 in
    let reason = reason_text s stops p.0.claim p.1 in
    let e = spec.expectation_members (expectation_text p.0) (standing_of p.1) reason in
    no_float-object (shown ++ e) (none_of shown e (shown_free s p.1) (expectation_free (expectation_text p.0) (standing_of p.1) reason))

pub free_mark : {A : Type 0} (mark : List ℕ) (f : A → Data) (xs : List A) → ((x : A) → has_float (f x) ≡ false) → (stops : Stops) (notes : List (List ℕ)) (by : Signals) → has_float (object_with (spec.mark_members mark (array_of (map f xs)) stops (spec.notes_data notes) by)) ≡ false
free_mark mark f xs free stops notes by =
    no_float-object (spec.mark_members mark (array_of (map f xs)) stops (spec.notes_data notes) by)
    (both refl (both (no_float-array f xs free) (both (no_float-array text_data notes (λ note. refl)) (both refl (both (no_float-array text_data (spec.stop_names stops) (λ name. refl)) (signals_free by))))))

pub mark_free : (s : Setting) (es : List Expectation) (doubtful : Option (List ℕ)) (m : Marked) → has_float (spec.mark_data s es doubtful m) ≡ false
mark_free s es doubtful m = free_mark (mark_name m.mark) (spec.judged_data s m.stops) (zip es m.judgements.items) (judged_free s m.stops) m.stops (spec.note_if (doubtful_text (doubt_told s.program.names doubtful))) s.discipline.signals

pub misread_free : (said : List ℕ) → has_float (spec.misread_data said) ≡ false
misread_free said = no_float-object ((codes "misread", text_data (trim_end said)) ∷ []) refl
