-- A mark as one object of JSON.
use Rattle.std.specs.Prelude.{ℕ, not, ◌==◌, if◌then◌else◌, List, [], ◌∷◌, ◌++◌, length, map, Option, Some, None, codes}
use Rattle.std.specs.List.{zip}
use Rattle.std.specs.Str.{trim_end}
use Rattle.serde_json.specs.Data.{Data, boolean}
use Rattle.cp_legend.specs.Names.{Legend}
use Rattle.cp_machine.specs.declared.discipline.Signals.{Signals}
use Rattle.cp_outcomes.specs.Data as outcomes
use Rattle.cp_outcomes.specs.declared.subject.Excess.{Excess}
use Rattle.cp_outcomes.specs.declared.subject.Excess.TheVariants as of_outcomes
use Rattle.cp_run.specs.Table.{Line}
use Rattle.cp_run.specs.declared.outcome.OutcomeKind.{OutcomeKind}
use Rattle.cp_run.specs.declared.outcome.OutcomeKind.TheVariants.{AllWaiting, RunError}
use Rattle.cp_story.specs.Ends.{output_text}
use Rattle.cp_story.specs.Objects.{Member, array_of, numbers_data, object_with, text_data}
use Rattle.cp_story.specs.StoryData.{kind_members, signals_members, waits_data}
use Rattle.cp_story.specs.Waiting.{Waiting}
use Rattle.cp_verdict.specs.Judged.{row_line}
use Rattle.cp_expectation.specs.Written.{expectation_text}
use Rattle.cp_verdict.specs.Written.{is_stopped, named_if}
use Rattle.cp_expectation.specs.declared.expectation.Expectation.{Expectation}
use Rattle.cp_verdict.specs.declared.judging.Judgement.{Judgement}
use Rattle.cp_verdict.specs.declared.judging.Judgement.TheVariants as judgement
use Rattle.cp_verdict.specs.declared.marking.Standing.{Standing}
use Rattle.cp_verdict.specs.declared.program.Marked.{Marked}
use Rattle.cp_verdict.specs.declared.program.Stops.{Stops}
use Rattle.cp_show_mark.specs.MarkText.{Setting, doubt_told, doubtful_text, line_text, mark_name, reason_text, standing_of, waits_in}
use Rattle.cp_show_mark.specs.declared.excess.MarkExcess.{MarkExcess}
use Rattle.cp_show_mark.specs.declared.excess.MarkExcess.TheVariants.{States, Outcomes}

-- ---- an expectation

-- who waits where, if that is told
abbrev pub final_members : Legend → List Waiting → List Member
final_members l [] = []
final_members l (w ∷ ws) = (codes "final", waits_data l (w ∷ ws)) ∷ []

-- at the end of a schedule: where all wait, who waits and where; of a run error, the text of its line
abbrev pub end_members : Setting → (word : List ℕ) → OutcomeKind → List Member
end_members s word AllWaiting = final_members s.legend (waits_in s word)
end_members s word (RunError name process line) = (codes "text", text_data (line_text s.source line)) ∷ []
end_members s word _ = []

-- why, unless there is nothing to say
abbrev pub said_members : (reason : List ℕ) → List Member
said_members reason = if length reason == 0 then [] else (codes "said", text_data (trim_end reason)) ∷ []

-- as it is written, its verdict, and why it does not hold or is not settled
abbrev pub expectation_members : (expectation : List ℕ) → Standing → (reason : List ℕ) → List Member
expectation_members expectation standing reason = (codes "expectation", text_data expectation) ∷ (codes "verdict", text_data (mark_name standing)) ∷ said_members reason

-- ---- an expectation with its judgement

-- a schedule with its outcome, and its end
abbrev pub row_members : Setting → Line → List Member
row_members s l = (codes "first", numbers_data l.word) ∷ kind_members l.outcome.kind ++ (codes "output", text_data (output_text s.legend l.outcome.output)) ∷ end_members s l.word l.outcome.kind

-- the schedule that shows an expectation, or that is against it
abbrev pub shown_members : Setting → Judgement → List Member
shown_members s (judgement.Shown r) = row_members s (row_line r)
shown_members s (judgement.Against r) = row_members s (row_line r)
shown_members s _ = []

unfoldable pub judged_data : Setting → Stops → Expectation × Judgement → Data
judged_data s stops p = object_with (shown_members s p.1 ++ expectation_members (expectation_text p.0) (standing_of p.1) (reason_text s stops p.0.claim p.1))

-- ---- the whole

-- the limits that were met, by the names of a report
abbrev pub stop_names : Stops → List (List ℕ)
stop_names s = named_if s.choices (codes "choice-limit") ++ named_if s.steps (codes "step-limit") ++ named_if s.output (codes "output-limit")

abbrev pub note_if : List ℕ → List (List ℕ)
note_if text = if length text == 0 then [] else trim_end text ∷ []

abbrev pub notes_data : List (List ℕ) → Data
notes_data notes = array_of (map text_data notes)

-- whether no limit was met, and which were; and the discipline
abbrev pub limit_members : Stops → Signals → List Member
limit_members stops by = (codes "complete", boolean (not (is_stopped stops))) ∷ (codes "limits", array_of (map text_data (stop_names stops))) ∷ signals_members by

-- the mark, the expectations, what is said of all, and the limits
abbrev pub mark_members : (mark : List ℕ) → (expectations : Data) → Stops → (notes : Data) → Signals → List Member
mark_members mark expectations stops notes by = (codes "verdict", text_data mark) ∷ (codes "expectations", expectations) ∷ (codes "notes", notes) ∷ limit_members stops by

abbrev pub mark_data : Setting → List Expectation → (doubtful : Option (List ℕ)) → Marked → Data
mark_data s es doubtful m =
    object_with
    (mark_members (mark_name m.mark) (array_of (map (judged_data s m.stops) (zip es m.judgements.items))) m.stops (notes_data (note_if (doubtful_text (doubt_told s.program.names doubtful)))) s.discipline.signals)

-- that there is no expectation, or why it is none
abbrev pub misread_data : (said : List ℕ) → Data
misread_data said = object_with ((codes "misread", text_data (trim_end said)) ∷ [])

-- ---- where there is too much

abbrev pub excess_of : (states : ℕ) → MarkExcess → Excess
excess_of states States = of_outcomes.States states
excess_of states Outcomes = of_outcomes.Outcomes

-- as `./show outcomes` tells it, with the object of what is known by fewer choices
abbrev pub excess_json : (states : ℕ) → MarkExcess → Option (ℕ × List ℕ) → List ℕ
excess_json states e None = outcomes.excess_json (excess_of states e)
excess_json states e (Some k) = outcomes.known_json (excess_of states e) k.0 k.1
