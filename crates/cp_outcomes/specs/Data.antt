-- The outcomes that were found, as one object of JSON.
use Rattle.std.specs.Prelude.{ℕ, ◌+◌, ◌^◌, ◌==◌, nat_lt, List, [], ◌∷◌, ◌++◌, map, length, Option, None, Some, codes, if◌then◌else◌}
use Rattle.serde_json.specs.Data.{Data, boolean}
use Rattle.cp_legend.specs.Names.{Legend}
use Rattle.cp_natural.specs.Decimal.{number_text}
use Rattle.cp_run.specs.declared.outcome.OutcomeKind.{OutcomeKind}
use Rattle.cp_run.specs.declared.outcome.OutcomeKind.TheVariants.{AllWaiting, RunError}
use Rattle.cp_run.specs.Table.{Line}
use Rattle.cp_walk.specs.Groups.{Tally}
use Rattle.cp_walk.specs.Text.{kind_text}
use Rattle.cp_merged.specs.Told.{rows_in}
use Rattle.cp_simplest.specs.declared.finding.SimplestSchedule.{SimplestSchedule}
use Rattle.cp_story.specs.CauseText.{error_cause_members}
use Rattle.cp_story.specs.Ends.{output_text}
use Rattle.cp_story.specs.Objects.{Member, array_of, number_data, numbers_data, object_with, text_data}
use Rattle.cp_story.specs.ReasonText.{why_members}
use Rattle.cp_story.specs.StoryData.{kind_members, monitors_data, processes_data, signals_members, violation_members, waits_data}
use Rattle.cp_outcomes.specs.Shares.{share_in, share_text}
use Rattle.cp_outcomes.specs.Stops.{kind_at, rows_at, stops}
use Rattle.cp_outcomes.specs.Told.{Setting, Told, cause_after, reasons_after, source_line, violation_after, waits_after}
use Rattle.cp_outcomes.specs.declared.stopped.Limit.{Limit}
use Rattle.cp_outcomes.specs.declared.subject.Excess.{Excess}
use Rattle.cp_outcomes.specs.declared.subject.Excess.TheVariants.{States, Outcomes}

-- a count as a number, or as its digits where it has more than 64 bits
unfoldable pub count_data : ℕ → Data
count_data n = if nat_lt n (2 ^ 64) then number_data n else text_data (number_text n)

-- ---- an outcome

-- the simplest schedule, and how many switches it has
abbrev pub simple_members : Option SimplestSchedule → List Member
simple_members None = []
simple_members (Some s) = (codes "simplest", numbers_data s.word.items) ∷ (codes "switches", number_data s.switches) ∷ []

-- after a schedule that ended so: where all wait, who waits where, and why; of a run error the line, and what it is of if that is known
abbrev pub end_members : Setting → (word : List ℕ) → OutcomeKind → List Member
end_members s word AllWaiting = (codes "final", waits_data s.legend (waits_after s word)) ∷ why_members s.legend (reasons_after s word)
end_members s word (RunError name process line) = (codes "text", text_data (source_line s.source line)) ∷ error_cause_members s.legend (cause_after s word) ++ violation_members s.legend (violation_after s word)
end_members s word _ = []

-- how the runs of it ended, what they displayed, and the first schedule
abbrev pub outcome_members : Legend → Line → List Member
outcome_members l first = kind_members first.outcome.kind ++ (codes "output", text_data (output_text l first.outcome.output)) ∷ (codes "first", numbers_data first.word) ∷ []

-- how many schedules have it
abbrev pub count_members : (count whole : ℕ) → List Member
count_members count whole = (codes "share", text_data (share_text (share_in count whole))) ∷ (codes "count", count_data count) ∷ []

unfoldable pub told_data : Setting → (whole number : ℕ) → Told → Data
told_data s whole number t =
    object_with ((codes "number", number_data number) ∷ count_members t.tally.count whole ++ outcome_members s.legend t.tally.first ++ simple_members t.simple ++ end_members s t.tally.first.word t.tally.first.outcome.kind)

-- with numbers from this one on
abbrev pub numbered_data : Setting → (whole number : ℕ) → List Told → List Data
numbered_data s whole number [] = []
numbered_data s whole number (t ∷ ts) = told_data s whole number t ∷ numbered_data s whole (number + 1) ts

-- ---- all of it

-- how many schedules ended at a limit
abbrev pub stop_data : (count : ℕ) → Limit → Data
stop_data count limit = object_with ((codes "kind", text_data (kind_text (kind_at limit))) ∷ (codes "count", count_data count) ∷ [])

-- the limits at which schedules ended
abbrev pub stops_data : List Tally → List Data
stops_data ts = map (λ l. stop_data (rows_at l ts) l) (stops ts)

-- whether no limit stopped a schedule, and which did
abbrev pub limit_members : List Tally → List Member
limit_members ts = (codes "complete", boolean (length (stops_data ts) == 0)) ∷ (codes "limits", array_of (stops_data ts)) ∷ []

-- the processes and the monitors; how many schedules there are; the outcomes, told so; the limits; and the discipline
abbrev pub all_members : Setting → List Tally → List Told → List Member
all_members s ts told = (codes "processes", processes_data s.legend) ∷ (codes "monitors", monitors_data s.legend) ∷ (codes "schedules", count_data (rows_in ts)) ∷ (codes "outcomes", array_of (numbered_data s (rows_in ts) 1 told)) ∷ limit_members ts ++ signals_members s.discipline.signals

abbrev pub outcomes_data : Setting → List Tally → List Told → Data
outcomes_data s ts told = object_with (all_members s ts told)

-- ---- too much

-- what there is too much of
abbrev pub excess_members : Excess → List ℕ
excess_members (States most) = codes "\"states\":" ++ number_text most ++ codes ",\"too_many\":\"states\""
excess_members Outcomes = codes "\"too_many\":\"outcomes\""

abbrev pub excess_json : Excess → List ℕ
excess_json excess = codes "{" ++ excess_members excess ++ codes "}"

-- the same, with the object of the outcomes of all schedules of fewer choices
abbrev pub known_json : Excess → (choices : ℕ) → (known : List ℕ) → List ℕ
known_json excess choices known = codes "{\"choices\":" ++ number_text choices ++ codes "," ++ excess_members excess ++ (codes ",\"known\":" ++ known ++ codes "}")
