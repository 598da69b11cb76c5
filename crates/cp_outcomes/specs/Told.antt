-- What is told of the outcomes that were found.
use Rattle.std.specs.Prelude.{◌≡◌, ℕ, ◌-◌, List, [], ◌∷◌, ◌++◌, Bool, true, false, not, ◌||◌, map, length, take, drop, Option, IfSome, option_copied, slice_index_or, decimal, codes, string_bytes, if◌then◌else◌}
use Rattle.std.specs.Char.{is_ascii_whitespace}
use Rattle.std.specs.List.{filter, prefix_len, suffix_len, AllByRecursion}
use Rattle.std.specs.Option.{option_to_list}
use Rattle.cp_slots.specs.Tables.{Tables}
use Rattle.cp_legend.specs.Names.{Legend, legend_seen}
use Rattle.cp_machine.specs.declared.discipline.Discipline.{Discipline}
use Rattle.cp_run.specs.Slots.{slots}
use Rattle.cp_run.specs.declared.outcome.OutcomeKind.{OutcomeKind}
use Rattle.cp_run.specs.declared.outcome.OutcomeKind.TheVariants.{AllWaiting, RunError}
use Rattle.cp_walk.specs.Groups.{Tally}
use Rattle.cp_merged.specs.Code.{tally_of}
use Rattle.cp_simplest.specs.Simple.{IsScheduleOf}
use Rattle.cp_simplest.specs.declared.finding.SimplestSchedule.{SimplestSchedule}
use Rattle.cp_story.specs.Causes.{cause_of_run}
use Rattle.cp_story.specs.AnnotationText.{detail_line}
use Rattle.cp_story.specs.Annotations.{Violated, violation_of_run}
use Rattle.cp_story.specs.ReasonText.{reason_text}
use Rattle.cp_story.specs.Reasons.{Reason, reasons_of_run}
use Rattle.cp_story.specs.Sentences.{process_text, wait_text}
use Rattle.cp_story.specs.Waiting.{Waiting, who_waits}
use Rattle.cp_story.specs.declared.cause.Cause.{Cause}
use Rattle.cp_outcomes.specs.Stops.{is_at}
use Rattle.cp_outcomes.specs.declared.stopped.Limit.TheVariants.{Choices, Steps, Output}
use Rattle.cp_outcomes.specs.declared.subject.Subject.{Subject}
use Rattle.cp_outcomes.specs.declared.told.ToldOutcome.{ToldOutcome}

-- whose outcomes these are: the program and its names, the limits, how many states a layer may have, and the lines of the source
pub record Setting : Type 0 where
  pub program : Tables
  pub legend : Legend
  pub discipline : Discipline
  pub choices : ℕ
  pub steps : ℕ
  pub states : ℕ
  pub source : List (List ℕ)

-- with so many choices
abbrev pub setting_of : Subject → ℕ → Setting
setting_of s choices = record { program = s.program.now; legend = legend_seen s.legend.now; discipline = s.limits.discipline; choices = choices; steps = s.limits.steps; states = s.states; source = map string_bytes s.source.now }

-- an outcome with its count and first schedule, and its simplest schedule where one is told
pub record Told : Type 0 where
  pub tally : Tally
  pub simple : Option SimplestSchedule

abbrev pub told_of : ToldOutcome → Told
told_of o = record { tally = tally_of o.tally.now; simple = option_copied o.simple }

-- whether a limit stopped its runs
abbrev pub is_cut : OutcomeKind → Bool
is_cut kind = is_at Choices kind || (is_at Steps kind || is_at Output kind)

-- whether it is one of those, or of the others
abbrev pub is_of : (cut : Bool) → Tally → Bool
is_of cut t = if cut then is_cut t.first.outcome.kind else not (is_cut t.first.outcome.kind)

-- the order in which outcomes are told: first those of runs that ended, then those of runs that a limit stopped
abbrev pub in_order : List Tally → List Tally
in_order ts = filter (is_of false) ts ++ filter (is_of true) ts

-- ---- the end of an outcome

abbrev pub without_space_before : List ℕ → List ℕ
without_space_before text = drop (prefix_len is_ascii_whitespace text) text

abbrev pub without_space_behind : List ℕ → List ℕ
without_space_behind text = take (length text - suffix_len is_ascii_whitespace text) text

-- the text of a line, counted from 1, without the white space around it
unfoldable pub source_line : List (List ℕ) → (line : ℕ) → List ℕ
source_line source line = without_space_behind (without_space_before (slice_index_or source (line - 1) []))

-- the process in error by its number and its name, and the line of the source
abbrev pub error_text : Setting → (process line : ℕ) → List ℕ
error_text s process line = process_text s.legend process ++ codes " at line " ++ decimal line ++ codes ": " ++ source_line s.source line

-- who waits where at the end of a schedule
abbrev pub waits_after : Setting → (word : List ℕ) → List Waiting
waits_after s word = who_waits s.legend s.program s.discipline s.choices s.steps word

-- what the error of a schedule is of, if that is known
abbrev pub cause_after : Setting → (word : List ℕ) → Option Cause
cause_after s word = cause_of_run s.program s.discipline s.choices s.steps word

-- the annotation that is false with which a schedule ends
abbrev pub violation_after : Setting → (word : List ℕ) → Option Violated
violation_after s word = violation_of_run s.legend s.program s.discipline s.choices s.steps word

-- why nobody goes on after it
abbrev pub reasons_after : Setting → (word : List ℕ) → List Reason
reasons_after s word = reasons_of_run s.legend s.program s.discipline s.choices s.steps word

-- the lines of an end after a schedule: where all wait, one for each that waits, and one for each that waits in a queue, why; of a run error one, and what it is of if that is known; else none
abbrev pub lines_after : Setting → (word : List ℕ) → OutcomeKind → List (List ℕ)
lines_after s word AllWaiting = map (wait_text s.legend) (waits_after s word) ++ map (reason_text s.legend) (reasons_after s word)
lines_after s word (RunError name process line) = error_text s process line ∷ option_to_list (detail_line s.legend name (cause_after s word) (violation_after s word))
lines_after s word _ = []

-- those of the outcome's first schedule
abbrev pub end_lines : Setting → Tally → List (List ℕ)
end_lines s t = lines_after s t.first.word t.first.outcome.kind

-- ---- all outcomes

-- the simplest schedule is a row of the table with this outcome
pub record IsTold (s : Setting) (t : Told) : Type 0 where
  pub simple : IfSome t.simple (λ w. IsScheduleOf (slots s.program s.discipline) s.choices s.steps w.word.items t.tally.first.outcome)

-- these outcomes, all of them and in order, are told so
pub record AreTold (s : Setting) (ts : List Tally) (told : List Told) : Type 0 where
  pub order : map (λ (t : Told). t.tally) told ≡ in_order ts
  pub each : AllByRecursion (IsTold s) told
