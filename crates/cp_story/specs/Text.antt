-- The text of a story: a table of its events, and lines below it.
use Rattle.std.specs.Prelude.{ℕ, ◌+◌, ◌==◌, ◌&&◌, nat_lt, not, true, Bool, if◌then◌else◌, List, [], ◌∷◌, ◌++◌, Option, Some, None, length, map, option_map, codes, decimal}
use Rattle.cp_legend.specs.Names.{Legend}
use Rattle.cp_legend.specs.Written.{value_text}
use Rattle.cp_run.specs.declared.outcome.RunEnd.{RunEnd}
use Rattle.cp_run.specs.declared.outcome.RunEnd.TheVariants as run_end
use Rattle.cp_run.specs.Table.{each}
use Rattle.cp_story.specs.AnnotationText.{violation_text}
use Rattle.cp_story.specs.Annotations.{Violated, violation_seen}
use Rattle.cp_story.specs.CauseText.{behind_colon, cause_text}
use Rattle.cp_story.specs.Changes.{Changed}
use Rattle.cp_story.specs.Columns.{Row, rows_text}
use Rattle.cp_story.specs.Halted.{Halted, halted_seen}
use Rattle.cp_story.specs.Joined.{joined}
use Rattle.cp_story.specs.ReasonText.{reason_text}
use Rattle.cp_story.specs.Sentences.{monitor_text, process_text, event_text, wait_text, refused_text, unused_text}
use Rattle.cp_story.specs.Story.{Decision}
use Rattle.cp_story.specs.Views.{decision_of, told_of, wait_of}
use Rattle.cp_story.specs.Waiting.{Waiting}
use Rattle.cp_story.specs.declared.cause.Cause.{Cause}
use Rattle.cp_story.specs.declared.cause.Cause.TheVariants as cause
use Rattle.cp_story.specs.declared.event.StoryEvent.{StoryEvent}
use Rattle.cp_story.specs.Reasons.{Reason, reason_seen}
use Rattle.cp_story.specs.declared.story.Story.{Story}

-- ---- cells

abbrev pub are_digits : List ℕ → Bool
are_digits [] = true
are_digits (n ∷ ns) = nat_lt n 10 && are_digits ns

-- side by side where each has one digit, else with commas
abbrev pub options_text : List ℕ → List ℕ
options_text options = joined [] (if are_digits options then [] else codes ",") decimal options

-- the number that was taken, of those that could be
abbrev pub taken_text : Decision → List ℕ
taken_text d = decimal d.number ++ codes " of " ++ options_text d.options

abbrev pub choice_text : Option Decision → List ℕ
choice_text None = []
choice_text (Some d) = taken_text d

abbrev pub line_text : Option ℕ → List ℕ
line_text None = []
line_text (Some line) = codes "line " ++ decimal line

-- a variable of a monitor, and its value
abbrev pub change_text : Legend → Changed → List ℕ
change_text l c = monitor_text l c.monitor ++ codes "." ++ c.name ++ codes "=" ++ value_text c.value

abbrev pub changes_text : Legend → List Changed → List ℕ
changes_text l changes = joined [] (codes "  ") (change_text l) changes

-- ---- rows

-- an event: the choice before it, its process, the line, what happened, and what changed in monitors
abbrev pub event_row : Legend → StoryEvent → Row
event_row l e = choice_text (told_of e).choice ∷ process_text l (told_of e).process ∷ line_text (told_of e).line ∷ event_text l e ∷ changes_text l (told_of e).changes ∷ []

-- what an error is of, if that is known; who waits in a queue that is in use is told already
abbrev pub told_of_cause : Legend → Option Cause → List ℕ
told_of_cause l None = []
told_of_cause l (Some (cause.InUse process cell)) = []
told_of_cause l (Some c) = behind_colon (cause_text l c)

abbrev pub stop_text : Legend → Halted → Option Cause → Option Violated → List ℕ
stop_text l stop c None = stop.words ++ told_of_cause l c
stop_text l stop c (Some v) = violation_text l v

-- how the run stopped where no event tells of it, behind a choice if one came last
abbrev pub stop_row : Legend → Option Decision → Halted → Option Cause → Option Violated → Row
stop_row l choice stop cause violation = choice_text choice ∷ process_text l stop.process ∷ line_text stop.line ∷ stop_text l stop cause violation ∷ []

-- the number of an event, where sentences below name events
abbrev pub number_text : (named : Bool) → ℕ → List ℕ
number_text named n = if named then decimal n else []

-- events, the first of which has this number
abbrev pub event_rows : Legend → (named : Bool) → ℕ → List StoryEvent → List Row
event_rows l named n [] = []
event_rows l named n (e ∷ es) = (number_text named n ∷ event_row l e) ∷ event_rows l named (n + 1) es

abbrev pub stop_rows : Legend → Option Decision → Option Halted → Option Cause → Option Violated → List Row
stop_rows l choice None cause violation = []
stop_rows l choice (Some stop) cause violation = ([] ∷ stop_row l choice stop cause violation) ∷ []

-- the sentences on why nobody goes on name events
abbrev pub names_events : Story → Bool
names_events s = not (length s.reasons.items == 0)

abbrev pub story_rows : Legend → Story → List Row
story_rows l s = event_rows l (names_events s) 1 s.events.items ++ stop_rows l (option_map decision_of s.last_choice) (option_map halted_seen s.stop) s.cause (option_map violation_seen s.violation)

-- ---- lines below the table

abbrev pub waits_text : Legend → List Waiting → List ℕ
waits_text l ws = each (λ w. wait_text l w ++ codes "\n") ws

abbrev pub reasons_text : Legend → List Reason → List ℕ
reasons_text l rs = each (λ r. reason_text l r ++ codes "\n") rs

-- why the number of the last choice can't be taken, where it can't
abbrev pub refusal : RunEnd → Option Decision → Option Decision
refusal (run_end.NotReady place) choice = choice
refusal _ choice = None

abbrev pub refused_line : Option Decision → List ℕ
refused_line None = []
refused_line (Some d) = refused_text d ++ codes "\n"

abbrev pub unused_line : Option (List ℕ) → List ℕ
unused_line None = []
unused_line (Some words) = words ++ codes "\n"

-- The rows of all events, with a heading before the event with which a round begins; who waits; why a number can't be taken; that numbers are left; and the last line.
abbrev pub story_text : Legend → Story → (again : Option ℕ) → (end : List ℕ) → List ℕ
story_text l s again end = rows_text again (story_rows l s) ++ waits_text l (map wait_of s.waits.items) ++ reasons_text l (map reason_seen s.reasons.items) ++ refused_line (refusal s.end (option_map decision_of s.last_choice)) ++ unused_line (unused_text s.left) ++ end
