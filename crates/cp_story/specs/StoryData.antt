-- What a story tells, as one object of JSON.
use Rattle.std.specs.Prelude.{ℕ, ◌==◌, if◌then◌else◌, List, [], ◌∷◌, ◌++◌, map, length, take, Option, Some, None, option_map, slice_get, codes}
use Rattle.serde_json.specs.Data.{Data, null}
use Rattle.cp_legend.specs.Names.{Legend, Named, at_each, monitor_count, monitor_in, name_of_routine, path_in, process_count, process_in, type_in}
use Rattle.cp_legend.specs.Values.{Value, Values, Members, integer, named, list, set, record_of, no_values, more_values, no_members, more_members}
use Rattle.cp_machine.specs.declared.discipline.Signals.{Signals}
use Rattle.cp_machine.specs.declared.discipline.Signals.TheVariants.{Return, Continue, Wait}
use Rattle.cp_machine.specs.declared.process.Status.{Status}
use Rattle.cp_machine.specs.declared.process.Status.TheVariants as status
use Rattle.cp_machine.specs.declared.shown.Shown.{Shown}
use Rattle.cp_machine.specs.declared.shown.Shown.TheVariants as shown
use Rattle.cp_run.specs.Code.{answer_of}
use Rattle.cp_run.specs.declared.outcome.OutcomeKind.{OutcomeKind}
use Rattle.cp_run.specs.declared.outcome.OutcomeKind.TheVariants as kind
use Rattle.cp_run.specs.Run.{Answer, Ended, Wants, NotReady}
use Rattle.cp_story.specs.AnnotationText.{violation_text}
use Rattle.cp_story.specs.Annotations.{Violated, violation_seen}
use Rattle.cp_story.specs.CauseText.{component_text, error_cause_members}
use Rattle.cp_story.specs.Changes.{Changed}
use Rattle.cp_story.specs.Ends.{error_name, kind_name, output_text}
use Rattle.cp_story.specs.Halted.{Halted, halted_seen}
use Rattle.cp_story.specs.Objects.{Member, array_of, flag, integer_data, number_data, numbers_data, object_with, optional, text_data}
use Rattle.cp_story.specs.Passed.{Given}
use Rattle.cp_story.specs.ReasonText.{why_members}
use Rattle.cp_story.specs.Reasons.{reason_seen}
use Rattle.cp_story.specs.Sentences.{shown_text}
use Rattle.cp_story.specs.Story.{Decision, Happened, Enters, Leaves, Delays, Continues, Starts, Displays, Ends, IsAdmitted, Told, queue_at}
use Rattle.cp_story.specs.Views.{decision_of, told_of, wait_of}
use Rattle.cp_story.specs.Waiting.{Waiting}
use Rattle.cp_story.specs.declared.annotation.Annotation.{Annotation}
use Rattle.cp_story.specs.declared.annotation.Annotation.TheVariants as annotation
use Rattle.cp_story.specs.declared.annotation.Moment.{Moment}
use Rattle.cp_story.specs.declared.annotation.Moment.TheVariants as moment
use Rattle.cp_story.specs.declared.cause.Cause.{Cause}
use Rattle.cp_story.specs.declared.event.OpenCall.{OpenCall}
use Rattle.cp_story.specs.declared.story.Story.{Story}

-- ---- processes and monitors

abbrev pub named_data : (name type_name : List ℕ) → Data
named_data name type_name = object_with ((codes "name", text_data name) ∷ (codes "type", text_data type_name) ∷ [])

-- a component by its name and its type
abbrev pub component_data : Legend → Option Named → Data
component_data l c = named_data (path_in c) (type_in l.systems c)

abbrev pub process_data : Legend → ℕ → Data
process_data l n = component_data l (process_in l.components n)

abbrev pub monitor_data : Legend → ℕ → Data
monitor_data l n = component_data l (monitor_in l.components n)

-- ---- values

-- An array or a set as an array, a record as an object.
abbrev mutual
  pub value_data : Value → Data
  value_data (integer z) = integer_data z
  value_data (named x) = text_data x
  value_data (list vs) = array_of (values_data vs)
  value_data (set vs) = array_of (values_data vs)
  value_data (record_of ms) = object_with (fields_data ms)

  pub values_data : Values → List Data
  values_data no_values = []
  values_data (more_values v vs) = value_data v ∷ values_data vs

  pub fields_data : Members → List Member
  fields_data no_members = []
  fields_data (more_members name v ms) = (name, value_data v) ∷ fields_data ms

-- a displayed value; all but integers as texts
abbrev pub shown_data : Legend → Shown → Data
shown_data l (shown.Integer z) = integer_data z
shown_data l value = text_data (shown_text l value)

-- ---- an event

-- who could be chosen, who was, and whether one of a line was to be let in
abbrev pub choice_data : Decision → Data
choice_data d = object_with ((codes "options", numbers_data d.options) ∷ (codes "number", number_data d.number) ∷ flag (codes "gate") d.at_gate)

-- whose event it is, on which line, and after which choice
abbrev pub cause_members : Told → List Member
cause_members e = (codes "process", number_data e.process) ∷ optional (codes "line") number_data e.line ++ optional (codes "choice") choice_data e.choice

abbrev pub event_name : Happened → List ℕ
event_name (Enters call arguments waits) = codes "enter"
event_name (Leaves call) = codes "leave"
event_name (Delays queue call) = codes "delay"
event_name (Continues queue call by) = codes "continue"
event_name (Starts process) = codes "init"
event_name (Displays value) = codes "display"
event_name Ends = codes "end"
event_name (IsAdmitted call) = codes "admit"

abbrev pub call_members : Legend → OpenCall → List Member
call_members l c = (codes "monitor", number_data c.monitor) ∷ (codes "routine", text_data (name_of_routine (slice_get l.routines c.routine))) ∷ []

-- what the event tells of
abbrev pub subject_members : Legend → Happened → List Member
subject_members l (Enters call arguments waits) = call_members l call ++ (codes "arguments", array_of (map value_data arguments)) ∷ []
subject_members l (Leaves call) = call_members l call
subject_members l (Delays queue call) = call_members l call ++ (codes "queue", text_data queue.name) ∷ []
subject_members l (Continues queue call by) = call_members l call ++ (codes "queue", text_data queue.name) ∷ []
subject_members l (Starts process) = (codes "target", text_data (path_in (process_in l.components process))) ∷ (codes "target_process", number_data process) ∷ []
subject_members l (Displays value) = (codes "value", shown_data l value) ∷ []
subject_members l Ends = []
subject_members l (IsAdmitted call) = call_members l call

abbrev pub happened_members : Legend → Happened → List Member
happened_members l h = (codes "event", text_data (event_name h)) ∷ subject_members l h

-- a function's result has no name
abbrev pub given_data : Given → Data
given_data g = object_with ((if length g.name == 0 then [] else (codes "name", text_data g.name) ∷ []) ++ (codes "value", value_data g.value) ∷ [])

-- what came back, where a call ended
abbrev pub returned_members : Happened → List Given → List Member
returned_members (Leaves call) given = (codes "returned", array_of (map given_data given)) ∷ []
returned_members (Continues queue call Return) given = (codes "returned", array_of (map given_data given)) ∷ []
returned_members _ given = []

-- ---- how processes, monitors and variables stand after it

-- what a process does, and where it waits
abbrev pub status_members : Legend → Status → List Member
status_members l status.Unstarted = (codes "is", text_data (codes "unstarted")) ∷ []
status_members l status.Ready = (codes "is", text_data (codes "ready")) ∷ []
status_members l (status.AtGate monitor) = (codes "is", text_data (codes "gate")) ∷ (codes "monitor", number_data monitor) ∷ []
status_members l (status.Delayed cell) = (codes "is", text_data (codes "delayed")) ∷ (codes "monitor", number_data (queue_at l cell).monitor) ∷ (codes "queue", text_data (queue_at l cell).name) ∷ []
status_members l status.Ended = (codes "is", text_data (codes "ended")) ∷ []

abbrev pub status_data : Legend → Status → Data
status_data l s = object_with (status_members l s)

-- the process inside a monitor
abbrev pub holder_data : Option ℕ → Data
holder_data None = null
holder_data (Some process) = number_data process

abbrev pub change_data : Changed → Data
change_data c = object_with ((codes "monitor", number_data c.monitor) ∷ (codes "name", text_data c.name) ∷ (codes "value", value_data c.value) ∷ [])

abbrev pub effect_members : Legend → Told → List Member
effect_members l e = (codes "woken", numbers_data e.woken) ∷ (codes "let_in", numbers_data e.let_in) ∷ (codes "status", array_of (map (status_data l) e.statuses)) ∷ (codes "holders", array_of (map holder_data e.holders)) ∷ (codes "changes", array_of (map change_data e.changes)) ∷ []

abbrev pub event_data : Legend → Told → Data
event_data l e = object_with (cause_members e ++ happened_members l e.happened ++ returned_members e.happened e.returned ++ effect_members l e)

-- ---- an annotation that is false

abbrev pub at_line : (at : List ℕ) → (line : ℕ) → List Member
at_line at line = (codes "at", text_data at) ∷ (codes "line", number_data line) ∷ []

abbrev pub moment_members : Legend → Moment → List Member
moment_members l (moment.Delay line) = at_line (codes "delay") line
moment_members l (moment.Continue line) = at_line (codes "continue") line
moment_members l (moment.Return routine) = (codes "at", text_data (codes "return")) ∷ (codes "routine", text_data (name_of_routine (slice_get l.routines routine))) ∷ []
moment_members l moment.Initialised = (codes "at", text_data (codes "init")) ∷ []

abbrev pub annotation_members : Legend → Annotation → List Member
annotation_members l annotation.Assertion = []
annotation_members l (annotation.Invariant n at) = (codes "component", text_data (component_text l n)) ∷ moment_members l at

abbrev pub violation_data : Legend → Violated → Data
violation_data l v = object_with ((codes "text", text_data (violation_text l v)) ∷ annotation_members l v.annotation ++ (codes "values", array_of (map given_data v.values)) ∷ [])

-- the member of a run error's cause
abbrev pub violation_members : Legend → Option Violated → List Member
violation_members l None = []
violation_members l (Some v) = (codes "cause", violation_data l v) ∷ []

-- ---- the end

-- of a run error also what, who and where it was
abbrev pub error_members : OutcomeKind → List Member
error_members (kind.RunError name process line) = (codes "name", text_data (error_name name)) ∷ (codes "process", number_data process) ∷ (codes "line", number_data line) ∷ []
error_members _ = []

abbrev pub kind_members : OutcomeKind → List Member
kind_members k = (codes "kind", text_data (kind_name k)) ∷ error_members k

-- how the run ended; or who can be chosen next; or the place of the number that can't be taken
abbrev pub answer_members : Answer → List Member
answer_members (Ended outcome used) = (codes "is", text_data (codes "ended")) ∷ kind_members outcome.kind
answer_members (Wants ready) = (codes "is", text_data (codes "wants")) ∷ (codes "ready", numbers_data ready) ∷ []
answer_members (NotReady place) = (codes "is", text_data (codes "not-ready")) ∷ (codes "place", number_data place) ∷ []

-- who went on to a limit and where, and who waits already in a queue that is in use
abbrev pub stop_members : Option Halted → List Member
stop_members None = []
stop_members (Some stop) = (codes "process", number_data stop.process) ∷ optional (codes "line") number_data stop.line ++ optional (codes "waiting") number_data stop.waiting

abbrev pub end_data : Legend → Answer → Option Halted → Option Cause → Option Violated → (last : Option Decision) → Data
end_data l answer stop cause violation last = object_with (answer_members answer ++ stop_members stop ++ error_cause_members l cause ++ violation_members l violation ++ optional (codes "choice") choice_data last)

-- of a run that ended, the numbers that it used, and what it displayed
abbrev pub outcome_members : Legend → Answer → (word : List ℕ) → List Member
outcome_members l (Ended outcome used) word = (codes "used", numbers_data (take used word)) ∷ (codes "output", text_data (output_text l outcome.output)) ∷ []
outcome_members l _ word = []

-- a process that waits, where, and the monitors that it is inside
abbrev pub wait_data : Legend → Waiting → Data
wait_data l w = object_with ((codes "process", number_data w.process) ∷ status_members l w.status ++ (codes "inside", numbers_data w.inside) ∷ [])

abbrev pub waits_data : Legend → List Waiting → Data
waits_data l ws = array_of (map (wait_data l) ws)

-- ---- the story

abbrev pub lines_data : List (List ℕ) → Data
lines_data lines = array_of (map text_data lines)

abbrev pub events_data : Legend → List Told → Data
events_data l events = array_of (map (event_data l) events)

abbrev pub processes_data : Legend → Data
processes_data l = array_of (at_each (process_data l) (process_count l.components))

abbrev pub monitors_data : Legend → Data
monitors_data l = array_of (at_each (monitor_data l) (monitor_count l.components))

-- the event with which a round begins
abbrev pub again_members : Option ℕ → List Member
again_members again = optional (codes "again") number_data again

-- the processes and the monitors at their numbers, the events, and the end
abbrev pub first_members : Legend → Story → List Member
first_members l s =
    (codes "processes", processes_data l)
    ∷ (codes "monitors", monitors_data l)
    ∷ (codes "events", events_data l (map told_of s.events.items))
    ∷ (codes "end", end_data l (answer_of s.end) (option_map halted_seen s.stop) s.cause (option_map violation_seen s.violation) (option_map decision_of s.last_choice))
    ∷ []

-- the discipline, where it is another one than `return`
abbrev pub signals_members : Signals → List Member
signals_members Return = []
signals_members Continue = (codes "signals", text_data (codes "continue")) ∷ []
signals_members Wait = (codes "signals", text_data (codes "wait")) ∷ []

-- and what a run that ended used and displayed; the processes that wait; the lines of the source; the discipline; and why nobody goes on
abbrev pub story_members : Legend → Story → (word : List ℕ) → (source : List (List ℕ)) → List Member
story_members l s word source = first_members l s ++ outcome_members l (answer_of s.end) word ++ (codes "final", waits_data l (map wait_of s.waits.items)) ∷ (codes "source", lines_data source) ∷ signals_members s.signals ++ why_members l (map reason_seen s.reasons.items)

abbrev pub story_data : Legend → Story → (again : Option ℕ) → (word : List ℕ) → (source : List (List ℕ)) → Data
story_data l s again word source = object_with (again_members again ++ story_members l s word source)
