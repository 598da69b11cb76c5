-- What a story tells has no floats.
use Rattle.std.proofs.Common.{◌≡◌, ◌==◌, ℕ, Bool, true, false, List, [], ◌∷◌, ◌++◌, Option, Some, None, option_map, length, map, take, refl, codes}
use Rattle.std.specs.List.{list_any}
use Rattle.std.specs.Prelude.{ℤ, pos, negsuc, if◌then◌else◌}
use Rattle.serde_json.specs.Written.{has_float}
use Rattle.cp_legend.specs.Names.{Legend, monitor_count, process_count}
use Rattle.cp_legend.specs.Values.{Value, Values, Members, integer, named, list, set, record_of, no_values, more_values, no_members, more_members}
use Rattle.cp_machine.specs.declared.discipline.Signals.{Signals}
use Rattle.cp_machine.specs.declared.discipline.Signals.TheVariants.{Return, Continue, Wait}
use Rattle.cp_machine.specs.declared.process.Status.{Status}
use Rattle.cp_machine.specs.declared.process.Status.TheVariants as status
use Rattle.cp_machine.specs.declared.shown.Shown.{Shown}
use Rattle.cp_machine.specs.declared.shown.Shown.TheVariants as shown
use Rattle.cp_run.specs.declared.outcome.OutcomeKind.{OutcomeKind}
use Rattle.cp_run.specs.declared.outcome.OutcomeKind.TheVariants as kind
use Rattle.cp_run.specs.Code.{answer_of}
use Rattle.cp_run.specs.Run.{Answer, Ended, Wants, NotReady}
use Rattle.cp_story.proofs.Floats.{both, is_float_member, no_float-array, no_float-at_each, no_float-flag, no_float-numbers, no_float-object, no_float-optional, none_of}
use Rattle.cp_story.proofs.CauseFloats as floats
use Rattle.cp_story.specs.AnnotationText.{violation_text}
use Rattle.cp_story.specs.Annotations.{Violated, violation_seen}
use Rattle.cp_story.specs.CauseText.{error_cause_members}
use Rattle.cp_story.specs.declared.annotation.Annotation.{Annotation}
use Rattle.cp_story.specs.declared.annotation.Annotation.TheVariants as annotation
use Rattle.cp_story.specs.declared.annotation.Moment.{Moment}
use Rattle.cp_story.specs.declared.annotation.Moment.TheVariants as moment
use Rattle.cp_story.specs.declared.cause.Cause.{Cause}
use Rattle.cp_story.specs.Changes.{Changed}
use Rattle.cp_story.specs.Halted.{Halted, halted_seen}
use Rattle.cp_story.specs.Objects.{array_of, flag, integer_data, number_data, numbers_data, optional, text_data, with_member}
use Rattle.cp_story.specs.Passed.{Given}
use Rattle.cp_story.specs.ReasonText.{callers_data, perhaps_members, reason_data, reason_text, reasons_data, routine_text, routines_data, why_members}
use Rattle.cp_story.specs.Reasons.{Reason, reason_seen}
use Rattle.cp_story.specs.Story.{Decision, Happened, Enters, Leaves, Delays, Continues, Starts, Displays, Ends, IsAdmitted, Told}
use Rattle.cp_story.specs.StoryData as spec
use Rattle.cp_story.specs.Views.{decision_of, told_of, wait_of}
use Rattle.cp_story.specs.Waiting.{Waiting}
use Rattle.cp_story.specs.declared.reasons.Caller.{Caller}
use Rattle.cp_story.specs.declared.story.Story.{Story}

-- ---- names and values

process_free : (l : Legend) (n : ℕ) → has_float (spec.process_data l n) ≡ false
unfolding with_member
process_free l n = refl

monitor_free : (l : Legend) (n : ℕ) → has_float (spec.monitor_data l n) ≡ false
unfolding with_member
monitor_free l n = refl

integer_free : (z : ℤ) → has_float (integer_data z) ≡ false
integer_free (pos n) = refl
integer_free (negsuc n) = refl

mutual
  value_free : (v : Value) → has_float (spec.value_data v) ≡ false
  value_free (integer z) = integer_free z
  value_free (named x) = refl
  value_free (list vs) = values_free vs
  value_free (set vs) = values_free vs
  value_free (record_of ms) = no_float-object (spec.fields_data ms) (fields_free ms)

  values_free : (vs : Values) → has_float (array_of (spec.values_data vs)) ≡ false
  values_free no_values = refl
  values_free (more_values v vs) = both (value_free v) (values_free vs)

  fields_free : (ms : Members) → list_any is_float_member (spec.fields_data ms) ≡ false
  fields_free no_members = refl
  fields_free (more_members name v ms) = both (value_free v) (fields_free ms)

shown_free : (l : Legend) (v : Shown) → has_float (spec.shown_data l v) ≡ false
shown_free l (shown.Integer z) = integer_free z
shown_free l (shown.Char c) = refl
shown_free l (shown.Truth b) = refl
shown_free l (shown.Constant n) = refl

number_free : (n : ℕ) → has_float (number_data n) ≡ false
number_free n = refl

-- ---- events

choice_free : (d : Decision) → has_float (spec.choice_data d) ≡ false
choice_free d =
    no_float-object ((codes "options", numbers_data d.options) ∷ (codes "number", number_data d.number) ∷ flag (codes "gate") d.at_gate)
    (both (no_float-numbers d.options) (both refl (no_float-flag (codes "gate") d.at_gate)))

cause_free : (e : Told) → list_any is_float_member (spec.cause_members e) ≡ false
cause_free e =
    both refl (none_of (optional (codes "line") number_data e.line) (optional (codes "choice") spec.choice_data e.choice)
    (no_float-optional (codes "line") number_data e.line number_free) (no_float-optional (codes "choice") spec.choice_data e.choice choice_free))

subject_free : (l : Legend) (h : Happened) → list_any is_float_member (spec.subject_members l h) ≡ false
subject_free l (Enters call arguments waits) = both refl (both refl (both (no_float-array spec.value_data arguments value_free) refl))
subject_free l (Leaves call) = refl
subject_free l (Delays queue call) = refl
subject_free l (Continues queue call by) = refl
subject_free l (Starts process) = refl
subject_free l (Displays value) = both (shown_free l value) refl
subject_free l Ends = refl
subject_free l (IsAdmitted call) = refl

name_free : (name : List ℕ) (b : Bool) → list_any is_float_member (if b then [] else (codes "name", text_data name) ∷ []) ≡ false
name_free name true = refl
name_free name false = refl

given_free : (g : Given) → has_float (spec.given_data g) ≡ false
given_free g =
    let name = if length g.name == 0 then [] else (codes "name", text_data g.name) ∷ [] in
    let value = (codes "value", spec.value_data g.value) ∷ [] in
    no_float-object (name ++ value) (none_of name value (name_free g.name (length g.name == 0)) (both (value_free g.value) refl))

returned_free : (h : Happened) (given : List Given) → list_any is_float_member (spec.returned_members h given) ≡ false
returned_free (Enters call arguments waits) given = refl
returned_free (Leaves call) given = both (no_float-array spec.given_data given given_free) refl
returned_free (Delays queue call) given = refl
returned_free (Continues queue call Return) given = both (no_float-array spec.given_data given given_free) refl
returned_free (Continues queue call Continue) given = refl
returned_free (Continues queue call Wait) given = refl
returned_free (Starts process) given = refl
returned_free (Displays value) given = refl
returned_free Ends given = refl
returned_free (IsAdmitted call) given = refl

status_free : (l : Legend) (s : Status) → list_any is_float_member (spec.status_members l s) ≡ false
status_free l status.Unstarted = refl
status_free l status.Ready = refl
status_free l (status.AtGate monitor) = refl
status_free l (status.Delayed cell) = refl
status_free l status.Ended = refl

holder_free : (h : Option ℕ) → has_float (spec.holder_data h) ≡ false
holder_free None = refl
holder_free (Some process) = refl

change_free : (c : Changed) → has_float (spec.change_data c) ≡ false
change_free c =
    no_float-object ((codes "monitor", number_data c.monitor) ∷ (codes "name", text_data c.name) ∷ (codes "value", spec.value_data c.value) ∷ [])
    (both refl (both refl (both (value_free c.value) refl)))

effects_free : (l : Legend) (e : Told) → list_any is_float_member (spec.effect_members l e) ≡ false
effects_free l e =
    both (no_float-numbers e.woken)
    (both (no_float-numbers e.let_in)
    (both (no_float-array (spec.status_data l) e.statuses (λ s. no_float-object (spec.status_members l s) (status_free l s)))
    (both (no_float-array spec.holder_data e.holders holder_free)
    (both (no_float-array spec.change_data e.changes change_free) refl))))

event_free : (l : Legend) (e : Told) → has_float (spec.event_data l e) ≡ false
event_free l e =
    let cause = spec.cause_members e in
    let happened = spec.happened_members l e.happened in
    let returned = spec.returned_members e.happened e.returned in
    no_float-object (cause ++ happened ++ returned ++ spec.effect_members l e)
    (none_of (cause ++ happened ++ returned) (spec.effect_members l e)
    (none_of (cause ++ happened) returned (none_of cause happened (cause_free e) (both refl (subject_free l e.happened))) (returned_free e.happened e.returned))
    (effects_free l e))

-- ---- an annotation that is false

moment_free : (l : Legend) (at : Moment) → list_any is_float_member (spec.moment_members l at) ≡ false
moment_free l (moment.Delay line) = refl
moment_free l (moment.Continue line) = refl
moment_free l (moment.Return routine) = refl
moment_free l moment.Initialised = refl

annotation_free : (l : Legend) (a : Annotation) → list_any is_float_member (spec.annotation_members l a) ≡ false
annotation_free l annotation.Assertion = refl
annotation_free l (annotation.Invariant n at) = both refl (moment_free l at)

violated_free : (l : Legend) (v : Violated) → has_float (spec.violation_data l v) ≡ false
violated_free l v =
    let annotation = spec.annotation_members l v.annotation in
    let values = (codes "values", array_of (map spec.given_data v.values)) ∷ [] in
    no_float-object ((codes "text", text_data (violation_text l v)) ∷ annotation ++ values)
    (both refl (none_of annotation values (annotation_free l v.annotation) (both (no_float-array spec.given_data v.values given_free) refl)))

pub violation_free : (l : Legend) (v : Option Violated) → list_any is_float_member (spec.violation_members l v) ≡ false
violation_free l None = refl
violation_free l (Some v) = both (violated_free l v) refl

-- ---- the end

error_free : (k : OutcomeKind) → list_any is_float_member (spec.error_members k) ≡ false
error_free kind.Finished = refl
error_free kind.AllWaiting = refl
error_free (kind.RunError name process line) = refl
error_free kind.ChoiceLimit = refl
error_free kind.StepLimit = refl
error_free kind.OutputLimit = refl

answer_free : (a : Answer) → list_any is_float_member (spec.answer_members a) ≡ false
answer_free (Ended outcome used) = both refl (both refl (error_free outcome.kind))
answer_free (Wants ready) = both refl (both (no_float-numbers ready) refl)
answer_free (NotReady place) = refl

stop_free : (s : Option Halted) → list_any is_float_member (spec.stop_members s) ≡ false
stop_free None = refl
stop_free (Some s) =
    both refl (none_of (optional (codes "line") number_data s.line) (optional (codes "waiting") number_data s.waiting)
    (no_float-optional (codes "line") number_data s.line number_free) (no_float-optional (codes "waiting") number_data s.waiting number_free))

end_free : (l : Legend) (a : Answer) (s : Option Halted) (c : Option Cause) (v : Option Violated) (d : Option Decision) → has_float (spec.end_data l a s c v d) ≡ false
end_free l a s c v d =
    let last = optional (codes "choice") spec.choice_data d in
    let cause = error_cause_members l c in
    let violation = spec.violation_members l v in
    let stopped = none_of (spec.answer_members a) (spec.stop_members s) (answer_free a) (stop_free s) in
    let caused = none_of (spec.answer_members a ++ spec.stop_members s) cause stopped (floats.cause_free l c) in
    no_float-object (spec.answer_members a ++ spec.stop_members s ++ cause ++ violation ++ last)
    (none_of (spec.answer_members a ++ spec.stop_members s ++ cause ++ violation) last (none_of (spec.answer_members a ++ spec.stop_members s ++ cause) violation caused (violation_free l v)) (no_float-optional (codes "choice") spec.choice_data d choice_free))

outcome_free : (l : Legend) (a : Answer) (word : List ℕ) → list_any is_float_member (spec.outcome_members l a word) ≡ false
outcome_free l (Ended outcome used) word = both (no_float-numbers (take used word)) refl
outcome_free l (Wants ready) word = refl
outcome_free l (NotReady place) word = refl

wait_free : (l : Legend) (w : Waiting) → has_float (spec.wait_data l w) ≡ false
wait_free l w =
    let inside = (codes "inside", numbers_data w.inside) ∷ [] in
    no_float-object ((codes "process", number_data w.process) ∷ spec.status_members l w.status ++ inside)
    (both refl (none_of (spec.status_members l w.status) inside (status_free l w.status) (both (no_float-numbers w.inside) refl)))

line_free : (line : List ℕ) → has_float (text_data line) ≡ false
line_free line = refl

-- ---- the story

first_free : (l : Legend) (s : Story) → list_any is_float_member (spec.first_members l s) ≡ false
first_free l s =
    both (no_float-at_each (spec.process_data l) (process_count l.components) (process_free l))
    (both (no_float-at_each (spec.monitor_data l) (monitor_count l.components) (monitor_free l))
    (both (no_float-array (spec.event_data l) (map told_of s.events.items) (event_free l))
    (both (end_free l (answer_of s.end) (option_map halted_seen s.stop) s.cause (option_map violation_seen s.violation) (option_map decision_of s.last_choice)) refl)))

signals_free : (s : Signals) → list_any is_float_member (spec.signals_members s) ≡ false
signals_free Return = refl
signals_free Continue = refl
signals_free Wait = refl

perhaps_free : (l : Legend) (ns : List ℕ) (b : Bool) → list_any is_float_member (if b then [] else (codes "perhaps", routines_data l ns) ∷ []) ≡ false
perhaps_free l ns true = refl
perhaps_free l ns false = both (no_float-array (λ n. text_data (routine_text l n)) ns (λ n. refl)) refl

reason_free : (l : Legend) (r : Reason) → has_float (reason_data l r) ≡ false
unfolding reason_data
reason_free l r =
    no_float-object
    ((codes "process", number_data r.process)
    ∷ (codes "since", number_data r.since)
    ∷ (codes "entries", routines_data l r.entries)
    ∷ (codes "in_vain", numbers_data r.in_vain)
    ∷ (codes "callers", callers_data r.callers)
    ∷ (codes "text", text_data (reason_text l r))
    ∷ perhaps_members l r.perhaps)
    (both refl
    (both refl
    (both (no_float-array (λ n. text_data (routine_text l n)) r.entries (λ n. refl))
    (both (no_float-numbers r.in_vain)
    (both (no_float-array (λ (c : Caller). number_data c.process) r.callers (λ c. refl)) (both refl (perhaps_free l r.perhaps (length r.perhaps == 0))))))))

why_free : (l : Legend) (rs : List Reason) (b : Bool) → list_any is_float_member (if b then [] else (codes "why", reasons_data l rs) ∷ []) ≡ false
why_free l rs true = refl
why_free l rs false = both (no_float-array (reason_data l) rs (reason_free l)) refl

members_free : (l : Legend) (s : Story) (word : List ℕ) (source : List (List ℕ)) → list_any is_float_member (spec.story_members l s word source) ≡ false
members_free l s word source =
    let outcome = spec.outcome_members l (answer_of s.end) word in
    let last = (codes "final", spec.waits_data l (map wait_of s.waits.items)) ∷ (codes "source", spec.lines_data source) ∷ spec.signals_members s.signals in
    let why = why_members l (map reason_seen s.reasons.items) in
    none_of (spec.first_members l s ++ outcome ++ last) why
    (none_of (spec.first_members l s ++ outcome) last
    (none_of (spec.first_members l s) outcome (first_free l s) (outcome_free l (answer_of s.end) word))
    (both (no_float-array (spec.wait_data l) (map wait_of s.waits.items) (wait_free l))
    (both (no_float-array text_data source line_free) (signals_free s.signals))))
    (why_free l (map reason_seen s.reasons.items) (length (map reason_seen s.reasons.items) == 0))

pub story_free : (l : Legend) (s : Story) (again : Option ℕ) (word : List ℕ) (source : List (List ℕ)) → has_float (spec.story_data l s again word source) ≡ false
story_free l s again word source =
    no_float-object (spec.again_members again ++ spec.story_members l s word source) (none_of (spec.again_members again) (spec.story_members l s word source) (no_float-optional (codes "again") number_data again (λ n. refl)) (members_free l s word source))
