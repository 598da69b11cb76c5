-- What is told of an annotation that is false: of which component it is, when it is looked at, and what the variables in it are.
use Rattle.std.specs.Prelude.{ℕ, ℤ, Bool, true, false, ◌==◌, ◌&&◌, nat_lt, if◌then◌else◌, List, [], ◌∷◌, ◌++◌, map, flat_map, find, length, Option, Some, None, slice_get}
use Rattle.std.specs.List.{list_any}
use Rattle.cp_slots.specs.declared.item.Action.{Action}
use Rattle.cp_slots.specs.declared.item.Action.TheVariants as action
use Rattle.cp_slots.specs.declared.item.Item.{Item}
use Rattle.cp_slots.specs.declared.item.Said.{Said}
use Rattle.cp_slots.specs.declared.item.Said.TheVariants as said
use Rattle.cp_slots.specs.declared.place.PlaceOrigin.{PlaceOrigin}
use Rattle.cp_slots.specs.declared.place.PlaceOrigin.TheVariants.{Permanent, Local, Reference}
use Rattle.cp_slots.specs.declared.place.Index as code_index
use Rattle.cp_slots.specs.declared.place.OrdinalExpression as code_expression
use Rattle.cp_slots.specs.declared.place.Place as code_place
use Rattle.cp_slots.specs.declared.place.SetExpression as code_set
use Rattle.cp_slots.specs.declared.place.OrdinalExpression.TheOpen.{OrdinalExpression-F, SetExpression-F, Index-F, Place-F}
use Rattle.cp_slots.specs.Tables.{Tables, item_at}
use Rattle.cp_store.specs.declared.error.ErrorName.{ErrorName}
use Rattle.cp_store.specs.declared.error.ErrorName.TheVariants.{Assertion, Invariant}
use Rattle.cp_symbols.specs.Kinds.{plus}
use Rattle.cp_legend.specs.declared.legend.LegendParameter.{LegendParameter}
use Rattle.cp_legend.specs.declared.legend.LegendPassing.{LegendPassing}
use Rattle.cp_legend.specs.declared.legend.LegendPassing.TheVariants as passing
use Rattle.cp_legend.specs.Names.{Legend, Named, RoutineNames, Variable}
use Rattle.cp_legend.specs.Places.{variables_at}
use Rattle.cp_machine.specs.declared.discipline.Discipline.{Discipline}
use Rattle.cp_machine.specs.declared.process.Entry.{Entry}
use Rattle.cp_machine.specs.declared.process.Entry.TheVariants.{Rest, Return, InitEnd}
use Rattle.cp_machine.specs.Machine.{Machine, Thread, thread_at}
use Rattle.cp_run.specs.declared.outcome.OutcomeKind.{OutcomeKind}
use Rattle.cp_run.specs.declared.outcome.OutcomeKind.TheVariants.{RunError}
use Rattle.cp_run.specs.Run.{Answer, Ended, run}
use Rattle.cp_run.specs.Slots.{slots}
use Rattle.cp_run.specs.Stop.{last_state}
use Rattle.cp_story.specs.declared.annotation.Annotation.{Annotation}
use Rattle.cp_story.specs.declared.annotation.Annotation.TheVariants as annotation
use Rattle.cp_story.specs.declared.annotation.Moment.{Moment}
use Rattle.cp_story.specs.declared.annotation.Moment.TheVariants as moment
use Rattle.cp_story.specs.declared.annotation.Violation.{Violation}
use Rattle.cp_story.specs.Passed.{Given, given, place_given, read}
use Rattle.cp_story.specs.Views.{given_of}

-- ---- the variables in an expression

-- where variables lie
abbrev pub Origins : Type 0
Origins = List PlaceOrigin

-- those of an element's index come behind the array
abbrev pub place_step : Place-F Origins Origins Origins Origins → Origins
place_step p = p.origin ∷ flat_map (λ (os : Origins). os) p.indices.items

abbrev pub index_step : Index-F Origins Origins Origins Origins → Origins
index_step i = i.at

abbrev pub expression_step : OrdinalExpression-F Origins Origins Origins Origins → Origins
expression_step (OrdinalExpression-F.Number z) = []
expression_step (OrdinalExpression-F.«OrdinalExpression::Load» p) = p
expression_step (OrdinalExpression-F.Negate e) = e.value
expression_step (OrdinalExpression-F.Absolute e) = e.value
expression_step (OrdinalExpression-F.Not e) = e.value
expression_step (OrdinalExpression-F.Successor e last) = e.value
expression_step (OrdinalExpression-F.Predecessor e first) = e.value
expression_step (OrdinalExpression-F.Character e) = e.value
expression_step (OrdinalExpression-F.Arithmetic o a b) = a.value ++ b.value
expression_step (OrdinalExpression-F.Logic o a b) = a.value ++ b.value
expression_step (OrdinalExpression-F.Compare r a b) = a.value ++ b.value
expression_step (OrdinalExpression-F.SameSet wanted a b) = a.value ++ b.value
expression_step (OrdinalExpression-F.Member e a) = e.value ++ a.value
expression_step (OrdinalExpression-F.IsEmpty p) = p

abbrev pub set_step : SetExpression-F Origins Origins Origins Origins → Origins
set_step (SetExpression-F.«SetExpression::Load» p) = p
set_step SetExpression-F.Empty = []
set_step (SetExpression-F.With a e) = a.value ++ e.value
set_step (SetExpression-F.Combine o a b) = a.value ++ b.value

-- the variables of an expression, in the order in which they are written
abbrev pub origins : code_expression.OrdinalExpression → Origins
origins = code_expression.fold-OrdinalExpression Origins Origins Origins Origins expression_step set_step index_step place_step

abbrev pub set_origins : code_set.SetExpression → Origins
set_origins = code_set.fold-SetExpression Origins Origins Origins Origins expression_step set_step index_step place_step

abbrev pub place_origins : code_place.Place → Origins
place_origins = code_place.fold-Place Origins Origins Origins Origins expression_step set_step index_step place_step

abbrev pub index_origins : code_index.Index → Origins
index_origins = code_index.fold-Index Origins Origins Origins Origins expression_step set_step index_step place_step

abbrev pub is_same : PlaceOrigin → PlaceOrigin → Bool
is_same (Permanent a) (Permanent b) = a == b
is_same (Local a) (Local b) = a == b
is_same (Reference a) (Reference b) = a == b
is_same a b = false

-- with one more, unless it is one of them
abbrev pub with_one : Origins → PlaceOrigin → Origins
with_one os o = if list_any (is_same o) os then os else os ++ o ∷ []

-- with each one that isn't one of them, once
abbrev pub with_each : Origins → Origins → Origins
with_each os [] = os
with_each os (o ∷ more) = with_each (with_one os o) more

-- ---- what they are called, and their values

abbrev pub variable_with : (slot : ℕ) → List Variable → Option Variable
variable_with slot vs = find (λ (v : Variable). v.slot == slot) vs

abbrev pub variable_told : Legend → (cells : List ℤ) → (base : ℕ) → Option Variable → List Given
variable_told l cells base None = []
variable_told l cells base (Some v) = given v.name (read l cells v.shape (plus base v.slot)) ∷ []

-- the permanent variables of a component
abbrev pub permanents_in : Legend → Option Named → List Variable
permanents_in l None = []
permanents_in l (Some c) = variables_at l.permanents c.system

abbrev pub locals_in : Option RoutineNames → List Variable
locals_in None = []
locals_in (Some r) = r.variables

abbrev pub parameters_in : Option RoutineNames → List LegendParameter
parameters_in None = []
parameters_in (Some r) = r.parameters

abbrev pub is_by_reference : LegendPassing → Bool
is_by_reference passing.Reference = true
is_by_reference passing.Value = false

abbrev pub reference_with : (slot : ℕ) → List LegendParameter → Option LegendParameter
reference_with slot ps = find (λ (p : LegendParameter). is_by_reference p.passing && p.slot == slot) ps

-- a `var` parameter by the place that it names
abbrev pub reference_told : Legend → (permanents : List ℤ) → Thread → Option LegendParameter → List Given
reference_told l permanents t None = []
reference_told l permanents t (Some p) = place_given l permanents t p ∷ []

-- a variable of the component or of the call that a process executes, as a whole
abbrev pub origin_told : Legend → (permanents : List ℤ) → Thread → PlaceOrigin → List Given
origin_told l permanents t (Permanent slot) = variable_told l permanents t.frame.own (variable_with slot (permanents_in l (slice_get l.components t.frame.component)))
origin_told l permanents t (Local slot) = variable_told l t.cells t.frame.base (variable_with slot (locals_in (slice_get l.routines t.frame.routine)))
origin_told l permanents t (Reference slot) = reference_told l permanents t (reference_with slot (parameters_in (slice_get l.routines t.frame.routine)))

-- each variable of an expression once, in the order in which they are written first
abbrev pub values_told : Legend → (permanents : List ℤ) → Thread → code_expression.OrdinalExpression → List Given
values_told l permanents t e = flat_map (origin_told l permanents t) (with_each [] (origins e))

-- ---- when an invariant is looked at

abbrev pub moment_before : (routine line : ℕ) → Action → Moment
moment_before routine line (action.Delay place) = moment.Delay line
moment_before routine line (action.Continue place) = moment.Continue line
moment_before routine line _ = moment.Return routine

abbrev pub moment_at : (routine : ℕ) → Item → Moment
moment_at routine item = moment_before routine item.line item.action

-- where a routine goes on behind it: with a statement, at the end of an initial statement, or by returning
abbrev pub moment_by : Tables → (routine : ℕ) → Option Entry → Moment
moment_by r routine (Some (Rest at)) = moment_at routine (item_at r at)
moment_by r routine (Some (InitEnd caller component)) = moment.Initialised
moment_by r routine _ = moment.Return routine

-- the routine that an entry goes back to
abbrev pub routine_behind : Option Entry → ℕ
routine_behind (Some (Return caller result monitor)) = caller.routine
routine_behind _ = 0

-- the end of the call of the invariants stands below them, and below it how the routine goes on
abbrev pub moment_in : Tables → (stack : List Entry) → Moment
moment_in r stack = moment_by r (routine_behind (slice_get stack 1)) (slice_get stack 2)

-- ---- an annotation that is false

pub record Violated : Type 0 where
  pub annotation : Annotation
  -- the variables in it, with their values
  pub values : List Given

abbrev pub violation_seen : Violation → Violated
violation_seen v = record { annotation = v.annotation; values = map given_of v.values.items }

abbrev pub annotation_told : Tables → Thread → Said → Annotation
annotation_told r t said.Assertion = annotation.Assertion
annotation_told r t said.Invariant = annotation.Invariant t.frame.component (moment_in r t.stack)

abbrev pub violation_by : Legend → Tables → (permanents : List ℤ) → Thread → Action → Option Violated
violation_by l r permanents t (action.Assert test says) = Some (record { annotation = annotation_told r t says; values = values_told l permanents t test })
violation_by l r permanents t _ = None

-- that to which a process has come
abbrev pub violation_on : Legend → Tables → (permanents : List ℤ) → Thread → List Entry → Option Violated
violation_on l r permanents t (Rest at ∷ es) = violation_by l r permanents t (item_at r at).action
violation_on l r permanents t _ = None

abbrev pub violation_of : Legend → Tables → (permanents : List ℤ) → Thread → Option Violated
violation_of l r permanents t = violation_on l r permanents t t.stack

abbrev pub violation_in : Legend → Tables → Machine → (pid : ℕ) → Option Violated
violation_in l r m pid = if nat_lt pid (length m.threads) then violation_of l r m.permanents (thread_at m.threads pid) else None

abbrev pub is_of_annotation : ErrorName → Bool
is_of_annotation Assertion = true
is_of_annotation Invariant = true
is_of_annotation _ = false

abbrev pub violation_of_error : Legend → Tables → Machine → ErrorName → (process : ℕ) → Option Violated
violation_of_error l r m name process = if is_of_annotation name then violation_in l r m process else None

abbrev pub violation_of_kind : Legend → Tables → Machine → OutcomeKind → Option Violated
violation_of_kind l r m (RunError name process line) = violation_of_error l r m name process
violation_of_kind l r m _ = None

-- the annotation with which a run ended, by the state that it came to, which is that before the step
abbrev pub violation_of_end : Legend → Tables → Machine → Answer → Option Violated
violation_of_end l r m (Ended outcome taken) = violation_of_kind l r m outcome.kind
violation_of_end l r m _ = None

abbrev pub violation_of_run : Legend → Tables → Discipline → (choices steps : ℕ) → List ℕ → Option Violated
violation_of_run l r discipline choices steps word = violation_of_end l r (last_state (slots r discipline) choices steps word) (run (slots r discipline) choices steps word)
