-- What a run error is of. The step that fails is evaluated once more, as the machine does it; in place of the name of the error stands what fails. A set's
-- members are not kept: where they would count, nothing is told.
use Rattle.std.specs.Prelude.{ℕ, ◌-ℤ◌, ◌+ℤ◌, neg_ℤ, Bool, true, false, not, int_lt, if◌then◌else◌, List, [], ◌∷◌, map, Result, Ok, Err, Option, Some, None, ℤ, pos, nat_lt, length, slice_index_or, unsigned_abs}
use Rattle.cp_slots.specs.declared.item.Action.{Action}
use Rattle.cp_slots.specs.declared.item.Action.TheVariants as action
use Rattle.cp_slots.specs.declared.place.Argument.{Argument}
use Rattle.cp_slots.specs.declared.place.ArgumentValue.{ArgumentValue}
use Rattle.cp_slots.specs.declared.place.ArgumentValue.TheVariants as value
use Rattle.cp_slots.specs.declared.place.ComponentPlace.{ComponentPlace}
use Rattle.cp_slots.specs.declared.place.ComponentPlace.TheVariants.{Own, Contained, Element, Parameter}
use Rattle.cp_slots.specs.declared.place.Place as code_place
use Rattle.cp_slots.specs.declared.place.Index as code_index
use Rattle.cp_slots.specs.declared.place.OrdinalExpression as code_expression
use Rattle.cp_slots.specs.declared.place.SetExpression as code_set
use Rattle.cp_slots.specs.declared.place.OrdinalExpression.TheOpen.{OrdinalExpression-F, SetExpression-F, Index-F, Place-F}
use Rattle.cp_slots.specs.Tables.{Tables, item_at}
use Rattle.cp_store.specs.declared.error.ErrorName.{ErrorName}
use Rattle.cp_store.specs.declared.memory.Address.{Address}
use Rattle.cp_store.specs.declared.memory.Address.TheVariants.{Permanent, Local}
use Rattle.cp_store.specs.declared.memory.Frame.{Frame}
use Rattle.cp_store.specs.Memory.{Memory, cell_at, memory_of, address_onward, onward, stretch}
use Rattle.cp_store.specs.Places.{origin_address}
use Rattle.cp_store.specs.Values.{truth, is_true, is_within, negate, absolute, successor, predecessor, calculate, apply_logic, compare}
use Rattle.cp_machine.specs.declared.discipline.Discipline.{Discipline}
use Rattle.cp_machine.specs.declared.process.Entry.{Entry}
use Rattle.cp_machine.specs.declared.process.Entry.TheVariants.{Rest, Successor}
use Rattle.cp_machine.specs.Kernel.{waits_in}
use Rattle.cp_machine.specs.Machine.{Machine, thread_at}
use Rattle.cp_machine.specs.Memory.{memory_at}
use Rattle.cp_run.specs.declared.outcome.OutcomeKind.{OutcomeKind}
use Rattle.cp_run.specs.declared.outcome.OutcomeKind.TheVariants.{RunError}
use Rattle.cp_run.specs.Run.{Answer, Ended, run}
use Rattle.cp_run.specs.Slots.{slots}
use Rattle.cp_run.specs.Stop.{last_state}
use Rattle.cp_story.specs.declared.cause.Cause.{Cause}
use Rattle.cp_story.specs.declared.cause.Cause.TheVariants as cause
use Rattle.cp_story.specs.declared.reading.Reading.{Reading}

-- what is read in the code
abbrev pub memory_in : Reading → Memory
memory_in r = memory_of r.permanents.now r.room.now

-- goes on with a value, unless something fails
abbrev pub then_with : {A B : Type 0} → Result A Cause → (A → Result B Cause) → Result B Cause
then_with (Ok v) go = go v
then_with (Err c) go = Err c

-- an operation, or that this fails
abbrev pub or_cause : Cause → Result ℤ ErrorName → Result ℤ Cause
or_cause c (Ok v) = Ok v
or_cause c (Err e) = Err c

abbrev pub within : (low high : ℤ) → ℤ → Result ℤ Cause
within low high z = if is_within low high z then Ok z else Err (cause.Outside z low high)

-- what is left of a value that is not kept
abbrev pub Nothing : Type 0
Nothing = Unit {0}

abbrev pub forgotten : {A : Type 0} → Result A Cause → Result Nothing Cause
forgotten (Ok v) = Ok tt
forgotten (Err c) = Err c

-- ---- places, values and sets

abbrev pub ToValue : Type 0
ToValue = Memory → Frame → Result ℤ Cause

abbrev pub ToSet : Type 0
ToSet = Memory → Frame → Result Nothing Cause

abbrev pub ToAddress : Type 0
ToAddress = Memory → Frame → Result Address Cause

abbrev pub ToElement : Type 0
ToElement = Memory → Frame → Address → Result Address Cause

abbrev pub element_offset : (low high : ℤ) (size : ℕ) → ℤ → Result ℕ Cause
element_offset low high size index = then_with (within low high index) (λ i. Ok (stretch (unsigned_abs (i -ℤ low)) size))

abbrev pub through : List ToElement → Memory → Frame → Address → Result Address Cause
through [] m f at = Ok at
through (i ∷ is) m f at = then_with (i m f at) (λ inner. through is m f inner)

abbrev pub loaded : Memory → Result Address Cause → Result ℤ Cause
loaded m a = then_with a (λ at. Ok (cell_at m at))

abbrev pub place_step : Place-F ToValue ToSet ToElement ToAddress → ToAddress
place_step p = λ m f. through p.indices.items m f (address_onward (origin_address m.references f p.origin) p.offset)

abbrev pub index_step : Index-F ToValue ToSet ToElement ToAddress → ToElement
index_step i = λ m f at. then_with (i.at m f) (λ v. then_with (element_offset i.low i.high i.size v) (λ far. Ok (address_onward at far)))

abbrev pub both : ToValue → ToValue → (ℤ → ℤ → Result ℤ Cause) → ToValue
both a b go = λ m f. then_with (a m f) (λ x. then_with (b m f) (λ y. go x y))

abbrev pub expression_step : OrdinalExpression-F ToValue ToSet ToElement ToAddress → ToValue
expression_step (OrdinalExpression-F.Number z) = λ m f. Ok z
expression_step (OrdinalExpression-F.«OrdinalExpression::Load» p) = λ m f. loaded m (p m f)
expression_step (OrdinalExpression-F.Negate e) = λ m f. then_with (e.value m f) (λ x. or_cause (cause.Sign x) (negate x))
expression_step (OrdinalExpression-F.Absolute e) = λ m f. then_with (e.value m f) (λ x. or_cause (cause.Absolute x) (absolute x))
expression_step (OrdinalExpression-F.Not e) = λ m f. then_with (e.value m f) (λ x. Ok (truth (not (is_true x))))
expression_step (OrdinalExpression-F.Successor e last) = λ m f. then_with (e.value m f) (λ x. or_cause cause.Last (successor last x))
expression_step (OrdinalExpression-F.Predecessor e first) = λ m f. then_with (e.value m f) (λ x. or_cause cause.First (predecessor first x))
expression_step (OrdinalExpression-F.Character e) = λ m f. then_with (e.value m f) (within (pos 0) (pos 127))
expression_step (OrdinalExpression-F.Arithmetic o a b) = both a.value b.value (λ x y. or_cause (cause.Operation o x y) (calculate o x y))
expression_step (OrdinalExpression-F.Logic o a b) = both a.value b.value (λ x y. Ok (apply_logic o x y))
expression_step (OrdinalExpression-F.Compare r a b) = both a.value b.value (λ x y. Ok (compare r x y))
expression_step (OrdinalExpression-F.SameSet wanted a b) = λ m f. then_with (a.value m f) (λ s. then_with (b.value m f) (λ t. Err cause.Untold))
expression_step (OrdinalExpression-F.Member e a) = λ m f. then_with (e.value m f) (λ x. then_with (a.value m f) (λ s. Err cause.Untold))
expression_step (OrdinalExpression-F.IsEmpty p) = λ m f. then_with (loaded m (p m f)) (λ x. Ok (truth (not (is_true x))))

abbrev pub set_step : SetExpression-F ToValue ToSet ToElement ToAddress → ToSet
set_step (SetExpression-F.«SetExpression::Load» p) = λ m f. forgotten (p m f)
set_step SetExpression-F.Empty = λ m f. Ok tt
set_step (SetExpression-F.With a e) = λ m f. then_with (a.value m f) (λ s. then_with (e.value m f) (λ x. forgotten (within (pos 0) (pos 127) x)))
set_step (SetExpression-F.Combine o a b) = λ m f. then_with (a.value m f) (λ s. b.value m f)

abbrev pub value_at : Memory → Frame → code_expression.OrdinalExpression → Result ℤ Cause
value_at m f e = code_expression.fold-OrdinalExpression ToValue ToSet ToElement ToAddress expression_step set_step index_step place_step e m f

abbrev pub set_at : Memory → Frame → code_set.SetExpression → Result Nothing Cause
set_at m f e = code_set.fold-SetExpression ToValue ToSet ToElement ToAddress expression_step set_step index_step place_step e m f

abbrev pub address_at : Memory → Frame → code_place.Place → Result Address Cause
address_at m f p = code_place.fold-Place ToValue ToSet ToElement ToAddress expression_step set_step index_step place_step p m f

abbrev pub element_at : code_index.Index → ToElement
element_at = code_index.fold-Index ToValue ToSet ToElement ToAddress expression_step set_step index_step place_step

abbrev pub indexed_at : Memory → Frame → Address → List code_index.Index → Result Address Cause
indexed_at m f at is = through (map element_at is) m f at

-- ---- components and arguments

abbrev pub component_at : Memory → (bindings : List ℕ) → Frame → ComponentPlace → Result ℕ Cause
component_at m bindings f Own = Ok f.component
component_at m bindings f (Contained number) = Ok (onward f.component number)
component_at m bindings f (Element first low high stride index) =
    then_with (value_at m f index.value) (λ i.
    then_with (element_offset low high stride i) (λ further. Ok (onward (onward f.component first) further)))
component_at m bindings f (Parameter slot) = Ok (slice_index_or bindings (onward f.own slot) 0)

abbrev pub argument_at : Memory → (bindings : List ℕ) → Frame → ArgumentValue → Result Nothing Cause
argument_at m bindings f (value.Scalar e low high) = then_with (value_at m f e) (λ z. forgotten (within low high z))
argument_at m bindings f (value.Set e low high) = then_with (set_at m f e) (λ s. Err cause.Untold)
argument_at m bindings f (value.Copy source size) = forgotten (address_at m f source)
argument_at m bindings f (value.Reference place) = forgotten (address_at m f place)
argument_at m bindings f (value.Component c) = forgotten (component_at m bindings f c)

-- from the left to the right
abbrev pub arguments_at : Memory → (bindings : List ℕ) → Frame → List Argument → Result Nothing Cause
arguments_at m bindings f [] = Ok tt
arguments_at m bindings f (x ∷ xs) = then_with (argument_at m bindings f x.value) (λ done. arguments_at m bindings f xs)

-- ---- what fails in the next step of a process

abbrev pub frame_at : Machine → (pid : ℕ) → Frame
frame_at m pid = (thread_at m.threads pid).frame

abbrev pub value_in : Machine → (pid : ℕ) → code_expression.OrdinalExpression → Result ℤ Cause
value_in m pid e = value_at (memory_at m pid) (frame_at m pid) e

abbrev pub set_in : Machine → (pid : ℕ) → code_set.SetExpression → Result Nothing Cause
set_in m pid e = set_at (memory_at m pid) (frame_at m pid) e

abbrev pub address_in : Machine → (pid : ℕ) → code_place.Place → Result Address Cause
address_in m pid p = address_at (memory_at m pid) (frame_at m pid) p

abbrev pub component_in : Machine → (pid : ℕ) → ComponentPlace → Result ℕ Cause
component_in m pid c = component_at (memory_at m pid) m.bindings (frame_at m pid) c

abbrev pub arguments_in : Machine → (pid : ℕ) → List Argument → Result Nothing Cause
arguments_in m pid xs = arguments_at (memory_at m pid) m.bindings (frame_at m pid) xs

-- a form whose value may be that of an integer
abbrev pub is_number_step : OrdinalExpression-F Bool Bool Bool Bool → Bool
is_number_step (OrdinalExpression-F.Number z) = true
is_number_step (OrdinalExpression-F.«OrdinalExpression::Load» p) = true
is_number_step (OrdinalExpression-F.Negate e) = true
is_number_step (OrdinalExpression-F.Absolute e) = true
is_number_step (OrdinalExpression-F.Arithmetic o a b) = true
is_number_step e = false

abbrev pub is_number : code_expression.OrdinalExpression → Bool
is_number e = code_expression.fold-OrdinalExpression Bool Bool Bool Bool is_number_step (λ _. false) (λ _. false) (λ _. false) e

-- that a `case` has no label for its value, where this may be an integer
abbrev pub unlabelled : code_expression.OrdinalExpression → ℤ → Cause
unlabelled e z = if is_number e then cause.NoLabel z else cause.Untold

abbrev pub used : (cell : ℕ) → Option ℕ → Result Nothing Cause
used cell None = Ok tt
used cell (Some process) = Err (cause.InUse process cell)

-- who waits in the queue of an address
abbrev pub used_at : Machine → Address → Result Nothing Cause
used_at m (Permanent cell) = used cell (waits_in m cell)
used_at m (Local cell) = Ok tt

-- A statement, with the error that comes last where nothing fails before it.
abbrev pub failure_in : Machine → (pid : ℕ) → Action → Result Nothing Cause
failure_in m pid (action.Assign target e low high) = then_with (value_in m pid e) (λ z. then_with (address_in m pid target) (λ at. forgotten (within low high z)))
failure_in m pid (action.AssignSet target e low high) = then_with (set_in m pid e) (λ s. then_with (address_in m pid target) (λ at. Err cause.Untold))
failure_in m pid (action.Copy target source size) = then_with (address_in m pid source) (λ from. forgotten (address_in m pid target))
failure_in m pid (action.If test then_list otherwise) = forgotten (value_in m pid test)
failure_in m pid (action.Assert test said) = forgotten (value_in m pid test)
failure_in m pid (action.Case selector arms) = then_with (value_in m pid selector) (λ z. Err (unlabelled selector z))
failure_in m pid (action.While test body again) = forgotten (value_in m pid test)
failure_in m pid (action.Until test body again) = forgotten (value_in m pid test)
failure_in m pid (action.For variable low high first last down body) = then_with (value_in m pid first) (λ z. then_with (value_in m pid last) (λ end. forgotten (within low high z)))
failure_in m pid (action.Call routine component is_entry arguments result) = then_with (component_in m pid component) (λ n. then_with (arguments_in m pid arguments.items) (λ done. Err (cause.NotInitialised n)))
failure_in m pid (action.Start component routine arguments) = then_with (component_in m pid component) (λ n. then_with (arguments_in m pid arguments.items) (λ done. Err (cause.InitialisedTwice n)))
failure_in m pid (action.Delay place) = then_with (address_in m pid place) (used_at m)
failure_in m pid (action.Continue place) = forgotten (address_in m pid place)
failure_in m pid (action.Display e kind) = forgotten (value_in m pid e)
failure_in m pid _ = Ok tt

-- the value that a `for` comes to after one
abbrev pub next_of : (down : Bool) → ℤ → ℤ
next_of down z = if down then (if int_lt (neg_ℤ (pos 32768)) z then z -ℤ pos 1 else z) else (if int_lt z (pos 32767) then z +ℤ pos 1 else z)

abbrev pub failure_after : Action → ℤ → Result Nothing Cause
failure_after (action.For variable low high first last down body) z = forgotten (within low high (next_of down z))
failure_after _ z = Ok tt

abbrev pub failure_on : Tables → Machine → (pid : ℕ) → List Entry → Result Nothing Cause
failure_on r m pid (Rest at ∷ es) = failure_in m pid (item_at r at).action
failure_on r m pid (Successor at z last ∷ es) = failure_after (item_at r at).action z
failure_on r m pid _ = Ok tt

-- the topmost entry of a process
abbrev pub failure_of : Tables → Machine → (pid : ℕ) → Result Nothing Cause
failure_of r m pid = failure_on r m pid (thread_at m.threads pid).stack

-- ---- the error of a run

abbrev pub known : Result Nothing Cause → Option Cause
known (Ok done) = None
known (Err cause.Untold) = None
known (Err c) = Some c

-- why the next step of a process fails
abbrev pub cause_in : Tables → Machine → (pid : ℕ) → Option Cause
cause_in r m pid = if nat_lt pid (length m.threads) then known (failure_of r m pid) else None

abbrev pub cause_of_kind : Tables → Machine → OutcomeKind → Option Cause
cause_of_kind r m (RunError name process line) = cause_in r m process
cause_of_kind r m _ = None

-- what the error is of with which a run ended, by the state that it came to, which is that before the step
abbrev pub cause_of_end : Tables → Machine → Answer → Option Cause
cause_of_end r m (Ended outcome taken) = cause_of_kind r m outcome.kind
cause_of_end r m _ = None

abbrev pub cause_of_run : Tables → Discipline → (choices steps : ℕ) → List ℕ → Option Cause
cause_of_run r discipline choices steps word = cause_of_end r (last_state (slots r discipline) choices steps word) (run (slots r discipline) choices steps word)
