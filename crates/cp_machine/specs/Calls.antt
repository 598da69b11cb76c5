-- Calls, starts of components, and their ends.
use Rattle.std.specs.Prelude.{ℕ, ◌∷◌, List, length, take, Option, Some, None, ℤ, pos, slice_set, slice_index_or, Bool, true, false, if◌then◌else◌}
use Rattle.cp_slots.specs.Tables.{Tables, component_at, routine_at}
use Rattle.cp_slots.specs.declared.place.Argument.{Argument}
use Rattle.cp_slots.specs.declared.place.ComponentPlace.{ComponentPlace}
use Rattle.cp_slots.specs.declared.place.Place.{Place}
use Rattle.cp_slots.specs.declared.tables.ComponentKind.{ComponentKind}
use Rattle.cp_slots.specs.declared.tables.ComponentKind.TheVariants as kind
use Rattle.cp_store.specs.declared.error.ErrorName.TheVariants.{NotInit, InitTwice, QueueInUse}
use Rattle.cp_store.specs.declared.memory.Address.{Address}
use Rattle.cp_store.specs.declared.memory.Address.TheVariants as address
use Rattle.cp_store.specs.declared.argument.Bound.{Bound}
use Rattle.cp_store.specs.declared.memory.Frame.{Frame}
use Rattle.cp_store.specs.Memory.{onward}
use Rattle.cp_store.specs.Values.{is_true}
use Rattle.cp_machine.specs.declared.discipline.Signals.{Signals}
use Rattle.cp_machine.specs.declared.discipline.Signals.TheVariants as signals
use Rattle.cp_machine.specs.declared.event.Event.TheVariants.{Kernel}
use Rattle.cp_machine.specs.declared.event.Kernel.TheVariants.{Enter, Leave, Delay, Continue, StartProcess}
use Rattle.cp_machine.specs.declared.process.Entry.{Entry}
use Rattle.cp_machine.specs.declared.process.Entry.TheVariants.{Return, InitEnd}
use Rattle.cp_machine.specs.declared.process.Status.TheVariants.{Ready}
use Rattle.cp_machine.specs.declared.state.Phase.TheVariants.{Initialising, Initialised}
use Rattle.cp_machine.specs.Kernel.{let_in, enter_caller, delay_caller, resume, signal}
use Rattle.cp_machine.specs.Machine.{Machine, Thread, thread_at, phase_at, is_initialised, is_uninitialised, is_unstarted, with_thread, with_stack, with_status, with_phase}
use Rattle.cp_machine.specs.Memory.{component_of, arguments_of, add_frame, frame_bound, parameters_bound, address_of}
use Rattle.cp_machine.specs.Stack.{rest_of, from_end}
use Rattle.cp_machine.specs.Statements.{Stepped, local, fault, with_value}

-- ---- the frame of a call, or of an initial statement

-- after the cells and references that the process has
abbrev pub frame_behind : Tables → Thread → (routine component : ℕ) → Frame
frame_behind r t routine component =
    record {
      routine = routine;
      component = component;
      own = (component_at r component).base;
      base = length t.cells;
      references = length t.references;
    }

-- a frame for a routine in a component, whose statements stand above their end
abbrev pub open_frame : Tables → Machine → (pid routine component : ℕ) → Entry → List Entry → Machine
open_frame r m pid routine component end rest =
    let t = thread_at m.threads pid in
    with_thread m pid (add_frame (record t { frame = frame_behind r t routine component; stack = rest_of (routine_at r routine).body (end ∷ rest) }) (routine_at r routine))

-- the result is put in its place
abbrev pub with_result : Option ℕ → ℤ → Frame → List ℤ → List ℤ
with_result None z caller cells = cells
with_result (Some slot) z caller cells = slice_set cells (onward caller.base slot) z

-- the innermost frame is given up, and the process goes on in the caller's; a function's result is taken from a cell of the frame
abbrev pub give_up_from : Thread → Frame → (from : ℕ) → Option ℕ → List Entry → Thread
give_up_from t caller from result es =
    record t {
      frame = caller;
      stack = es;
      cells = with_result result (slice_index_or t.cells (onward t.frame.base from) (pos 0)) caller (take t.frame.base t.cells);
      references = take t.frame.references t.references;
    }

abbrev pub give_up_frame : Tables → Thread → Frame → Option ℕ → List Entry → Thread
give_up_frame r t caller result es = give_up_from t caller (routine_at r t.frame.routine).result result es

abbrev pub leave_frame : Tables → Machine → (pid : ℕ) → Frame → Option ℕ → List Entry → Machine
leave_frame r m pid caller result es = with_thread m pid (give_up_frame r (thread_at m.threads pid) caller result es)

-- ---- calls: the component's place comes first, then the arguments, then whether the component is initialised

-- in a component; the end leaves the monitor, if there is one
abbrev pub open_call : Tables → Machine → (pid routine component : ℕ) → List Argument → List Bound → (result monitor : Option ℕ) → List Entry → Machine
open_call r m pid routine component arguments bounds result monitor rest =
    frame_bound (open_frame r m pid routine component (Return (thread_at m.threads pid).frame result monitor) rest) pid arguments bounds

-- an entry of a monitor begins with the kernel's enter; a process has no entries
abbrev pub call_in : Tables → Machine → (pid : ℕ) → ComponentKind → (routine component : ℕ) → List Argument → List Bound → Option ℕ → List Entry → Stepped
call_in r m pid (kind.Monitor monitor) routine component arguments bounds result rest =
    record { machine = enter_caller (open_call r m pid routine component arguments bounds result (Some monitor) rest) pid monitor; event = Kernel Enter }
call_in r m pid kind.Class routine component arguments bounds result rest = local (open_call r m pid routine component arguments bounds result None rest)
call_in r m pid (kind.Process number) routine component arguments bounds result rest = local (with_stack m pid rest)

abbrev pub call_by : Tables → Machine → (pid line : ℕ) → (is_entry : Bool) → (routine component : ℕ) → List Argument → List Bound → Option ℕ → List Entry → Stepped
call_by r m pid line false routine component arguments bounds result rest = local (open_call r m pid routine component arguments bounds result None rest)
call_by r m pid line true routine component arguments bounds result rest =
    if is_initialised (phase_at m component)
    then call_in r m pid (component_at r component).kind routine component arguments bounds result rest
    else fault m pid line NotInit

abbrev pub call : Tables → Machine → (pid line routine : ℕ) → ComponentPlace → (is_entry : Bool) → List Argument → Option ℕ → List Entry → Stepped
call r m pid line routine place is_entry arguments result rest =
    with_value (component_of m pid place) (fault m pid line)
    (λ component. with_value (arguments_of m pid arguments) (fault m pid line)
    (λ bounds. call_by r m pid line is_entry routine component arguments bounds result rest))

-- ---- starts, in the same order

-- the parameters of process q are bound, and it is ready
abbrev pub start_process : Tables → Machine → (pid line q component : ℕ) → List Argument → List Bound → List Entry → Stepped
start_process r m pid line q component arguments bounds rest =
    if is_unstarted (thread_at m.threads q).status
    then record { machine = with_status (parameters_bound (with_stack m pid rest) pid (component_at r component).base arguments bounds) q Ready; event = Kernel StartProcess }
    else fault m pid line InitTwice

-- the parameters of a class or monitor are bound, and its initial statement is executed
abbrev pub start_inside : Tables → Machine → (pid line routine component : ℕ) → List Argument → List Bound → List Entry → Stepped
start_inside r m pid line routine component arguments bounds rest =
    if is_uninitialised (phase_at m component)
    then local (with_phase (parameters_bound (open_frame r m pid routine component (InitEnd (thread_at m.threads pid).frame component) rest) pid (component_at r component).base arguments bounds) component Initialising)
    else fault m pid line InitTwice

abbrev pub start_by : Tables → Machine → (pid line : ℕ) → ComponentKind → (routine component : ℕ) → List Argument → List Bound → List Entry → Stepped
start_by r m pid line (kind.Process q) routine component arguments bounds rest = start_process r m pid line q component arguments bounds rest
start_by r m pid line (kind.Monitor monitor) routine component arguments bounds rest = start_inside r m pid line routine component arguments bounds rest
start_by r m pid line kind.Class routine component arguments bounds rest = start_inside r m pid line routine component arguments bounds rest

abbrev pub start : Tables → Machine → (pid line : ℕ) → ComponentPlace → (routine : ℕ) → List Argument → List Entry → Stepped
start r m pid line place routine arguments rest =
    with_value (component_of m pid place) (fault m pid line)
    (λ component. with_value (arguments_of m pid arguments) (fault m pid line)
    (λ bounds. start_by r m pid line (component_at r component).kind routine component arguments bounds rest))

-- ---- ends

-- the end of a call: that of a monitor's entry is the kernel's leave
abbrev pub return_to : Tables → Machine → (pid : ℕ) → Frame → (result monitor : Option ℕ) → List Entry → Stepped
return_to r m pid caller result None es = local (leave_frame r m pid caller result es)
return_to r m pid caller result (Some monitor) es = record { machine = let_in (leave_frame r m pid caller result es) monitor; event = Kernel Leave }

-- the end of an initial statement: the component is initialised
abbrev pub end_init : Tables → Machine → (pid : ℕ) → Frame → (component : ℕ) → List Entry → Stepped
end_init r m pid caller component es = local (with_phase (leave_frame r m pid caller None es) component Initialised)

-- ---- delay and continue, in a monitor; what no accepted program does is passed over

abbrev pub delay_in : Machine → (pid line cell : ℕ) → ComponentKind → List Entry → Stepped
delay_in m pid line cell (kind.Monitor monitor) rest =
    if is_true (slice_index_or m.permanents cell (pos 0)) then fault m pid line QueueInUse
    else record { machine = delay_caller (with_stack m pid rest) pid monitor cell; event = Kernel Delay }
delay_in m pid line cell kind.Class rest = local (with_stack m pid rest)
delay_in m pid line cell (kind.Process number) rest = local (with_stack m pid rest)

abbrev pub delay_at : Tables → Machine → (pid line : ℕ) → List Entry → Address → Stepped
delay_at r m pid line rest (address.Permanent cell) = delay_in m pid line cell (component_at r (thread_at m.threads pid).frame.component).kind rest
delay_at r m pid line rest (address.Local cell) = local (with_stack m pid rest)

abbrev pub delay : Tables → Machine → (pid line : ℕ) → Place → List Entry → Stepped
delay r m pid line place rest = with_value (address_of m pid place) (fault m pid line) (delay_at r m pid line rest)

-- the end of the entry is on top: it returns, and the kernel goes on
abbrev pub continue_from : Tables → Machine → (pid cell : ℕ) → List Entry → Stepped
continue_from r m pid cell (Return caller result (Some monitor) ∷ es) =
    record { machine = resume (leave_frame r m pid caller result es) monitor cell; event = Kernel Continue }
continue_from r m pid cell _ = local m

-- the statement alone is removed, and the kernel goes on
abbrev pub continue_in : Machine → (pid cell : ℕ) → ComponentKind → List Entry → Stepped
continue_in m pid cell (kind.Monitor monitor) rest = record { machine = signal (with_stack m pid rest) pid monitor cell; event = Kernel Continue }
continue_in m pid cell kind.Class rest = local (with_stack m pid rest)
continue_in m pid cell (kind.Process number) rest = local (with_stack m pid rest)

-- by the discipline: the rest of the entry is removed, or the statement alone
abbrev pub continue_by : Signals → Tables → Machine → (pid cell : ℕ) → (next : Option ℕ) → List Entry → Stepped
continue_by signals.Return r m pid cell next es = continue_from r (with_stack m pid (from_end es)) pid cell (from_end es)
continue_by _ r m pid cell next es = continue_in m pid cell (component_at r (thread_at m.threads pid).frame.component).kind (rest_of next es)

abbrev pub continue_at : Tables → Machine → (pid : ℕ) → (next : Option ℕ) → List Entry → Address → Stepped
continue_at r m pid next es (address.Permanent cell) = continue_by m.discipline.signals r m pid cell next es
continue_at r m pid next es (address.Local cell) = local (with_stack m pid (rest_of next es))

abbrev pub continue : Tables → Machine → (pid line : ℕ) → Place → (next : Option ℕ) → List Entry → Stepped
continue r m pid line place next es = with_value (address_of m pid place) (fault m pid line) (continue_at r m pid next es)
