-- Kernel rules: one case for each kernel call, and for the other events (the book, chapters 8 and 9; the gates are this profile's).
use Rattle.std.specs.Prelude.{ℕ, suc, ◌==◌, Bool, true, false, ◌&&◌, ◌||◌, if◌then◌else◌, List, [], ◌∷◌, ◌++◌, length, Option, Some, None, slice_set}
use Rattle.cp_tree.specs.declared.declaration.SystemKind.{SystemKind}
use Rattle.cp_tree.specs.declared.declaration.SystemKind.TheVariants as system_kind
use Rattle.cp_tree.specs.Syntax.{Program}
use Rattle.cp_meaning.specs.Outcome.{ErrorName, init_twice}
use Rattle.cp_meaning.specs.Systems.{SystemMeaning, system_of}
use Rattle.cp_meaning.specs.State.{Environment, Component, component_at, own_statement, Call, Item, end, Status, unstarted, ready, at_gate, delayed, ended, Process, process_at, Gates, first_gates, any_gates, Signals, return_signals, continue_signals, wait_signals, Shown, State, has_entry, is_inside}
use Rattle.cp_meaning.specs.Lifting.{items_of_all}
use Rattle.cp_meaning.specs.Places.{with_permanents}
use Rattle.cp_meaning.specs.Move.{Move, stays, enters, leaves, delays, continues, starts, shows, ends, Doing}

-- what a step was: local, one of the six kernel calls, the end of the process, a run error, or a full output
pub data Event : Type 0 where
  local_event : Event
  enter_event : Event
  leave_event : Event
  delay_event : Event
  continue_event : Event
  start_event : Event
  display_event : Event
  ended_event : Event
  fault_event : ErrorName → Event
  output_full : Event

-- the state after a step, and its event
pub record Stepped : Type 0 where
  pub state : State
  pub event : Event

-- the number of values that the output has room for
abbrev pub output_room : ℕ
output_room = 1000

-- ---- parts of a state

abbrev pub with_processes : State → List Process → State
with_processes s ps = record s { processes = ps }

abbrev pub with_line : List Component → ℕ → List ℕ → List Component
with_line cs m line =
    let c = component_at cs m in
    slice_set cs m (record { path = c.path; system = c.system; kind = c.kind; status = c.status; environment = c.environment; line = line })

abbrev pub with_line_of : State → ℕ → List ℕ → State
with_line_of s m line = record s { components = with_line s.components m line }

-- a monitor is pending, or none
abbrev pub with_pending : State → Option ℕ → State
with_pending s o = record s { pending = o }

-- who waits at the gate of the monitor, first come first
abbrev pub line_of : State → ℕ → List ℕ
line_of s m = (component_at s.components m).line

-- the process is as its item left it, with this status
abbrev pub moved_to : Status → State → ℕ → Doing → State
moved_to status s pid d =
    record s {
      processes = slice_set s.processes pid (record { component = (process_at s.processes pid).component; status = status; calls = d.calls; items = d.items });
      components = d.components;
    }

abbrev pub with_process_status : Process → Status → Process
with_process_status p status = record p { status = status }

-- q goes on
abbrev pub made_ready : State → ℕ → State
made_ready s q = with_processes s (slice_set s.processes q (with_process_status (process_at s.processes q) ready))

-- ---- the line is let in

-- the first goes in
abbrev pub first_in : List ℕ → State → ℕ → State
first_in [] s m = s
first_in (q ∷ line) s m = with_line_of (made_ready s q) m line

-- one alone goes in; of more, one has to be admitted
abbrev pub one_in : List ℕ → State → ℕ → State
one_in [] s m = s
one_in (q ∷ []) s m = with_line_of (made_ready s q) m []
one_in (q ∷ r ∷ line) s m = with_pending s (Some m)

-- the line is let in, by the gates with which the state was started
abbrev pub let_in : Gates → State → ℕ → State
let_in first_gates s m = first_in (line_of s m) s m
let_in any_gates s m = one_in (line_of s m) s m

-- ---- kernel calls

-- whether an entry call of the monitor has to wait
abbrev pub is_anybody_inside : ℕ → List Process → Bool
is_anybody_inside m [] = false
is_anybody_inside m (p ∷ ps) = is_inside m p || is_anybody_inside m ps

-- enter: the caller goes in if nobody is inside, and else to the end of the line
abbrev pub entering : Bool → State → ℕ → ℕ → Doing → State
entering false s pid m d = moved_to ready s pid d
entering true s pid m d = let t = moved_to (at_gate m) s pid d in with_line_of t m (line_of t m ++ pid ∷ [])

abbrev pub is_delayed_in : ℕ → Status → Bool
is_delayed_in m (delayed n) = n == m
is_delayed_in m status = false

-- ---- continue, by the discipline with which the state was started
-- Each asks whether who waited in the queue is delayed in the monitor. The test is a guard. An accepted program always passes it: a queue is a variable of
-- one monitor (C11), no parameter (C15) and never assigned (C6), and `delay` and `continue` stand in that monitor (C12); so it has the number of a process
-- exactly while that process is delayed in the monitor.

abbrev pub is_monitor : SystemKind → Bool
is_monitor system_kind.Monitor = true
is_monitor kind = false

-- the guard of those disciplines by which somebody comes to the gate
abbrev pub waits_inside : State → ℕ → ℕ → Bool
waits_inside s m r =
    is_monitor (component_at s.components m).kind && has_entry m (process_at s.processes r).calls && is_delayed_in m (process_at s.processes r).status

-- the caller has returned: who waited is ready and inside; else the line is let in
abbrev pub continuing : State → ℕ → Option ℕ → State
continuing s m None = let_in s.discipline.gates s m
continuing s m (Some r) = if is_delayed_in m (process_at s.processes r).status then made_ready s r else let_in s.discipline.gates s m

-- q comes to the end of the line at the gate
abbrev pub at_gate_last : State → ℕ → ℕ → State
at_gate_last s m q = with_line_of (with_processes s (slice_set s.processes q (with_process_status (process_at s.processes q) (at_gate m)))) m (line_of s m ++ q ∷ [])

-- the caller goes on: who waited comes to the end of the line
abbrev pub notifying : State → ℕ → Option ℕ → State
notifying s m None = s
notifying s m (Some r) = if waits_inside s m r then at_gate_last s m r else s

-- the caller waits at the gate, as the first of the line
abbrev pub at_gate_first : State → ℕ → ℕ → Doing → State
at_gate_first s pid m d = let t = moved_to (at_gate m) s pid d in with_line_of t m (pid ∷ line_of t m)

-- who waited is ready and inside, and the caller waits until it is let in; where nobody waited, the caller goes on
abbrev pub yielding : State → ℕ → ℕ → Doing → Option ℕ → State
yielding s pid m d None = moved_to ready s pid d
yielding s pid m d (Some r) =
    if waits_inside s m r
    then made_ready (at_gate_first s pid m d) r
    else moved_to ready s pid d

-- the caller as it is where it goes on
abbrev pub going_on : Doing → List Call → List Item → Doing
going_on d calls items = record d { calls = calls; items = items }

abbrev pub signalling : Signals → State → ℕ → Doing → ℕ → Option ℕ → List Call → List Item → State
signalling return_signals s pid d m o calls items = continuing (moved_to ready s pid d) m o
signalling continue_signals s pid d m o calls items = notifying (moved_to ready s pid (going_on d calls items)) m o
signalling wait_signals s pid d m o calls items = yielding s pid m (going_on d calls items) o

-- the number after this one, if there is one
abbrev pub after : Option ℕ → Option ℕ
after None = None
after (Some q) = Some (suc q)

-- the number of the process whose component this is
abbrev pub process_of : ℕ → List Process → Option ℕ
process_of d [] = None
process_of d (p ∷ ps) = if p.component == d then Some 0 else after (process_of d ps)

-- a process that begins
abbrev pub begun : ℕ → SystemMeaning → Process
begun d m =
    record {
      component = d;
      status = ready;
      calls = (let c : Call = record { component = d; kind = own_statement; scope = m.scope; environment = [] } in c) ∷ [];
      items = items_of_all m.scope m.body ++ end ∷ [];
    }

-- the started process, with its parameters bound
abbrev pub with_begun : Program → State → ℕ → ℕ → Environment → State
with_begun p s r d e =
    record s {
      processes = slice_set s.processes r (begun d (system_of p (component_at s.components d).system));
      components = with_permanents s.components d (e ++ (component_at s.components d).environment);
    }

-- start of a process that is unstarted
abbrev pub starting_as : Program → State → ℕ → Doing → ℕ → Status → ℕ → Environment → Stepped
starting_as p s pid d r unstarted c e = record { state = with_begun p (moved_to ready s pid d) r c e; event = start_event }
starting_as p s pid d r status c e = record { state = s; event = fault_event init_twice }

-- Start of a process: its parameters are bound and it is ready; the caller goes on. The first clause is a guard for a component that is no process of the
-- program. No accepted program meets it: what it starts is a component variable (C17), and each component of kind process has a process.
abbrev pub starting : Program → State → ℕ → Doing → Option ℕ → ℕ → Environment → Stepped
starting p s pid d None c e = record { state = moved_to ready s pid d; event = start_event }
starting p s pid d (Some r) c e = starting_as p s pid d r (process_at (moved_to ready s pid d).processes r).status c e

-- display: where the output has no room, nothing changes
abbrev pub displaying : Bool → State → ℕ → Doing → Shown → Stepped
displaying true s pid d x = record { state = s; event = output_full }
displaying false s pid d x =
    let t = moved_to ready s pid d in
    record { state = record t { output = t.output ++ x ∷ [] }; event = display_event }

-- One case for each kernel call; a local step changes nothing beside what its item did. A process that has ended keeps its own call open, which
-- nothing reads.
abbrev pub kernel_step : Program → State → ℕ → Doing → Move → Stepped
kernel_step p s pid d stays = record { state = moved_to ready s pid d; event = local_event }
kernel_step p s pid d (enters m) = record { state = entering (is_anybody_inside m s.processes) s pid m d; event = enter_event }
kernel_step p s pid d (leaves m) = record { state = let_in s.discipline.gates (moved_to ready s pid d) m; event = leave_event }
kernel_step p s pid d (delays m) = record { state = let_in s.discipline.gates (moved_to (delayed m) s pid d) m; event = delay_event }
kernel_step p s pid d (continues m o calls items) = record { state = signalling s.discipline.signals s pid d m o calls items; event = continue_event }
kernel_step p s pid d (starts c e) = starting p s pid d (process_of c (moved_to ready s pid d).processes) c e
kernel_step p s pid d (shows x) = displaying (length s.output == output_room) s pid d x
kernel_step p s pid d ends = record { state = moved_to ended s pid d; event = ended_event }
