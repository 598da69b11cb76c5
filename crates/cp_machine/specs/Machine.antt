-- The slot machine as plain data.
use Rattle.std.specs.Prelude.{drop, ℕ, [], ◌∷◌, List, length, Option, Some, None, ℤ, Bool, true, false, map, slice_set, slice_index_or, ◌==◌}
use Rattle.std.specs.List.{filter, range_with_len, list_any}
use Rattle.cp_store.specs.declared.memory.Address.{Address}
use Rattle.cp_store.specs.declared.memory.Frame.{Frame}
use Rattle.cp_machine.specs.declared.discipline.Discipline.{Discipline}
use Rattle.cp_machine.specs.declared.process.Entry.{Entry}
use Rattle.cp_machine.specs.declared.process.ProcessState.{ProcessState}
use Rattle.cp_machine.specs.declared.process.Status.{Status}
use Rattle.cp_machine.specs.declared.process.Status.TheVariants.{Unstarted, Ready, AtGate, Delayed, Ended}
use Rattle.cp_machine.specs.declared.shown.Shown.{Shown}
use Rattle.cp_machine.specs.declared.state.Gate.{Gate}
use Rattle.cp_machine.specs.declared.state.Phase.{Phase}
use Rattle.cp_machine.specs.declared.state.Phase.TheVariants.{Uninitialised, Initialised}
use Rattle.cp_machine.specs.declared.state.Readiness.{Readiness}
use Rattle.cp_machine.specs.declared.state.Readiness.TheVariants.{Nobody, One, Several}
use Rattle.cp_machine.specs.declared.state.State.{State}
use Rattle.cp_machine.specs.Stack.{top_first}

-- A process: its status, where it executes, its control stack with the top first, the cells of its frames from the outermost on,
-- and the places that the `var` parameters of these frames name.
pub record Thread : Type 0 where
  pub status : Status
  pub frame : Frame
  pub stack : List Entry
  pub cells : List ℤ
  pub references : List Address

-- a monitor: the process inside, and the line at its gate
pub record Monitor : Type 0 where
  pub holder : Option ℕ
  pub line : List ℕ

pub record Machine : Type 0 where
  pub permanents : List ℤ
  pub bindings : List ℕ
  pub phases : List Phase
  pub threads : List Thread
  pub monitors : List Monitor
  pub pending : Option ℕ
  pub discipline : Discipline
  pub output : List Shown

-- ---- what a state of the code is seen as

abbrev pub thread_of : ProcessState → Thread
thread_of p =
    record {
      status = p.status;
      frame = p.frame;
      stack = top_first p.stack;
      cells = p.room.cells.items;
      references = p.room.references.items;
    }

abbrev pub monitor_of : Gate → Monitor
monitor_of g = record { holder = g.holder; line = g.line.items }

abbrev pub machine_of : State → Machine
machine_of s =
    record {
      permanents = s.permanents.items;
      bindings = s.bindings.items;
      phases = s.phases.items;
      threads = map thread_of s.processes.items;
      monitors = map monitor_of s.guards.items;
      pending = s.pending;
      discipline = s.discipline;
      output = s.output.items;
    }

-- ---- readings

abbrev pub no_frame : Frame
no_frame = record { routine = 0; component = 0; own = 0; base = 0; references = 0 }

abbrev pub no_thread : Thread
no_thread = record { status = Ended; frame = no_frame; stack = []; cells = []; references = [] }

abbrev pub thread_at : List Thread → ℕ → Thread
thread_at threads pid = slice_index_or threads pid no_thread

abbrev pub no_monitor : Monitor
no_monitor = record { holder = None; line = [] }

abbrev pub monitor_at : Machine → ℕ → Monitor
monitor_at m monitor = slice_index_or m.monitors monitor no_monitor

abbrev pub phase_at : Machine → ℕ → Phase
phase_at m component = slice_index_or m.phases component Uninitialised

abbrev pub is_initialised : Phase → Bool
is_initialised Initialised = true
is_initialised _ = false

abbrev pub is_uninitialised : Phase → Bool
is_uninitialised Uninitialised = true
is_uninitialised _ = false

abbrev pub is_ready_status : Status → Bool
is_ready_status Ready = true
is_ready_status _ = false

abbrev pub is_unstarted : Status → Bool
is_unstarted Unstarted = true
is_unstarted _ = false

abbrev pub is_waiting : Status → Bool
is_waiting (AtGate monitor) = true
is_waiting (Delayed cell) = true
is_waiting _ = false

abbrev pub is_at_gate : ℕ → Status → Bool
is_at_gate monitor (AtGate gate) = gate == monitor
is_at_gate monitor _ = false

-- waits in the queue that has this permanent cell
abbrev pub is_delayed_at : ℕ → Status → Bool
is_delayed_at cell (Delayed queue) = queue == cell
is_delayed_at cell _ = false

abbrev pub is_ready : Machine → ℕ → Bool
is_ready m pid = is_ready_status (thread_at m.threads pid).status

-- the processes that are ready, in rising order
abbrev pub ready_of : Machine → List ℕ
ready_of m = filter (is_ready m) (range_with_len 0 (length m.threads))

-- whether that is nobody, one process alone, or several
abbrev pub readiness_of : List ℕ → Readiness
readiness_of [] = Nobody
readiness_of (p ∷ []) = One p
readiness_of (p ∷ q ∷ ps) = Several

-- one process more
abbrev pub one_ready_more : Readiness → ℕ → Readiness
one_ready_more Nobody p = One p
one_ready_more (One q) p = Several
one_ready_more Several p = Several

-- the processes at the gate of a monitor, in rising order
abbrev pub waiting_of : Machine → ℕ → List ℕ
waiting_of m monitor = filter (λ pid. is_at_gate monitor (thread_at m.threads pid).status) (range_with_len 0 (length m.threads))

-- whether some process is at a gate or delayed
abbrev pub waits : Machine → Bool
waits m = list_any (λ t. is_waiting t.status) m.threads

abbrev pub is_some : Option ℕ → Bool
is_some None = false
is_some (Some monitor) = true

-- whether a monitor's gate waits for a choice
abbrev pub is_pending : Machine → Bool
is_pending m = is_some m.pending

abbrev pub in_line_of : Option ℕ → Status → Bool
in_line_of None status = false
in_line_of (Some monitor) status = is_at_gate monitor status

-- whether a process is in the line of the pending monitor
abbrev pub in_line : Machine → ℕ → Bool
in_line m pid = in_line_of m.pending (thread_at m.threads pid).status

abbrev pub output_of : Machine → List Shown
output_of m = m.output

-- the entries below the topmost one of a process
abbrev pub under : Machine → ℕ → List Entry
under m pid = drop 1 (thread_at m.threads pid).stack

-- ---- parts of a machine that change

abbrev pub with_permanents : Machine → List ℤ → Machine
with_permanents m permanents = record m { permanents = permanents }

abbrev pub with_bindings : Machine → List ℕ → Machine
with_bindings m bindings = record m { bindings = bindings }

abbrev pub with_phase : Machine → ℕ → Phase → Machine
with_phase m component phase = record m { phases = slice_set m.phases component phase }

abbrev pub with_thread : Machine → ℕ → Thread → Machine
with_thread m pid t = record m { threads = slice_set m.threads pid t }

abbrev pub with_stack : Machine → ℕ → List Entry → Machine
with_stack m pid stack = with_thread m pid (record (thread_at m.threads pid) { stack = stack })

abbrev pub with_status : Machine → ℕ → Status → Machine
with_status m pid status = with_thread m pid (record (thread_at m.threads pid) { status = status })

abbrev pub with_cells : Machine → ℕ → List ℤ → Machine
with_cells m pid cells = with_thread m pid (record (thread_at m.threads pid) { cells = cells })

abbrev pub with_monitor : Machine → ℕ → Monitor → Machine
with_monitor m monitor x = record m { monitors = slice_set m.monitors monitor x }

abbrev pub with_pending : Machine → Option ℕ → Machine
with_pending m pending = record m { pending = pending }

abbrev pub with_output : Machine → List Shown → Machine
with_output m output = record m { output = output }
