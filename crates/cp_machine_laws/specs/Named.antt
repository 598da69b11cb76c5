-- The meaning of a program on its own names, as a system.
use Rattle.std.specs.Prelude.{ℕ, ◌+◌, ℤ, pos, int_lt, Bool, true, false, length, map, Option, Some, None, slice_index_or}
use Rattle.cp_tree.specs.Syntax.{Program, Tree}
use Rattle.cp_store.specs.declared.error.ErrorName as slots
use Rattle.cp_store.specs.declared.error.ErrorName.TheVariants as error
use Rattle.cp_machine.specs.declared.event.Event as slot_event
use Rattle.cp_machine.specs.declared.event.Event.TheVariants as event
use Rattle.cp_machine.specs.declared.event.Kernel.TheVariants as call
use Rattle.cp_machine.specs.declared.discipline.Discipline as slot_discipline
use Rattle.cp_machine.specs.declared.discipline.Gates as slot_gates
use Rattle.cp_machine.specs.declared.discipline.Gates.TheVariants.{First, Any}
use Rattle.cp_machine.specs.declared.discipline.Signals as slot_signals
use Rattle.cp_machine.specs.declared.discipline.Signals.TheVariants as signals
use Rattle.cp_machine.specs.declared.shown.Shown as slot_shown
use Rattle.cp_machine.specs.declared.shown.Shown.TheVariants as shown
use Rattle.cp_run.specs.System.{System}
use Rattle.cp_meaning.specs.Outcome.{ErrorName, overflow, zero_divisor, out_of_range, no_case, queue_in_use, not_init, init_twice, assertion, invariant}
use Rattle.cp_meaning.specs.Types.{Base, integers, booleans, characters, enumerated, natural_of}
use Rattle.cp_meaning.specs.Values.{is_member}
use Rattle.cp_meaning.specs.State.{process_at, Gates, first_gates, any_gates, Signals, return_signals, continue_signals, wait_signals, Discipline, Shown, State}
use Rattle.cp_meaning.specs.Kernel.{Event, local_event, enter_event, leave_event, delay_event, continue_event, start_event, display_event, ended_event, fault_event, output_full, line_of}
use Rattle.cp_meaning.specs.Readings.{is_ready, waits, holder_of, monitors_of}
use Rattle.cp_meaning.specs.Steps.{opening, step_of, line_at, admitted}
use Rattle.cp_resolved.specs.Enumerations.{constants_before}

-- ---- what others see

abbrev pub error_of : ErrorName → slots.ErrorName
error_of overflow = error.Overflow
error_of zero_divisor = error.ZeroDivisor
error_of out_of_range = error.Range
error_of no_case = error.NoCase
error_of queue_in_use = error.QueueInUse
error_of not_init = error.NotInit
error_of init_twice = error.InitTwice
error_of assertion = error.Assertion
error_of invariant = error.Invariant

abbrev pub gates_of : Gates → slot_gates.Gates
gates_of first_gates = First
gates_of any_gates = Any

abbrev pub named_gates : slot_gates.Gates → Gates
named_gates First = first_gates
named_gates Any = any_gates

abbrev pub signals_of : Signals → slot_signals.Signals
signals_of return_signals = signals.Return
signals_of continue_signals = signals.Continue
signals_of wait_signals = signals.Wait

abbrev pub named_signals : slot_signals.Signals → Signals
named_signals signals.Return = return_signals
named_signals signals.Continue = continue_signals
named_signals signals.Wait = wait_signals

abbrev pub discipline_of : Discipline → slot_discipline.Discipline
discipline_of d = record { gates = gates_of d.gates; signals = signals_of d.signals }

abbrev pub named_discipline : slot_discipline.Discipline → Discipline
named_discipline d = record { gates = named_gates d.gates; signals = named_signals d.signals }

-- a displayed value; a constant of an enumeration by its number among all constants, by how many are declared before its enumeration
abbrev pub shown_by : (ℕ → ℕ) → Base → ℤ → slot_shown.Shown
shown_by firsts integers z = shown.Integer z
shown_by firsts booleans z = shown.Truth (int_lt (pos 0) z)
shown_by firsts characters z = shown.Char (natural_of z)
shown_by firsts (enumerated at xs) z = shown.Constant (firsts at + natural_of z)

abbrev pub shown_of : (ℕ → ℕ) → Shown → slot_shown.Shown
shown_of firsts x = shown_by firsts x.base x.number

-- the event of a step of process q, whose item begins on a line
abbrev pub event_of : (q line : ℕ) → Event → slot_event.Event
event_of q line local_event = event.Local
event_of q line enter_event = event.Kernel call.Enter
event_of q line leave_event = event.Kernel call.Leave
event_of q line delay_event = event.Kernel call.Delay
event_of q line continue_event = event.Kernel call.Continue
event_of q line start_event = event.Kernel call.StartProcess
event_of q line display_event = event.Kernel call.Display
event_of q line ended_event = event.Ended
event_of q line (fault_event e) = event.Fault (record { name = error_of e; process = q; line = line })
event_of q line output_full = event.OutputFull

-- ---- readings

abbrev pub is_some : Option ℕ → Bool
is_some None = false
is_some (Some m) = true

abbrev pub in_line_of : Option ℕ → State → ℕ → Bool
in_line_of None s q = false
in_line_of (Some m) s q = is_member q (line_of s m)

-- the component that is the monitor of a number
abbrev pub monitor_number : Program → Discipline → ℕ → ℕ
monitor_number p g n = slice_index_or (monitors_of (opening p g)) n (length (opening p g).components)

-- ---- the system

abbrev pub named : Tree → Discipline → System State
named t g =
    record {
      processes = length (opening t.program g).processes;
      monitors = length (monitors_of (opening t.program g));
      start = opening t.program g;
      step = λ s q. (step_of t.program s q).state;
      event = λ s q. event_of q (line_at t s q) (step_of t.program s q).event;
      admit = admitted;
      is_ready = λ s q. is_ready (process_at s.processes q).status;
      is_pending = λ s. is_some s.pending;
      in_line = λ s q. in_line_of s.pending s q;
      waits = waits;
      holder = λ s n. holder_of s (monitor_number t.program g n);
      output = λ s. map (shown_of (constants_before t.program)) s.output;
    }
