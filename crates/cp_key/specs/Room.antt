-- What a state needs so that it can become a machine without memory.
use Rattle.std.specs.Prelude.{◌≡◌, ◌<◌, ◌≤◌, ℕ, List, length, slice_index_or, vec_capacity}
use Rattle.cp_slots.specs.Tables.{Tables}
use Rattle.cp_machine.specs.declared.process.ProcessState.{ProcessState}
use Rattle.cp_machine.specs.declared.state.State.{State}
use Rattle.cp_machine.specs.declared.state.TheConstants.{MOST_SHOWN}
use Rattle.cp_machine.specs.Fits.{LinesFit, MachineFits}
use Rattle.cp_machine.specs.Machine.{Machine, Monitor, Thread, no_monitor, no_thread}
use Rattle.cp_machine.specs.Reach.{Reaches}

-- the machine is one of the program's
pub record IsMachineOf (r : Tables) (m : Machine) : Type 0 where
  pub fits : MachineFits r m
  pub lines : LinesFit m
  pub reach : Reaches r m
  pub shown : length m.output ≤ MOST_SHOWN

-- a process has room for a thread
pub record HasThreadRoom (p : ProcessState) (t : Thread) : Type 0 where
  pub stack : length t.stack ≤ vec_capacity p.stack
  pub cells : length t.cells ≤ vec_capacity p.room.cells
  pub references : length t.references ≤ vec_capacity p.room.references

-- as many processes as threads, each with room for its own
pub record HaveThreadRoom (ps : List ProcessState) (ts : List Thread) : Type 0 where
  pub count : length ts ≡ length ps
  pub each : (q : ℕ) (d : ProcessState) → q < length ps → HasThreadRoom (slice_index_or ps q d) (slice_index_or ts q no_thread)

abbrev pub AreShort : List Monitor → Type 0
AreShort monitors = (monitor : ℕ) → length (slice_index_or monitors monitor no_monitor).line ≤ 16

-- a state has room for a machine
pub record HasMachineRoom (s : State) (m : Machine) : Type 0 where
  pub permanents : length m.permanents ≤ vec_capacity s.permanents
  pub bindings : length m.bindings ≤ vec_capacity s.bindings
  pub phases : length m.phases ≤ vec_capacity s.phases
  pub threads : HaveThreadRoom s.processes.items m.threads
  pub monitors : length m.monitors ≡ length s.guards.items
  pub short : AreShort m.monitors
  pub output : length m.output ≤ vec_capacity s.output
