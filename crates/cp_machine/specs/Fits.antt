-- When a state is a program's: each process stays inside what was reserved for it.
use Rattle.std.specs.Prelude.{◌≡◌, ◌+◌, ◌<◌, ◌≤◌, ℕ, [], ◌∷◌, List, length, Option, Some, slice_index_or, vec_capacity, vec_len, None, IfSome, IsTrue, eqb}
use Rattle.std.specs.List.{IsDistinct, list_any}
use Rattle.cp_slots.specs.Tables.{Tables, item_at, routine_at}
use Rattle.cp_slots.specs.Fits.{IsSound, Nests}
use Rattle.cp_slots.specs.declared.item.Item.{Item}
use Rattle.cp_store.specs.declared.memory.Frame.{Frame}
use Rattle.cp_machine.specs.declared.process.Entry.{Entry}
use Rattle.cp_machine.specs.declared.process.Entry.TheVariants.{Rest, Successor, Return, InitEnd}
use Rattle.cp_machine.specs.declared.process.ProcessState.{ProcessState}
use Rattle.cp_machine.specs.declared.state.State.{State}
use Rattle.cp_machine.specs.declared.state.TheConstants.{MOST_SHOWN}
use Rattle.cp_machine.specs.Machine.{Machine, Thread, is_at_gate, is_ready, machine_of, monitor_at, thread_at, under}
use Rattle.cp_machine.specs.Reach.{Reaches, size_of}
pub use Rattle.cp_machine.specs.Reach.{size_of}

-- the routine is there, and there is room for its frame and for those above it
pub record FrameFits (r : Tables) (f : Frame) : Type 0 where
  pub routine : f.routine < length r.routines
  pub cells : f.base + (routine_at r f.routine).room ≤ r.cells
  pub references : f.references + (routine_at r f.routine).reference_room ≤ r.references

-- the frame follows that of its caller
pub record Follows (r : Tables) (f caller : Frame) : Type 0 where
  pub fits : FrameFits r f
  pub cells : f.base ≡ caller.base + size_of r caller.routine
  pub references : f.references ≡ caller.references + (routine_at r caller.routine).references

-- an item whose list fits above this many entries
pub record EntryFits (r : Tables) (f : Frame) (at below : ℕ) : Type 0 where
  pub nests : Nests r f.routine (item_at r at).need at
  pub deep : below + 1 + (item_at r at).need ≤ r.depth

-- the entries, from the topmost, stay inside what was reserved
abbrev pub StackFits : Tables → Frame → List Entry → Type 0
StackFits r f [] = FrameFits r f
StackFits r f (Rest at ∷ es) = EntryFits r f at (length es) × StackFits r f es
StackFits r f (Successor at value last ∷ es) = EntryFits r f at (length es) × StackFits r f es
StackFits r f (Return caller result monitor ∷ es) = Follows r f caller × (length es + 1 ≤ r.depth) × IfSome monitor (λ number. number < r.monitors) × StackFits r caller es
StackFits r f (InitEnd caller component ∷ es) = Follows r f caller × (length es + 1 ≤ r.depth) × StackFits r caller es

-- a process stays inside its control stack, and its cells and references are those of its frames
pub record ThreadFits (r : Tables) (t : Thread) : Type 0 where
  pub stack : StackFits r t.frame t.stack
  pub cells : length t.cells ≡ t.frame.base + size_of r t.frame.routine
  pub references : length t.references ≡ t.frame.references + (routine_at r t.frame.routine).references

pub record MachineFits (r : Tables) (m : Machine) : Type 0 where
  pub threads : length m.threads ≡ length r.processes
  pub permanents : length m.permanents ≡ length r.permanents
  pub bindings : length m.bindings ≡ length r.permanents
  pub phases : length m.phases ≡ length r.components
  pub monitors : length m.monitors ≡ r.monitors
  pub pending : IfSome m.pending (λ monitor. monitor < r.monitors)
  pub each : (q : ℕ) → q < length m.threads → ThreadFits r (thread_at m.threads q)

-- the processes at a monitor's gate are those in its line, where each stands once; in that of a pending monitor there are two or more
pub record LinesFit (m : Machine) : Type 0 where
  pub gate : (monitor q : ℕ) → is_at_gate monitor (thread_at m.threads q).status ≡ list_any (eqb q) (monitor_at m monitor).line
  pub once : (monitor : ℕ) → IsDistinct eqb (monitor_at m monitor).line
  pub pending : IfSome m.pending (λ monitor. 2 ≤ length (monitor_at m monitor).line)

-- who is first in a line is one of the processes
abbrev pub IsFirstKnown : (processes : ℕ) → List ℕ → Type 0
IsFirstKnown processes [] = Unit {0}
IsFirstKnown processes (q ∷ line) = q < processes

-- each process has this much room for its control stack, its cells and its references

abbrev pub HaveStacks : ℕ → List ProcessState → Type 0
HaveStacks depth ps = (q : ℕ) (d : ProcessState) → q < length ps → depth ≤ vec_capacity (slice_index_or ps q d).stack

abbrev pub HaveCells : ℕ → List ProcessState → Type 0
HaveCells cells ps = (q : ℕ) (d : ProcessState) → q < length ps → cells ≤ vec_capacity (slice_index_or ps q d).room.cells

abbrev pub HaveReferences : ℕ → List ProcessState → Type 0
HaveReferences references ps = (q : ℕ) (d : ProcessState) → q < length ps → references ≤ vec_capacity (slice_index_or ps q d).room.references

-- what was reserved: the room of each process, the output, and room for arguments
pub record IsReserved (r : Tables) (s : State) : Type 0 where
  pub stacks : HaveStacks r.depth s.processes.items
  pub cells : HaveCells r.cells s.processes.items
  pub references : HaveReferences r.references s.processes.items
  pub output : MOST_SHOWN ≤ vec_capacity s.output
  pub shown : vec_len s.output ≤ MOST_SHOWN
  pub bounds : r.arguments ≤ vec_capacity s.bounds

-- the state is the program's
pub record IsStateOf (r : Tables) (s : State) : Type 0 where
  pub sound : IsSound r
  pub fits : MachineFits r (machine_of s)
  pub lines : LinesFit (machine_of s)
  pub reach : Reaches r (machine_of s)
  pub reserved : IsReserved r s

-- an item of the program is the topmost entry of a process
pub record IsTaken (r : Tables) (s : State) (pid at : ℕ) (item : Item) : Type 0 where
  pub own : IsStateOf r s
  pub within : pid < length s.processes.items
  pub ready : IsTrue (is_ready (machine_of s) pid)
  pub same : item ≡ item_at r at
  pub top : (thread_at (machine_of s).threads pid).stack ≡ Rest at ∷ under (machine_of s) pid

-- a process has an entry, and room for one more where it is wanted
abbrev pub IsBusy : State → ℕ → Type 0
IsBusy s pid = (d : ProcessState) → 0 < vec_len (slice_index_or s.processes.items pid d).stack

abbrev pub HasRoom : State → ℕ → Option ℕ → Type 0
HasRoom s pid None = Unit {0}
HasRoom s pid (Some at) = (d : ProcessState) → vec_len (slice_index_or s.processes.items pid d).stack < vec_capacity (slice_index_or s.processes.items pid d).stack

-- a process has room for what another one has
pub record HasRoomFor (mine theirs : ProcessState) : Type 0 where
  pub stack : vec_len theirs.stack ≤ vec_capacity mine.stack
  pub cells : vec_len theirs.room.cells ≤ vec_capacity mine.room.cells
  pub references : vec_len theirs.room.references ≤ vec_capacity mine.room.references

-- as many processes, where each has room for what the other has
pub record HaveRoom (mine theirs : List ProcessState) : Type 0 where
  pub count : length mine ≡ length theirs
  pub each : (q : ℕ) (d : ProcessState) → q < length mine → HasRoomFor (slice_index_or mine q d) (slice_index_or theirs q d)

-- room for the frame of a routine, and for two entries more
pub record HasCallRoom (r : Tables) (ps : List ProcessState) (pid routine : ℕ) : Type 0 where
  pub two : (d : ProcessState) → vec_len (slice_index_or ps pid d).stack + 2 ≤ vec_capacity (slice_index_or ps pid d).stack
  pub cells : (d : ProcessState) → vec_len (slice_index_or ps pid d).room.cells + size_of r routine ≤ vec_capacity (slice_index_or ps pid d).room.cells
  pub references : (d : ProcessState) → vec_len (slice_index_or ps pid d).room.references + (routine_at r routine).references ≤ vec_capacity (slice_index_or ps pid d).room.references
