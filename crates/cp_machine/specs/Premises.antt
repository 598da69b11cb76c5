-- What is known where a part of a step is called. All of it follows from `IsTaken`, or from `IsStateOf` and a process that is ready.
use Rattle.std.specs.Prelude.{◌≡◌, ℕ, ◌<◌, ◌∷◌, IsTrue, List, length, Option, None, ℤ}
use Rattle.std.specs.declared.alloc.Global.{Global}
use Rattle.std.specs.declared.vec.Vec.{Vec}
use Rattle.cp_slots.specs.Tables.{Tables, component_at, item_at, routine_at}
use Rattle.cp_slots.specs.declared.item.Action.{Action}
use Rattle.cp_slots.specs.declared.item.Action.TheVariants.{Call, Case, For, Start}
use Rattle.cp_slots.specs.declared.item.Item.{Item}
use Rattle.cp_slots.specs.declared.item.ResolvedArm.{ResolvedArm}
use Rattle.cp_slots.specs.declared.place.Argument.{Argument}
use Rattle.cp_slots.specs.declared.place.ComponentPlace.{ComponentPlace}
use Rattle.cp_slots.specs.declared.place.OrdinalExpression.{OrdinalExpression}
use Rattle.cp_slots.specs.declared.tables.ComponentKind.{ComponentKind}
use Rattle.cp_slots.specs.declared.tables.ComponentKind.TheVariants as kind
use Rattle.cp_store.specs.declared.memory.Frame.{Frame}
use Rattle.cp_machine.specs.declared.call.Callee.{Callee}
use Rattle.cp_machine.specs.declared.loops.Course.{Course}
use Rattle.cp_machine.specs.declared.process.Entry.TheVariants.{Successor}
use Rattle.cp_machine.specs.declared.state.State.{State}
use Rattle.cp_machine.specs.Fits.{HasCallRoom, HasRoom, IsBusy, IsFirstKnown, IsStateOf, IsTaken, ThreadFits}
use Rattle.cp_machine.specs.Machine.{is_ready, machine_of, monitor_at, thread_at, under}
use Rattle.cp_machine.specs.Reach.{CanName, FitsComponent, FitsNew, ThreadReaches}
use Rattle.cp_machine.specs.Results.{HasResult}

-- ---- a step, and what is taken

-- a process of the program is ready
pub record CanStep (r : Tables) (s : State) (pid : ℕ) : Type 0 where
  pub own : IsStateOf r s
  pub within : pid < length s.processes.items
  pub ready : IsTrue (is_ready (machine_of s) pid)

-- an item that says this is the topmost entry of a process
pub record Takes (r : Tables) (s : State) (pid : ℕ) (item : Item) (action : Action) : Type 0 where
  pub at : ℕ
  pub taken : IsTaken r s pid at item
  pub says : item.action ≡ action

abbrev pub TakesCall : Tables → State → (pid : ℕ) → Item → Callee → ComponentPlace → List Argument → Type 0
TakesCall r s pid item callee place arguments =
    (given : Vec Argument Global) × (arguments ≡ given.items) × Takes r s pid item (Call callee.routine place callee.is_entry given callee.result)

abbrev pub TakesStart : Tables → State → (pid : ℕ) → Item → ComponentPlace → (routine : ℕ) → List Argument → Type 0
TakesStart r s pid item place routine arguments = (given : Vec Argument Global) × (arguments ≡ given.items) × Takes r s pid item (Start place routine given)

abbrev pub TakesCase : Tables → State → (pid : ℕ) → Item → OrdinalExpression → List ResolvedArm → Type 0
TakesCase r s pid item selector arms = (given : Vec ResolvedArm Global) × (arms ≡ given.items) × Takes r s pid item (Case selector given)

abbrev pub TakesFor : Tables → State → (pid : ℕ) → Item → Course → (first last : OrdinalExpression) → Type 0
TakesFor r s pid item course first last = (low high : ℤ) × Takes r s pid item (For course.variable low high first last course.down course.list)

-- the successor of a value is the topmost entry of a process
pub record IsTurn (r : Tables) (s : State) (pid at : ℕ) (value last : ℤ) (item : Item) : Type 0 where
  pub own : IsStateOf r s
  pub within : pid < length s.processes.items
  pub same : item ≡ item_at r at
  pub top : (thread_at (machine_of s).threads pid).stack ≡ Successor at value last ∷ under (machine_of s) pid

-- ---- monitors

-- the gate of a monitor: who is first in its line is one of the processes, and there is room for one more
pub record IsGate (s : State) (monitor : ℕ) : Type 0 where
  pub there : monitor < length s.guards.items
  pub first : IsFirstKnown (length (machine_of s).threads) (monitor_at (machine_of s) monitor).line
  pub room : length (monitor_at (machine_of s) monitor).line < 16

abbrev pub HasGates : Tables → State → Type 0
HasGates r s = (monitor : ℕ) → monitor < r.monitors → IsGate s monitor

-- the gate of a component that is a monitor, or the process that it is
abbrev pub HasPartyOf : State → ComponentKind → Type 0
HasPartyOf s (kind.Monitor monitor) = IsGate s monitor
HasPartyOf s (kind.Process number) = number < length s.processes.items
HasPartyOf s kind.Class = Unit {0}

-- a process comes to a gate
pub record CanEnter (s : State) (pid monitor : ℕ) : Type 0 where
  pub within : pid < length s.processes.items
  pub gate : IsGate s monitor

-- ---- control stacks and frames

-- a list, if there is one, can come in place of the topmost entry of a process, above what follows
pub record CanReplace (s : State) (pid : ℕ) (list : Option ℕ) : Type 0 where
  pub within : pid < length s.processes.items
  pub busy : IsBusy s pid
  pub room : HasRoom s pid list

-- a `for` can take a turn
pub record CanTurn (s : State) (pid : ℕ) (course : Course) : Type 0 where
  pub replaces : CanReplace s pid course.list
  pub name : CanName (machine_of s) pid course.variable 1

-- a frame for a routine in a component can be opened, or the component, if it is a process, be started
pub record CanOpen (r : Tables) (s : State) (pid callee component : ℕ) : Type 0 where
  pub replaces : CanReplace s pid None
  pub routine : callee < length r.routines
  pub room : HasCallRoom r s.processes.items pid callee
  pub there : component < length r.components
  pub known : component < length s.phases.items
  pub party : HasPartyOf s (component_at r component).kind

-- with the arguments that are evaluated
pub record CanCallIn (r : Tables) (s : State) (pid routine component : ℕ) (arguments : List Argument) : Type 0 where
  pub opens : CanOpen r s pid routine component
  pub count : length s.bounds.items ≡ length arguments
  pub fit : FitsNew r (machine_of s) pid routine component arguments s.bounds.items

pub record CanStartIn (r : Tables) (s : State) (pid routine component : ℕ) (arguments : List Argument) : Type 0 where
  pub opens : CanOpen r s pid routine component
  pub count : length s.bounds.items ≡ length arguments
  pub fit : FitsComponent r (machine_of s) pid component arguments s.bounds.items

-- the innermost frame can be given up
pub record CanLeave (r : Tables) (s : State) (pid : ℕ) (caller : Frame) (slot : Option ℕ) : Type 0 where
  pub within : pid < length s.processes.items
  pub routine : (thread_at (machine_of s).threads pid).frame.routine < length r.routines
  pub result : HasResult (thread_at (machine_of s).threads pid) caller (routine_at r (thread_at (machine_of s).threads pid).frame.routine).result slot

-- the end of a call can be taken
pub record CanReturn (r : Tables) (s : State) (pid : ℕ) : Type 0 where
  pub within : pid < length s.processes.items
  pub fits : ThreadFits r (thread_at (machine_of s).threads pid)
  pub reaches : ThreadReaches r (thread_at (machine_of s).threads pid)
  pub gates : HasGates r s

-- a process of a monitor comes to the queue that has this permanent cell
pub record CanWait (s : State) (pid queue monitor : ℕ) : Type 0 where
  pub replaces : CanReplace s pid None
  pub gate : IsGate s monitor
  pub cell : queue < length s.permanents.items
