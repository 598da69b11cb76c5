-- What a step of a process may touch, by what the process executes.
use Rattle.std.specs.Prelude.{◌≡◌, ◌+◌, ◌<◌, ◌≤◌, ℕ, true, false, Bool, List, ◌∷◌, length, Ok, slice_index_or, IfSome}
use Rattle.cp_slots.specs.Systems.{own_of}
use Rattle.cp_slots.specs.Tables.{Tables, component_at, item_at, routine_at}
use Rattle.cp_slots.specs.declared.item.Action.{Action}
use Rattle.cp_slots.specs.declared.item.Action.TheVariants.{Call, Start}
use Rattle.cp_slots.specs.declared.place.ComponentPlace.{ComponentPlace}
use Rattle.cp_slots.specs.declared.tables.ComponentKind.{ComponentKind}
use Rattle.cp_slots.specs.declared.tables.ComponentKind.TheVariants as kind
use Rattle.cp_store.specs.declared.memory.Address.{Address}
use Rattle.cp_store.specs.declared.memory.Address.TheVariants.{Permanent, Local}
use Rattle.cp_store.specs.declared.memory.Frame.{Frame}
use Rattle.cp_store.specs.Places.{reference_at}
use Rattle.cp_machine.specs.declared.process.Entry.{Entry}
use Rattle.cp_machine.specs.declared.process.Entry.TheVariants.{Rest, Return, InitEnd}
use Rattle.cp_machine.specs.declared.process.Status.{Status}
use Rattle.cp_machine.specs.declared.process.Status.TheVariants.{AtGate, Delayed}
use Rattle.cp_machine.specs.Fits.{LinesFit, MachineFits}
use Rattle.cp_machine.specs.Machine.{Machine, thread_at}
use Rattle.cp_machine.specs.Memory.{component_of}
use Rattle.cp_machine.specs.Reach.{Reaches, frame_at}
use Rattle.cp_machine.specs.Stack.{from_end}
use Rattle.cp_effect_laws.specs.Footprint.{Footprint}

-- this many permanent cells from a number on, or from an address on
abbrev pub HasFrom : (ℕ → Bool) → (number cells : ℕ) → Type 0
HasFrom own number cells = (k : ℕ) → number ≤ k → k < number + cells → own k ≡ true

abbrev pub HasAt : (ℕ → Bool) → Address → (cells : ℕ) → Type 0
HasAt own (Permanent number) cells = HasFrom own number cells
HasAt own (Local number) cells = Unit {0}

-- what a frame may name: the permanent cells of its component, and those of each `var` parameter
pub record HasFrame (f : Footprint) (r : Tables) (references : List Address) (g : Frame) : Type 0 where
  pub own : HasFrom f.cells g.own (own_of r g.component)
  pub behind : (k : ℕ) → k < length (routine_at r g.routine).extents →
      HasAt f.cells (reference_at references (g.references + k)) (slice_index_or (routine_at r g.routine).extents k 0)

-- a component that is a monitor, or a process
abbrev pub HasKind : Footprint → ComponentKind → Type 0
HasKind f (kind.Monitor monitor) = f.monitors monitor ≡ true
HasKind f (kind.Process number) = f.statuses number ≡ true
HasKind f kind.Class = Unit {0}

pub record HasComponent (f : Footprint) (r : Tables) (component : ℕ) : Type 0 where
  pub cells : HasFrom f.cells (component_at r component).base (own_of r component)
  pub status : f.components component ≡ true
  pub kind : HasKind f (component_at r component).kind

-- what an item calls or starts
abbrev pub HasTarget : Footprint → Tables → Machine → (pid : ℕ) → ComponentPlace → Type 0
HasTarget f r m pid place = (component : ℕ) → component_of m pid place ≡ Ok component → HasComponent f r component

abbrev pub HasNamed : Footprint → Tables → Machine → (pid : ℕ) → Action → Type 0
HasNamed f r m pid (Call routine place is_entry arguments result) = HasTarget f r m pid place
HasNamed f r m pid (Start place routine arguments) = HasTarget f r m pid place
HasNamed f r m pid _ = Unit {0}

-- what the end of the innermost call or initial statement changes
abbrev pub HasEnd : Footprint → List Entry → Type 0
HasEnd f (Return caller result monitor ∷ es) = IfSome monitor (λ number. f.monitors number ≡ true)
HasEnd f (InitEnd caller component ∷ es) = f.components component ≡ true
HasEnd f _ = Unit {0}

abbrev pub HasTop : Footprint → Tables → Machine → (pid : ℕ) → List Entry → Type 0
HasTop f r m pid (Rest at ∷ es) = HasNamed f r m pid (item_at r at).action
HasTop f r m pid _ = Unit {0}

-- all that the next step of a process may touch
pub record HasStep (f : Footprint) (r : Tables) (m : Machine) (pid : ℕ) : Type 0 where
  pub status : f.statuses pid ≡ true
  pub body : f.bodies pid ≡ true
  pub frame : HasFrame f r (thread_at m.threads pid).references (frame_at m pid)
  pub here : HasKind f (component_at r (frame_at m pid).component).kind
  pub end : HasEnd f (from_end (thread_at m.threads pid).stack)
  pub top : HasTop f r m pid (thread_at m.threads pid).stack

-- whether a process of this status waits at a monitor, or in a queue, of the footprint
abbrev pub waits_there : Footprint → Status → Bool
waits_there f (AtGate monitor) = f.monitors monitor
waits_there f (Delayed cell) = f.cells cell
waits_there f _ = false

-- the statuses of those who wait there
abbrev pub HasWaiters : Footprint → Machine → Type 0
HasWaiters f m = (q : ℕ) → waits_there f (thread_at m.threads q).status ≡ true → f.statuses q ≡ true

-- the machine is the program's, as each that is reached
pub record IsKept (r : Tables) (m : Machine) : Type 0 where
  pub fits : MachineFits r m
  pub lines : LinesFit m
  pub reach : Reaches r m
