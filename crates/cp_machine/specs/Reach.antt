-- Why nothing outside the cells is read or written: what each frame of a process may name is there.
use Rattle.std.specs.Prelude.{◌≡◌, ℕ, ◌+◌, ◌<◌, ◌≤◌, false, IsTrue, List, [], ◌∷◌, length, Option, Some, None, Ok, slice_index_or}
use Rattle.cp_slots.specs.Inside.{has, room_from}
use Rattle.cp_slots.specs.declared.place.Argument.{Argument}
use Rattle.cp_slots.specs.declared.place.ComponentPlace.{ComponentPlace}
use Rattle.cp_slots.specs.declared.place.OrdinalExpression.{OrdinalExpression}
use Rattle.cp_slots.specs.declared.place.PlaceOrigin.{PlaceOrigin}
use Rattle.cp_slots.specs.declared.place.Place.{Place}
use Rattle.cp_slots.specs.declared.place.SetExpression.{SetExpression}
use Rattle.cp_slots.specs.Systems.{IsOf, parameter_count}
use Rattle.cp_slots.specs.Tables.{Tables, RoutineView, component_at, parameter_at, routine_at}
use Rattle.cp_slots.specs.declared.tables.ComponentKind.{ComponentKind}
use Rattle.cp_slots.specs.declared.tables.ComponentKind.TheVariants as kind
use Rattle.cp_store.specs.declared.memory.Address.{Address}
use Rattle.cp_store.specs.declared.memory.Address.TheVariants.{Permanent, Local}
use Rattle.cp_store.specs.declared.memory.Frame.{Frame}
use Rattle.cp_store.specs.declared.argument.Bound.{Bound}
use Rattle.cp_store.specs.Inside as store
use Rattle.cp_store.specs.Memory.{open_frame}
use Rattle.cp_store.specs.Places.{reference_at}
use Rattle.cp_machine.specs.declared.process.Entry.{Entry}
use Rattle.cp_machine.specs.declared.process.Entry.TheVariants.{Rest, Successor, Return, InitEnd}
use Rattle.cp_machine.specs.Calls.{frame_behind}
use Rattle.cp_machine.specs.Machine.{Machine, Thread, thread_at, phase_at, is_uninitialised, is_unstarted}
use Rattle.cp_machine.specs.Memory.{arguments_of, component_of, memory_at}

-- the cells of a routine's frame
abbrev pub size_of : Tables → ℕ → ℕ
size_of r routine = length (routine_at r routine).image

-- ---- frames

-- A `var` parameter names a place with this many cells: permanent cells, or cells of frames below its own.
abbrev pub IsBehind : Tables → Frame → Address → ℕ → Type 0
IsBehind r f (Permanent number) cells = number + cells ≤ length r.permanents
IsBehind r f (Local number) cells = number + cells ≤ f.base

-- what a frame may name: the permanent cells of its component, and the cells of each `var` parameter
pub record FrameReaches (r : Tables) (references : List Address) (f : Frame) : Type 0 where
  pub component : IsOf r (routine_at r f.routine).system f.component
  pub own : f.own ≡ (component_at r f.component).base
  pub behind : (k : ℕ) → k < length (routine_at r f.routine).extents →
      IsBehind r f (reference_at references (f.references + k)) (slice_index_or (routine_at r f.routine).extents k 0)

-- a function's result is a cell of its frame, and is put into a cell of its caller's
abbrev pub ResultReaches : Tables → (f caller : Frame) → Option ℕ → Type 0
ResultReaches r f caller None = Unit {0}
ResultReaches r f caller (Some slot) = (slot < size_of r caller.routine) × ((routine_at r f.routine).result < size_of r f.routine)

-- the same for all frames of a process, from the innermost on
abbrev pub StackReaches : Tables → List Address → Frame → List Entry → Type 0
StackReaches r references f [] = FrameReaches r references f
StackReaches r references f (Rest at ∷ es) = StackReaches r references f es
StackReaches r references f (Successor at value last ∷ es) = StackReaches r references f es
StackReaches r references f (Return caller slot monitor ∷ es) =
    FrameReaches r references f × ResultReaches r f caller slot × StackReaches r references caller es
StackReaches r references f (InitEnd caller component ∷ es) =
    FrameReaches r references f × (component < length r.components) × StackReaches r references caller es

abbrev pub ThreadReaches : Tables → Thread → Type 0
ThreadReaches r t = StackReaches r t.references t.frame t.stack

-- ---- components

-- A component has begun: a process is started, a class or monitor is at least being initialised.
abbrev pub HasBegunAs : Machine → (component : ℕ) → ComponentKind → Type 0
HasBegunAs m component (kind.Process number) = is_unstarted (thread_at m.threads number).status ≡ false
HasBegunAs m component _ = is_uninitialised (phase_at m component) ≡ false

abbrev pub HasBegun : Tables → Machine → (component : ℕ) → Type 0
HasBegun r m component = HasBegunAs m component (component_at r component).kind

-- what a parameter of a component is bound to, by the number of the parameter among those that are components
abbrev pub bound_component : Tables → Machine → (component number : ℕ) → ℕ
bound_component r m component number =
    slice_index_or m.bindings ((component_at r component).base + (parameter_at r (component_at r component).system number).slot) 0

-- in a component that has begun, each parameter that is a component is bound to one of its system type
abbrev pub AreBound : Tables → Machine → Type 0
AreBound r m =
    (component number : ℕ) → component < length r.components → HasBegun r m component →
    number < parameter_count r (component_at r component).system →
    IsOf r (parameter_at r (component_at r component).system number).system (bound_component r m component number)

-- a process executes in itself, or in a class or monitor that has begun
abbrev pub ExecutesAs : Machine → (pid component : ℕ) → ComponentKind → Type 0
ExecutesAs m pid component (kind.Process number) = number ≡ pid
ExecutesAs m pid component _ = is_uninitialised (phase_at m component) ≡ false

abbrev pub Executes : Tables → Machine → (pid component : ℕ) → Type 0
Executes r m pid component = ExecutesAs m pid component (component_at r component).kind

-- the same for all frames of a process
abbrev pub StackExecutes : Tables → Machine → (pid : ℕ) → Frame → List Entry → Type 0
StackExecutes r m pid f [] = Executes r m pid f.component
StackExecutes r m pid f (Rest at ∷ es) = StackExecutes r m pid f es
StackExecutes r m pid f (Successor at value last ∷ es) = StackExecutes r m pid f es
StackExecutes r m pid f (Return caller slot monitor ∷ es) = Executes r m pid f.component × StackExecutes r m pid caller es
StackExecutes r m pid f (InitEnd caller component ∷ es) = Executes r m pid f.component × StackExecutes r m pid caller es

-- each initial statement that is executed is that of a component that has begun
abbrev pub EndsBegun : Machine → List Entry → Type 0
EndsBegun m [] = Unit {0}
EndsBegun m (Rest at ∷ es) = EndsBegun m es
EndsBegun m (Successor at value last ∷ es) = EndsBegun m es
EndsBegun m (Return caller slot monitor ∷ es) = EndsBegun m es
EndsBegun m (InitEnd caller component ∷ es) = (is_uninitialised (phase_at m component) ≡ false) × EndsBegun m es

-- ---- a machine

-- what the frames of all processes may name is there
pub record Reaches (r : Tables) (m : Machine) : Type 0 where
  pub frames : (q : ℕ) → q < length m.threads → ThreadReaches r (thread_at m.threads q)
  pub executes : (q : ℕ) → q < length m.threads → StackExecutes r m q (thread_at m.threads q).frame (thread_at m.threads q).stack
  pub ends : (q : ℕ) → q < length m.threads → EndsBegun m (thread_at m.threads q).stack
  pub bound : AreBound r m

-- ---- what a process may read and write, in the frame that it executes

abbrev pub frame_at : Machine → (pid : ℕ) → Frame
frame_at m pid = (thread_at m.threads pid).frame

-- all that an expression, or a set, reads is there
abbrev pub CanRead : Machine → (pid : ℕ) → OrdinalExpression → Type 0
CanRead m pid e = store.CanRead (memory_at m pid) (frame_at m pid) e

abbrev pub CanReadSet : Machine → (pid : ℕ) → SetExpression → Type 0
CanReadSet m pid e = store.CanReadSet (memory_at m pid) (frame_at m pid) e

-- this many cells from a place, or from where a variable lies, on are there
abbrev pub CanReach : Machine → (pid : ℕ) → Place → (cells : ℕ) → Type 0
CanReach m pid place cells = store.CanReach (memory_at m pid) (frame_at m pid) place cells

abbrev pub CanName : Machine → (pid : ℕ) → PlaceOrigin → (cells : ℕ) → Type 0
CanName m pid variable cells = (r : RoutineView) × store.Covers (memory_at m pid) r (frame_at m pid) × IsTrue (has cells (room_from r variable))

abbrev pub HasCells : Machine → (pid : ℕ) → Address → (cells : ℕ) → Type 0
HasCells m pid at cells = store.HasCells (memory_at m pid) at cells

-- a component is found, and what arguments read is there
abbrev pub CanFind : Machine → (pid : ℕ) → ComponentPlace → Type 0
CanFind m pid place = store.CanFind (memory_at m pid) m.bindings (frame_at m pid) place

abbrev pub CanGive : Machine → (pid : ℕ) → List Argument → Type 0
CanGive m pid arguments = store.CanGiveAll (memory_at m pid) m.bindings (frame_at m pid) arguments

-- ---- what arguments give fits the parameters that it is for

-- those of the frame that a process executes
abbrev pub FitsOwn : Machine → (pid : ℕ) → List Argument → List Bound → Type 0
FitsOwn m pid arguments bounds = store.AllFitFrame (memory_at m pid) (frame_at m pid) arguments bounds

-- those of a frame that it opens for a routine
abbrev pub FitsNew : Tables → Machine → (pid routine component : ℕ) → List Argument → List Bound → Type 0
FitsNew r m pid routine component arguments bounds =
    store.AllFitFrame (open_frame (memory_at m pid) (routine_at r routine).image (routine_at r routine).references) (frame_behind r (thread_at m.threads pid) routine component) arguments bounds

-- those of a component
abbrev pub FitsComponent : Tables → Machine → (pid component : ℕ) → List Argument → List Bound → Type 0
FitsComponent r m pid component arguments bounds = store.AllFitComponent (memory_at m pid) m.bindings (component_at r component).base arguments bounds

-- ---- calls and starts

-- the place names a component of the routine's system type
pub record NamesOwner (r : Tables) (m : Machine) (pid routine : ℕ) (place : ComponentPlace) : Type 0 where
  pub found : CanFind m pid place
  pub owner : (component : ℕ) → component_of m pid place ≡ Ok component → IsOf r (routine_at r routine).system component

pub record CanCall (r : Tables) (m : Machine) (pid routine : ℕ) (place : ComponentPlace) (arguments : List Argument) : Type 0 where
  pub component : NamesOwner r m pid routine place
  pub reads : CanGive m pid arguments
  pub fit : (component : ℕ) (bounds : List Bound) → arguments_of m pid arguments ≡ Ok bounds → FitsNew r m pid routine component arguments bounds

pub record CanStart (r : Tables) (m : Machine) (pid routine : ℕ) (place : ComponentPlace) (arguments : List Argument) : Type 0 where
  pub component : NamesOwner r m pid routine place
  pub reads : CanGive m pid arguments
  pub fit : (component : ℕ) (bounds : List Bound) → component_of m pid place ≡ Ok component → arguments_of m pid arguments ≡ Ok bounds → FitsComponent r m pid component arguments bounds
