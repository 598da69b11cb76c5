-- When the numbers of a resolved program are sound: what a process needs is inside what is reserved for it.
use Rattle.std.specs.Prelude.{IsTrue, ◌≡◌, ℕ, ◌+◌, ◌<◌, ◌≤◌, ◌-◌, List, length, Option, Some, None, slice_index_or}
use Rattle.cp_slots.specs.declared.place.Argument.{Argument}
use Rattle.cp_slots.specs.declared.item.Action.{Action}
use Rattle.cp_slots.specs.declared.item.Action.TheVariants.{Empty, Assign, AssignSet, Copy, Block, If, Case, Assert, While, Until, For, Cycle, Call, Start, Delay, Continue, Display}
use Rattle.cp_slots.specs.declared.item.ResolvedArm.{ResolvedArm}
use Rattle.cp_slots.specs.declared.item.Item.{Item}
use Rattle.cp_slots.specs.declared.tables.ComponentKind.{ComponentKind}
use Rattle.cp_slots.specs.declared.tables.ComponentKind.TheVariants as kind
use Rattle.cp_slots.specs.declared.tables.Process.{Process}
use Rattle.cp_slots.specs.Inside.{action_inside}
use Rattle.cp_slots.specs.Systems.{IsTyped, ProgramTakesNothing}
use Rattle.cp_slots.specs.Tables.{Tables, RoutineView, item_at, routine_at, component_at, process_at}

-- an item of the routine, whose list needs at most `need` entries above its own
pub record Nests (t : Tables) (routine need at : ℕ) : Type 0 where
  pub place : at < length t.items
  pub same : (item_at t at).routine ≡ routine
  pub fits : (item_at t at).need ≤ need

-- a list in a routine
abbrev pub ListFits : Tables → (routine need : ℕ) → Option ℕ → Type 0
ListFits t routine need None = Unit {0}
ListFits t routine need (Some at) = Nests t routine need at

-- a list inside an item, one entry above
abbrev pub InnerFits : Tables → (routine need : ℕ) → Option ℕ → Type 0
InnerFits t routine need None = Unit {0}
InnerFits t routine need (Some at) = (1 ≤ need) × Nests t routine (need - 1) at

-- the list of each arm
abbrev pub ArmsFit : Tables → (routine need : ℕ) → List ResolvedArm → Type 0
ArmsFit t routine need arms = (k : ℕ) (d : ResolvedArm) → k < length arms → InnerFits t routine need (slice_index_or arms k d).body

-- A call, or a start of whatever kind of component: the callee's statements stand above its end, which stands above the items after the call;
-- and its frame follows that of the caller.
pub record CallFits (t : Tables) (caller need callee : ℕ) (arguments : List Argument) : Type 0 where
  pub routine : callee < length t.routines
  pub deep : 2 ≤ need
  pub body : ListFits t callee (need - 2) (routine_at t callee).body
  pub cells : length (routine_at t caller).image + (routine_at t callee).room ≤ (routine_at t caller).room
  pub references : (routine_at t caller).references + (routine_at t callee).reference_room ≤ (routine_at t caller).reference_room
  pub count : length arguments ≤ t.arguments

abbrev pub ActionFits : Tables → (routine need : ℕ) → Action → Type 0
ActionFits t routine need Empty = Unit {0}
ActionFits t routine need (Assign target value low high) = Unit {0}
ActionFits t routine need (AssignSet target value low high) = Unit {0}
ActionFits t routine need (Copy target source size) = Unit {0}
ActionFits t routine need (Block list) = InnerFits t routine need list
ActionFits t routine need (If test then otherwise) = InnerFits t routine need then × InnerFits t routine need otherwise
ActionFits t routine need (Case selector arms) = ArmsFit t routine need arms.items
ActionFits t routine need (Assert test said) = Unit {0}
-- a loop's list stands above the item where the loop begins again
ActionFits t routine need (While test body again) = InnerFits t routine need body × Nests t routine need again
ActionFits t routine need (Until test body again) = InnerFits t routine need body × Nests t routine need again
ActionFits t routine need (For variable low high from to down body) = InnerFits t routine need body
ActionFits t routine need (Cycle list) = InnerFits t routine need list
ActionFits t routine need (Call callee component is_entry arguments result) = CallFits t routine need callee arguments.items
ActionFits t routine need (Start component callee arguments) = CallFits t routine need callee arguments.items
ActionFits t routine need (Delay place) = Unit {0}
ActionFits t routine need (Continue place) = Unit {0}
ActionFits t routine need (Display value kind) = Unit {0}

pub record ItemFits (t : Tables) (item : Item) : Type 0 where
  pub routine : item.routine < length t.routines
  pub action : ActionFits t item.routine item.need item.action
  pub next : ListFits t item.routine item.need item.next

-- a routine's own frame is inside the room that it needs
pub record RoutineFits (r : RoutineView) : Type 0 where
  pub cells : length r.image ≤ r.room
  pub references : r.references ≤ r.reference_room
  pub extents : length r.extents ≡ r.references

-- the number of a monitor or process is one of the program's
abbrev pub KindFits : Tables → ComponentKind → Type 0
KindFits t (kind.Process number) = number < length t.processes
KindFits t (kind.Monitor number) = number < t.monitors
KindFits t kind.Class = Unit {0}

-- a process has its routine, and room for its frames and its control stack
pub record ProcessFits (t : Tables) (p : Process) : Type 0 where
  pub component : p.component < length t.components
  pub routine : p.routine < length t.routines
  pub cells : (routine_at t p.routine).room ≤ t.cells
  pub references : (routine_at t p.routine).reference_room ≤ t.references
  pub some : 1 ≤ t.depth
  pub body : ListFits t p.routine (t.depth - 1) (routine_at t p.routine).body

-- the numbers of a program are sound
pub record IsSound (t : Tables) : Type 0 where
  pub items : (at : ℕ) → at < length t.items → ItemFits t (item_at t at)
  pub routines : (number : ℕ) → number < length t.routines → RoutineFits (routine_at t number)
  pub components : (number : ℕ) → number < length t.components → KindFits t (component_at t number).kind
  pub processes : (number : ℕ) → number < length t.processes → ProcessFits t (process_at t number)
  pub some : 1 ≤ length t.processes
  pub few : length t.processes ≤ 16
  pub monitors : t.monitors ≤ 64
  -- what an item reads and writes is inside what it names
  pub inside : (at : ℕ) → at < length t.items → IsTrue (action_inside t (routine_at t (item_at t at).routine) (item_at t at).action)
  -- the components that an item names are there, and of the system types that it wants
  pub typed : IsTyped t
  -- nothing is handed over to the program itself
  pub program : ProgramTakesNothing t
