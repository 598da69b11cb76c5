-- When the components that statements name are there, and of the system types that the statements want.
use Rattle.std.specs.Prelude.{◌≡◌, ℕ, ◌+◌, ◌*◌, ◌^◌, ◌<◌, ◌≤◌, Bool, true, false, List, [], ◌∷◌, length, ◌-ℤ◌, unsigned_abs}
use Rattle.cp_slots.specs.declared.item.Action.{Action}
use Rattle.cp_slots.specs.declared.item.Action.TheVariants.{Call, Start}
use Rattle.cp_slots.specs.declared.place.Argument.{Argument}
use Rattle.cp_slots.specs.declared.place.ArgumentValue.{ArgumentValue}
use Rattle.cp_slots.specs.declared.place.ArgumentValue.TheVariants as value
use Rattle.cp_slots.specs.declared.place.ComponentPlace.{ComponentPlace}
use Rattle.cp_slots.specs.declared.place.ComponentPlace.TheVariants.{Own, Contained, Element, Parameter}
use Rattle.cp_slots.specs.declared.tables.ComponentKind.{ComponentKind}
use Rattle.cp_slots.specs.declared.tables.ComponentKind.TheVariants as kind
use Rattle.cp_slots.specs.Tables.{Tables, RoutineView, component_at, item_at, parameter_at, process_at, routine_at, system_at}

-- how many parameters of a system type are components
abbrev pub parameter_count : Tables → (system : ℕ) → ℕ
parameter_count t system = length (system_at t system).parameters

-- a component of a system type
abbrev pub IsOf : Tables → (system component : ℕ) → Type 0
IsOf t system component = (component < length t.components) × ((component_at t component).system ≡ system)

-- In each component of a system type, what a statement names is a component of another one.
abbrev pub Names : Tables → (system : ℕ) → ComponentPlace → (named : ℕ) → Type 0
Names t system Own named = system ≡ named
Names t system (Contained number) named = (c : ℕ) → IsOf t system c → IsOf t named (c + number)
Names t system (Element first low high stride index) named =
    (c k : ℕ) → IsOf t system c → k ≤ unsigned_abs (high -ℤ low) → IsOf t named (c + first + k * stride)
Names t system (Parameter slot) named =
    (number : ℕ) × (number < parameter_count t system) × ((parameter_at t system number).slot ≡ slot) × ((parameter_at t system number).system ≡ named)

-- ---- arguments

abbrev pub is_component : ArgumentValue → Bool
is_component (value.Component place) = true
is_component _ = false

-- a call hands over no components
abbrev pub HandsNone : List Argument → Type 0
HandsNone [] = Unit {0}
HandsNone (x ∷ xs) = (is_component x.value ≡ false) × HandsNone xs

-- A start hands over the components of a system type, in their order, from a number on: each is a component that the parameter wants.
abbrev pub HandsOne : Tables → (system started : ℕ) → ArgumentValue → (slot next : ℕ) → (ℕ → Type 0) → Type 0
HandsOne t system started (value.Component place) slot next others =
    (next < parameter_count t started) × (slot ≡ (parameter_at t started next).slot) × Names t system place (parameter_at t started next).system × others (next + 1)
HandsOne t system started _ slot next others = others next

abbrev pub Hands : Tables → (system started : ℕ) → (next : ℕ) → List Argument → Type 0
Hands t system started next [] = next ≡ parameter_count t started
Hands t system started next (x ∷ xs) = HandsOne t system started x.value x.slot next (λ further. Hands t system started further xs)

-- ---- statements

abbrev pub IsOwn : ComponentPlace → Type 0
IsOwn Own = Unit {0}
IsOwn _ = ⊥

-- what is called by its name alone is in the component that is executed
abbrev pub StaysInside : (is_entry : Bool) → ComponentPlace → Type 0
StaysInside true place = Unit {0}
StaysInside false place = IsOwn place

abbrev pub CallNames : Tables → (system callee : ℕ) → (is_entry : Bool) → ComponentPlace → List Argument → Type 0
CallNames t system callee is_entry place arguments =
    Names t system place (routine_at t callee).system × StaysInside is_entry place × HandsNone arguments

abbrev pub StartNames : Tables → (system callee : ℕ) → ComponentPlace → List Argument → Type 0
StartNames t system callee place arguments =
    Names t system place (routine_at t callee).system × Hands t system (routine_at t callee).system 0 arguments × ((routine_at t callee).references ≡ 0)

abbrev pub ActionNames : Tables → (system : ℕ) → Action → Type 0
ActionNames t system (Call callee place is_entry arguments result) = CallNames t system callee is_entry place arguments.items
ActionNames t system (Start place callee arguments) = StartNames t system callee place arguments.items
ActionNames t system _ = Unit {0}

-- ---- the tables

-- a routine belongs to a system type, whose components have the cells that it may name
pub record RoutineOwned (t : Tables) (r : RoutineView) : Type 0 where
  pub system : r.system < length t.systems
  pub cells : r.own ≤ (system_at t r.system).own

-- a process is its component
abbrev pub IsItself : Tables → ComponentKind → (component : ℕ) → Type 0
IsItself t (kind.Process number) component = (process_at t number).component ≡ component
IsItself t _ component = Unit {0}

abbrev pub own_of : Tables → (component : ℕ) → ℕ
own_of t component = (system_at t (component_at t component).system).own

-- a component has the permanent cells of its system type
pub record ComponentOwns (t : Tables) (component : ℕ) : Type 0 where
  pub system : (component_at t component).system < length t.systems
  pub cells : (component_at t component).base + own_of t component ≤ length t.permanents
  pub itself : IsItself t (component_at t component).kind component

-- a process executes the initial statement of its component's system type, which has no `var` parameters
pub record ProcessOwned (t : Tables) (number : ℕ) : Type 0 where
  pub kind : (component_at t (process_at t number).component).kind ≡ kind.Process number
  pub system : (component_at t (process_at t number).component).system ≡ (routine_at t (process_at t number).routine).system
  pub references : (routine_at t (process_at t number).routine).references ≡ 0

-- nothing is handed over to the program itself
abbrev pub ProgramTakesNothing : Tables → Type 0
ProgramTakesNothing t = parameter_count t (component_at t (process_at t 0).component).system ≡ 0

-- all numbers are numbers of a machine word
pub record AreWords (t : Tables) : Type 0 where
  pub components : length t.components < 2 ^ 64
  pub permanents : length t.permanents < 2 ^ 64
  pub cells : t.cells < 2 ^ 64
  pub references : t.references < 2 ^ 64

pub record IsTyped (t : Tables) : Type 0 where
  pub routines : (number : ℕ) → number < length t.routines → RoutineOwned t (routine_at t number)
  pub components : (component : ℕ) → component < length t.components → ComponentOwns t component
  -- the permanent cells of a component are before those of the next one
  pub apart : (c d : ℕ) → c < d → d < length t.components → (component_at t c).base + own_of t c ≤ (component_at t d).base
  -- a parameter is one of the permanent cells, and its cell is before that of the next one
  pub parameters : (system number : ℕ) → number < parameter_count t system → (parameter_at t system number).slot < (system_at t system).own
  pub rising : (system j k : ℕ) → j < k → k < parameter_count t system → (parameter_at t system j).slot < (parameter_at t system k).slot
  pub processes : (number : ℕ) → number < length t.processes → ProcessOwned t number
  pub actions : (at : ℕ) → at < length t.items → ActionNames t (routine_at t (item_at t at).routine).system (item_at t at).action
  pub words : AreWords t
