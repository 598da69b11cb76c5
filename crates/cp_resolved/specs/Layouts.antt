-- Where the variables of a program lie: cells of types, and what names have in place of them.
use Rattle.std.specs.Prelude.{ℕ, ◌+◌, ◌*◌, Bool, false, ◌||◌, if◌then◌else◌, List, [], ◌∷◌, Option, Some, None}
use Rattle.cp_slots.specs.declared.place.PlaceOrigin.{PlaceOrigin}
use Rattle.cp_slots.specs.declared.place.PlaceOrigin.TheVariants.{Permanent, Local, Reference}
use Rattle.cp_tree.specs.Syntax.{Program}
use Rattle.cp_meaning.specs.Names.{Name, same_name}
use Rattle.cp_meaning.specs.Types.{Ty, ordinal, queue_type, set_over, array_over, record_with, component_of, FieldTypes, no_field_types, more_field_types, length_of_range}
use Rattle.cp_meaning.specs.Scopes.{Scope}
use Rattle.cp_meaning.specs.Declarations.{Variable, Parameter, RoutineMeaning}

-- ---- cells of types

abbrev mutual
  -- the cells of a value; a component has none
  pub cells_of : Ty → ℕ
  cells_of (ordinal r) = 1
  cells_of queue_type = 1
  cells_of (set_over r) = 8
  cells_of (array_over r t) = length_of_range r * cells_of t
  cells_of (record_with ts) = cells_in ts
  cells_of (component_of k) = 0

  pub cells_in : FieldTypes → ℕ
  cells_in no_field_types = 0
  cells_in (more_field_types x t ts) = cells_of t + cells_in ts

-- ---- layouts

-- Of a routine or an initial statement: where the variables lie that an open call of it has by name. These are its value parameters
-- and variables, a function's result, and the temporary name of each function call in it; and apart from them its `var` parameters.
pub record FrameLayout : Type 0 where
  pub origins : Name → PlaceOrigin
  pub variables : List Variable
  pub references : List Variable

-- Of a system type: the first permanent cell of each variable and parameter; the variables and the value parameters with cells,
-- and the parameters that are components; how much greater the number of the first component of a component variable is than that
-- of its container; the number of its initial statement; and how many components one of the type is, itself included.
pub record SystemLayout : Type 0 where
  pub slots : Name → ℕ
  pub variables : List Variable
  pub parts : List Variable
  pub firsts : Name → ℕ
  pub initial : ℕ
  pub count : ℕ

-- Of each system type, and of each routine, by their numbers; and what each routine is: its meaning, the system type that it belongs to,
-- and the name of its result, its own, which only functions have.
pub record Layouts : Type 0 where
  pub systems : ℕ → SystemLayout
  pub frames : ℕ → FrameLayout
  pub meanings : ℕ → RoutineMeaning
  pub owners : ℕ → ℕ
  pub names : ℕ → Option Name

-- where a statement stands: in the routine of this number, which belongs to a system type, with this scope
pub record Here : Type 0 where
  pub program : Program
  pub layouts : Layouts
  pub system : ℕ
  pub routine : ℕ
  pub scope : Scope

abbrev pub here : Program → Layouts → ℕ → Here
here p l n = record { program = p; layouts = l; system = l.owners n; routine = n; scope = (l.meanings n).scope }

abbrev pub system_here : Here → SystemLayout
system_here h = h.layouts.systems h.system

abbrev pub frame_here : Here → FrameLayout
frame_here h = h.layouts.frames h.routine

abbrev pub is_named : Name → Option Name → Bool
is_named x None = false
is_named x (Some y) = same_name x y

-- the name is that of the routine in which it stands
abbrev pub is_own : Here → Name → Bool
is_own h x = is_named x (h.layouts.names h.routine)

-- the number in an origin
abbrev pub slot_of : PlaceOrigin → ℕ
slot_of (Permanent n) = n
slot_of (Local n) = n
slot_of (Reference n) = n

-- the cell of a function's result, of the result of a call, and of a parameter
abbrev pub cell_named : FrameLayout → Name → ℕ
cell_named f x = slot_of (f.origins x)

abbrev pub is_parameter : Name → List Parameter → Bool
is_parameter x [] = false
is_parameter x (q ∷ qs) = same_name x q.name || is_parameter x qs

-- the type of a variable by its name
abbrev pub look : Name → List Variable → Option Ty
look x [] = None
look x (v ∷ vs) = if same_name x v.name then Some v.ty else look x vs
