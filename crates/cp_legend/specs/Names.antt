-- What the numbers of a program are called in its source: its system types, components, variables and routines.
use Rattle.std.specs.Prelude.{◌≡◌, ℕ, zero, suc, ◌+◌, ◌+ℤ◌, ◌==◌, if◌then◌else◌, ℤ, pos, List, [], ◌∷◌, ◌++◌, map, length, Option, Some, None, slice_get, unwrap_or, flat_map, find, insert, take, min, Bool, true, false, codes}
use Rattle.std.specs.Int.{saturate_signed, w16}
use Rattle.std.specs.List.{count_by}
use Rattle.std.specs.String.{string_bytes}
use Rattle.std.specs.declared.vec.Vec.{Vec}
use Rattle.std.specs.declared.alloc.Global.{Global}
use Rattle.cp_slots.specs.declared.tables.Component.{Component}
use Rattle.cp_slots.specs.declared.tables.ComponentKind.{ComponentKind}
use Rattle.cp_slots.specs.declared.tables.ComponentKind.TheVariants as component_kind
use Rattle.cp_slots.specs.declared.place.PlaceOrigin.TheVariants as origin
use Rattle.cp_tree.specs.declared.declaration.SystemKind.{SystemKind}
use Rattle.cp_symbols.specs.declared.kinds.ArrayType.{ArrayType}
use Rattle.cp_symbols.specs.declared.kinds.CellRange.{CellRange}
use Rattle.cp_symbols.specs.declared.kinds.CellType.{CellType}
use Rattle.cp_symbols.specs.declared.kinds.CellType.TheVariants as types
use Rattle.cp_symbols.specs.declared.symbols.FunctionResult.{FunctionResult}
use Rattle.cp_symbols.specs.declared.names.LayoutMeaning.{LayoutMeaning}
use Rattle.cp_symbols.specs.declared.names.LayoutMeaning.TheVariants as meaning
use Rattle.cp_symbols.specs.declared.symbols.SystemSymbol.{SystemSymbol}
use Rattle.cp_symbols.specs.declared.symbols.Symbols as code_symbols
use Rattle.cp_symbols.specs.Kinds.{Compounds, count_of}
use Rattle.cp_symbols.specs.Symbols.{Noted}
use Rattle.cp_symbols.specs.Symbols.{RoutineName, symbol_seen, routine_seen, type_symbol_seen}
use Rattle.cp_legend.specs.Values.{as_array, ordinal_text, types_seen}
use Rattle.cp_legend.specs.declared.parts.ComponentPart as code_part
use Rattle.cp_legend.specs.declared.legend.Legend as code_legend
use Rattle.cp_legend.specs.declared.legend.LegendComponent as code_component
use Rattle.cp_legend.specs.declared.legend.LegendParameter.{LegendParameter}
use Rattle.cp_legend.specs.declared.legend.LegendPassing.{LegendPassing}
use Rattle.cp_legend.specs.declared.legend.LegendPassing.TheVariants as passing
use Rattle.cp_legend.specs.declared.legend.LegendRoutine as code_routine
use Rattle.cp_legend.specs.declared.legend.LegendSystem as code_system
use Rattle.cp_legend.specs.declared.legend.Variable as code_variable

-- The names that a program declares, with what each stands for, in their order; and its routines, system types, arrays and records, and constants of enumerations at
-- their numbers.
pub record Source : Type 0 where
  pub declared : List Noted
  pub routines : List RoutineName
  pub systems : List SystemSymbol
  pub types : Compounds
  pub constants : List (List ℕ)

abbrev pub source_seen : code_symbols.Symbols → Source
source_seen s =
    record {
      declared = map symbol_seen s.declared.items;
      routines = map routine_seen s.routines.items;
      systems = s.systems.items;
      types = map type_symbol_seen s.types.items;
      constants = map string_bytes s.constants.items;
    }

-- the number of the system type that declares a name; that of the program is the last
abbrev pub home : Source → Noted → ℕ
home s d = unwrap_or d.system (length s.systems)

-- what there is at each number below one
unfoldable pub at_each : {X : Type 0} → (ℕ → X) → ℕ → List X
at_each f zero = []
at_each f (suc n) = at_each f n ++ f n ∷ []

-- ---- system types

pub record SystemName : Type 0 where
  pub name : List ℕ
  pub kind : Option SystemKind

abbrev pub system_seen : code_system.LegendSystem → SystemName
system_seen s = record { name = string_bytes s.name; kind = s.kind }

abbrev pub is_system : LayoutMeaning → (system : ℕ) → Bool
is_system (meaning.Kind (types.System m)) n = m == n
is_system _ n = false

-- the name of a system type, the one that is declared first
abbrev pub type_name : List Noted → (system : ℕ) → List ℕ
type_name [] n = []
type_name (d ∷ ds) n = if is_system d.meaning n then d.name else type_name ds n

abbrev pub kind_in : Option SystemSymbol → Option SystemKind
kind_in None = None
kind_in (Some s) = Some s.kind

-- A system type by its name and its kind. The program has neither.
abbrev pub system_of : Source → ℕ → SystemName
system_of s n = record { name = type_name s.declared n; kind = kind_in (slice_get s.systems n) }

abbrev pub name_in_system : Option SystemName → List ℕ
name_in_system None = []
name_in_system (Some s) = s.name

-- ---- what a component contains

-- a component inside another one, by how the source writes it there, and its system type
pub record Part : Type 0 where
  pub text : List ℕ
  pub system : ℕ

abbrev pub part_seen : code_part.ComponentPart → Part
part_seen p = record { text = string_bytes p.text; system = p.system }

abbrev pub parts_seen : Vec code_part.ComponentPart Global → List Part
parts_seen ps = map part_seen ps.items

abbrev pub part : List ℕ → (system : ℕ) → Part
part x system = record { text = x; system = system }

-- the value that comes so many after the least
abbrev pub nth : CellRange → ℕ → ℤ
nth r n = saturate_signed w16 (r.low +ℤ pos n)

-- an index, as the source writes it
abbrev pub index_text : List (List ℕ) → CellRange → (place : ℕ) → List ℕ
index_text names r n = codes "[" ++ ordinal_text names r.base (nth r n) ++ codes "]"

-- the first elements of an array of components
unfoldable pub elements_below : List (List ℕ) → List ℕ → CellRange → (system number : ℕ) → List Part
elements_below names x r system zero = []
elements_below names x r system (suc n) = elements_below names x r system n ++ part (x ++ index_text names r n) system ∷ []

abbrev pub elements_of : List (List ℕ) → List ℕ → CellRange → (element : CellType) → List Part
elements_of names x r (types.System n) = elements_below names x r n (count_of r)
elements_of names x r _ = []

abbrev pub array_parts : List (List ℕ) → List ℕ → Option ArrayType → List Part
array_parts names x None = []
array_parts names x (Some a) = elements_of names x a.index a.element

-- a component, or each element of an array of components
abbrev pub parts_of_type : Source → List ℕ → CellType → List Part
parts_of_type s x (types.System n) = part x n ∷ []
parts_of_type s x (types.Array n) = array_parts s.constants x (as_array (slice_get s.types n))
parts_of_type s x _ = []

abbrev pub parts_meant : Source → List ℕ → LayoutMeaning → List Part
parts_meant s x (meaning.Contained first t) = parts_of_type s x t
parts_meant s x _ = []

-- those of a name, where the system type of this number declares it
abbrev pub parts_named : Source → (system : ℕ) → Noted → List Part
parts_named s n d = if home s d == n then parts_meant s d.name d.meaning else []

-- The parts of each component of a system type: its component variables in the order of their declarations, of an array each element from the least index on.
abbrev pub parts_of : Source → (system : ℕ) → List Part
parts_of s n = flat_map (parts_named s n) s.declared

-- ---- components by their paths

pub record Named : Type 0 where
  -- as the source writes it; the program is `program`
  pub path : List ℕ
  pub kind : ComponentKind
  pub system : ℕ
  -- the monitor that it is, or the one that it is a part of
  pub monitor : Option ℕ
  pub base : ℕ

abbrev pub component_seen : code_component.LegendComponent → Named
component_seen c = record { path = string_bytes c.path; kind = c.kind; system = c.system; monitor = c.monitor; base = c.base }

-- a class belongs to what contains it
abbrev pub monitor_of : ComponentKind → (outer : Option ℕ) → Option ℕ
monitor_of (component_kind.Monitor n) outer = Some n
monitor_of component_kind.Class outer = outer
monitor_of (component_kind.Process n) outer = None

-- A part stands after its component and a dot. What the program contains stands alone.
abbrev pub inside : (path : List ℕ) → List ℕ → List ℕ
inside path x = if length path == 0 then x else path ++ codes "." ++ x

abbrev pub called : (path : List ℕ) → List ℕ
called path = if length path == 0 then codes "program" else path

abbrev pub named : Component → (path : List ℕ) → (outer : Option ℕ) → Named
named c path outer = record { path = called path; kind = c.kind; system = c.system; monitor = monitor_of c.kind outer; base = c.base }

-- what names one component more, of a system type, at a path inside a monitor or none, with those that it contains
abbrev pub Naming : Type 0
Naming = (system : ℕ) → (path : List ℕ) → (outer : Option ℕ) → List Named → List Named

-- all parts of a component
unfoldable pub parts_by : Naming → List Part → (path : List ℕ) → (outer : Option ℕ) → List Named → List Named
parts_by one [] path outer cs = cs
parts_by one (p ∷ ps) path outer cs = parts_by one ps path outer (one p.system (inside path p.text) outer cs)

-- the next component of the tables, followed by its parts
abbrev pub next_by : Naming → Option Component → List Part → (path : List ℕ) → (outer : Option ℕ) → List Named → List Named
next_by one None ps path outer cs = cs
next_by one (Some c) ps path outer cs = parts_by one ps path (monitor_of c.kind outer) (cs ++ named c path outer ∷ [])

abbrev pub parts_at : List (List Part) → (system : ℕ) → List Part
parts_at parts n = unwrap_or (slice_get parts n) []

-- of a system type, if it is one of the first `bound`: each contains components of earlier ones alone
unfoldable pub named_below : List Component → List (List Part) → (bound : ℕ) → Naming
named_below all parts zero n path outer cs = cs
named_below all parts (suc bound) n path outer cs = if n == bound then next_by (named_below all parts bound) (slice_get all (length cs)) (parts_at parts bound) path outer cs else named_below all parts bound n path outer cs

-- The components of the tables with their paths, in the order of the tables: the program, and each component followed by those that it contains.
unfoldable pub components_of : Source → List Component → List Named
components_of s all = named_below all (at_each (parts_of s) (length s.systems + 1)) (length s.systems + 1) (length s.systems) [] None []

abbrev pub is_process : ComponentKind → (process : ℕ) → Bool
is_process (component_kind.Process m) n = m == n
is_process _ n = false

abbrev pub is_monitor : ComponentKind → (monitor : ℕ) → Bool
is_monitor (component_kind.Monitor m) n = m == n
is_monitor _ n = false

abbrev pub is_some_process : ComponentKind → Bool
is_some_process (component_kind.Process n) = true
is_some_process _ = false

abbrev pub is_some_monitor : ComponentKind → Bool
is_some_monitor (component_kind.Monitor n) = true
is_some_monitor _ = false

-- how many processes and how many monitors there are, as far as a byte can count
abbrev pub process_count : List Named → ℕ
process_count cs = min (count_by (λ (c : Named). is_some_process c.kind) cs) 255

abbrev pub monitor_count : List Named → ℕ
monitor_count cs = min (count_by (λ (c : Named). is_some_monitor c.kind) cs) 255

-- a process, a monitor
abbrev pub process_in : List Named → ℕ → Option Named
process_in cs n = find (λ c. is_process c.kind n) cs

abbrev pub monitor_in : List Named → ℕ → Option Named
monitor_in cs n = find (λ c. is_monitor c.kind n) cs

abbrev pub path_in : Option Named → List ℕ
path_in None = []
path_in (Some c) = c.path

-- the name of a system type
abbrev pub name_at : List SystemName → ℕ → List ℕ
name_at ss n = name_in_system (slice_get ss n)

-- the name of the system type of a component
abbrev pub type_in : List SystemName → Option Named → List ℕ
type_in ss None = []
type_in ss (Some c) = name_at ss c.system

-- ---- variables

pub record Variable : Type 0 where
  pub name : List ℕ
  -- its first cell
  pub slot : ℕ
  pub shape : CellType

abbrev pub variable_seen : code_variable.Variable → Variable
variable_seen v = record { name = string_bytes v.name; slot = v.slot; shape = v.shape }

abbrev pub variables_seen : Vec code_variable.Variable Global → List Variable
variables_seen vs = map variable_seen vs.items

abbrev pub variable : List ℕ → (slot : ℕ) → CellType → Variable
variable x slot t = record { name = x; slot = slot; shape = t }

abbrev pub permanent_meant : List ℕ → LayoutMeaning → List Variable
permanent_meant x (meaning.Variable (origin.Permanent slot) t) = variable x slot t ∷ []
permanent_meant x _ = []

abbrev pub permanent_named : Source → (system : ℕ) → Noted → List Variable
permanent_named s n d = if home s d == n then permanent_meant d.name d.meaning else []

-- The permanent variables of a system type, in the order of their declarations.
abbrev pub permanents_of : Source → (system : ℕ) → List Variable
permanents_of s n = flat_map (permanent_named s n) s.declared

abbrev pub local_meant : List ℕ → LayoutMeaning → List Variable
local_meant x (meaning.Variable (origin.Local slot) t) = variable x slot t ∷ []
local_meant x _ = []

abbrev pub local_named : (routine : ℕ) → Noted → List Variable
local_named n d = if d.routine == n then local_meant d.name d.meaning else []

-- The parameters with values and the local variables of a routine, in the order of their declarations.
abbrev pub locals_of : Source → (routine : ℕ) → List Variable
locals_of s n = flat_map (local_named n) s.declared

-- ---- routines

pub record RoutineNames : Type 0 where
  -- empty for an initial statement
  pub name : List ℕ
  pub parameters : List LegendParameter
  -- the parameters with values, the result and the local variables
  pub variables : List Variable
  -- the place of a function's result among these
  pub result : Option ℕ

abbrev pub routine_names_seen : code_routine.LegendRoutine → RoutineNames
routine_names_seen r = record { name = string_bytes r.name; parameters = r.parameters.items; variables = map variable_seen r.variables.items; result = r.result }

abbrev pub parameter : (slot : ℕ) → CellType → LegendPassing → LegendParameter
parameter slot t how = record { slot = slot; shape = t; passing = how }

abbrev pub parameter_meant : LayoutMeaning → List LegendParameter
parameter_meant (meaning.Variable (origin.Local slot) t) = parameter slot t passing.Value ∷ []
parameter_meant (meaning.Variable (origin.Reference slot) t) = parameter slot t passing.Reference ∷ []
parameter_meant _ = []

abbrev pub parameter_named : (routine : ℕ) → Noted → List LegendParameter
parameter_named n d = if d.routine == n then parameter_meant d.meaning else []

-- as many of the first of them as the routine has parameters
abbrev pub parameters_of : Source → (routine count : ℕ) → List LegendParameter
parameters_of s n count = take count (flat_map (parameter_named n) s.declared)

abbrev pub bare_routine : Source → ℕ → RoutineName → RoutineNames
bare_routine s n r = record { name = r.name; parameters = parameters_of s n r.parameters; variables = locals_of s n; result = None }

-- a function's result has its name, and stands behind its parameters
abbrev pub with_result : RoutineNames → FunctionResult → RoutineNames
with_result r f = let at = min (length r.parameters) (length r.variables) in record r { variables = insert r.variables at (variable r.name f.slot f.value_type); result = Some at }

abbrev pub with_result_if : RoutineNames → Option FunctionResult → RoutineNames
with_result_if r None = r
with_result_if r (Some f) = with_result r f

abbrev pub routine_of : Source → ℕ → RoutineName → RoutineNames
routine_of s n r = with_result_if (bare_routine s n r) r.result

unfoldable pub routines_from : Source → (number : ℕ) → List RoutineName → List RoutineNames
routines_from s n [] = []
routines_from s n (r ∷ rs) = routine_of s n r ∷ routines_from s (n + 1) rs

abbrev pub name_of_routine : Option RoutineNames → List ℕ
name_of_routine None = []
name_of_routine (Some r) = r.name

-- ---- the legend

-- what a program's numbers are called
pub record Legend : Type 0 where
  pub shapes : Compounds
  pub constants : List (List ℕ)
  pub systems : List SystemName
  -- the permanent variables of each system type
  pub permanents : List (List Variable)
  pub routines : List RoutineNames
  pub components : List Named

abbrev pub legend_seen : code_legend.Legend → Legend
legend_seen l =
    record {
      shapes = types_seen l.shapes;
      constants = map string_bytes l.constants.items;
      systems = map system_seen l.systems.items;
      permanents = map variables_seen l.permanents.items;
      routines = map routine_names_seen l.routines.items;
      components = map component_seen l.components.items;
    }

-- A legend has the names that the source gives: its arrays and records and constants; each system type with its permanent variables, the program being the last; each
-- routine; and the components of the tables.
pub record IsLegendOf (l : code_legend.Legend) (s : Source) (all : List Component) : Type 0 where
  pub shapes : types_seen l.shapes ≡ s.types
  pub constants : map string_bytes l.constants.items ≡ s.constants
  pub systems : map system_seen l.systems.items ≡ at_each (system_of s) (length s.systems + 1)
  pub permanents : map variables_seen l.permanents.items ≡ at_each (permanents_of s) (length s.systems + 1)
  pub routines : map routine_names_seen l.routines.items ≡ routines_from s 0 s.routines
  pub components : map component_seen l.components.items ≡ components_of s all
