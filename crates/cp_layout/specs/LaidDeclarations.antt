-- What is laid out of declarations: parts, headings, routines, system types and the program. In the shape of the code, as `Laid` says.
use Rattle.std.specs.Prelude.{Bool, true, false, ℕ, ◌-◌, ℤ, if◌then◌else◌, List, [], ◌∷◌, ◌++◌, length, drop, Option, Some, None}
use Rattle.cp_tree.specs.declared.constant.Identifier.{Identifier}
use Rattle.cp_tree.specs.declared.declaration.SystemKind.{SystemKind}
use Rattle.cp_tree.specs.Syntax as syntax
use Rattle.cp_tree.specs.Syntax.{ConstantDefinition, TypeDefinition, VariableGroup, Part, Group, ParameterGroup, RoutineKind, Routine, Body, Definition, SystemDefinition, ProgramPart, Program}
use Rattle.cp_slots.specs.declared.place.PlaceOrigin.TheVariants as origin
use Rattle.cp_slots.specs.declared.tables.ComponentParameter.{ComponentParameter}
use Rattle.cp_symbols.specs.declared.kinds.CellBase.{CellBase}
use Rattle.cp_symbols.specs.declared.kinds.CellType.{CellType}
use Rattle.cp_symbols.specs.declared.kinds.CellType.TheVariants as types
use Rattle.cp_symbols.specs.declared.kinds.ArrayType.{ArrayType}
use Rattle.cp_symbols.specs.declared.names.LayoutMeaning.{LayoutMeaning}
use Rattle.cp_symbols.specs.declared.names.LayoutMeaning.TheVariants as meaning
use Rattle.cp_layout.specs.declared.layer.Contained.{Contained}
use Rattle.cp_layout.specs.declared.layer.Content.TheVariants as content
use Rattle.cp_layout.specs.declared.layer.Passing.TheVariants as passing
use Rattle.cp_layout.specs.declared.layer.ParameterLayout.{ParameterLayout}
use Rattle.cp_symbols.specs.declared.symbols.FunctionResult.{FunctionResult}
use Rattle.cp_layout.specs.declared.declaration.Outer as code_outer
use Rattle.cp_symbols.specs.Kinds.{Compounds, cells_of, count_of, plus, times}
use Rattle.cp_layout.specs.Kinds.{array_of, least}
use Rattle.cp_layout.specs.Layers.{Names, names_seen, owned_seen, seen_inside, Layer, Heading, Owned, System, with_name, with_routine, settle_items, no_frame, no_owned}
use Rattle.cp_layout.specs.LaidExpressions.{component_count}
use Rattle.cp_layout.specs.LaidTypes.{constant_of, type_of_name, written_type}
use Rattle.cp_layout.specs.LaidStatements.{check_invariants, statements}

-- ---- constants and types

abbrev pub constant_meaning : CellBase × ℤ → LayoutMeaning
constant_meaning c = meaning.Constant c.0 c.1

abbrev pub constant : Layer → ConstantDefinition → Layer
constant l d = with_name l d.name.name (constant_meaning (constant_of l.names d.value))

unfoldable pub constants : Layer → List ConstantDefinition → Layer
constants l [] = l
constants l (d ∷ ds) = constants (constant l d) ds

-- a name for a type, by the type and the state after it
abbrev pub with_type_name : List ℕ → CellType × Layer → Layer
with_type_name x t = with_name t.1 x (meaning.Kind t.0)

abbrev pub type_definition : Layer → TypeDefinition → Layer
type_definition l d = with_type_name d.name.name (written_type l d.value)

unfoldable pub type_definitions : Layer → List TypeDefinition → Layer
type_definitions l [] = l
type_definitions l (d ∷ ds) = type_definitions (type_definition l d) ds

-- ---- permanent variables

abbrev pub array_components : ArrayType → CellType → Option Contained
array_components a (types.System k) = Some (record { system = k; count = count_of a.index })
array_components a t = None

abbrev pub components_in : Option ArrayType → Option Contained
components_in None = None
components_in (Some a) = array_components a a.element

-- the components of a variable
abbrev pub components_of : Compounds → CellType → Option Contained
components_of ts (types.System k) = Some (record { system = k; count = 1 })
components_of ts t = components_in (array_of ts t)

-- more components; the number of the first is the count of those before it
abbrev pub with_components : Layer → Contained → ℕ × Layer
with_components l c =
    (l.owned.count, record l { owned = record l.owned { count = plus l.owned.count (times (component_count l c.system) c.count); contained = l.owned.contained ++ c ∷ [] } })

abbrev pub component_variable : Layer → List ℕ → CellType → Contained → Layer
component_variable l x t c =
    let y = with_components l c in
    with_name y.1 x (meaning.Contained y.0 t)

-- more permanent cells, and the first of them
abbrev pub with_permanent : Layer → CellType → ℕ × Layer
with_permanent l t = (l.owned.cells, record l { owned = record l.owned { cells = plus l.owned.cells (cells_of l.types t); contents = l.owned.contents ++ content.Variable t ∷ [] } })

-- a variable of permanent cells, and the first of them
abbrev pub cell_variable : Layer → List ℕ → CellType → ℕ × Layer
cell_variable l x t =
    let y = with_permanent l t in
    (y.0, with_name y.1 x (meaning.Variable (origin.Permanent y.0) t))

abbrev pub variable_with : Layer → List ℕ → CellType → Option Contained → Layer
variable_with l x t None = (cell_variable l x t).1
variable_with l x t (Some c) = component_variable l x t c

abbrev pub variable : Layer → List ℕ → CellType → Layer
variable l x t = variable_with l x t (components_of l.types t)

-- variables of one type
unfoldable pub variables_of : Layer → CellType → List Identifier → Layer
variables_of l t [] = l
variables_of l t (i ∷ is) = variables_of (variable l i.name t) t is

abbrev pub variable_group : Layer → VariableGroup → Layer
variable_group l g =
    let x = written_type l g.variable_type in
    variables_of x.1 x.0 g.names

unfoldable pub variables : Layer → List VariableGroup → Layer
variables l [] = l
variables l (g ∷ gs) = variables (variable_group l g) gs

-- ---- local variables

-- the cells of a parameter, a result or a local variable, and the first of them
abbrev pub with_local : Layer → CellType → ℕ × Layer
with_local l t = (length l.frame.image, record l { frame = record l.frame { image = l.frame.image ++ least l.types t } })

-- a variable or a constant parameter, and its first cell
abbrev pub local_at : Layer → List ℕ → CellType → ℕ × Layer
local_at l x t =
    let y = with_local l t in
    (y.0, with_name y.1 x (meaning.Variable (origin.Local y.0) t))

abbrev pub local : Layer → List ℕ → CellType → Layer
local l x t = (local_at l x t).1

unfoldable pub locals_of : Layer → CellType → List Identifier → Layer
locals_of l t [] = l
locals_of l t (i ∷ is) = locals_of (local l i.name t) t is

abbrev pub local_group : Layer → VariableGroup → Layer
local_group l g =
    let x = written_type l g.variable_type in
    locals_of x.1 x.0 g.names

unfoldable pub local_variables : Layer → List VariableGroup → Layer
local_variables l [] = l
local_variables l (g ∷ gs) = local_variables (local_group l g) gs

-- ---- parts

abbrev pub permanent_part : Layer → Part → Layer
permanent_part l (syntax.constants at ds) = constants l ds
permanent_part l (syntax.types at ds) = type_definitions l ds
permanent_part l (syntax.variables at gs) = variables l gs

unfoldable pub permanent_parts : Layer → List Part → Layer
permanent_parts l [] = l
permanent_parts l (p ∷ ps) = permanent_parts (permanent_part l p) ps

abbrev pub local_part : Layer → Part → Layer
local_part l (syntax.constants at ds) = constants l ds
local_part l (syntax.types at ds) = type_definitions l ds
local_part l (syntax.variables at gs) = local_variables l gs

unfoldable pub local_parts : Layer → List Part → Layer
local_parts l [] = l
local_parts l (p ∷ ps) = local_parts (local_part l p) ps

-- ---- headings: each function takes the parameters so far

abbrev pub Parameters : Type 0
Parameters = List ParameterLayout

abbrev pub value_parameter : ℕ → CellType → ParameterLayout
value_parameter slot t = record { slot = slot; passing = passing.Constant t }

abbrev pub constant_parameter : Layer → Parameters → List ℕ → CellType → Parameters × Layer
constant_parameter l ps x t =
    let y = local_at l x t in
    (ps ++ value_parameter y.0 t ∷ [], y.1)

-- constant parameters of one type
unfoldable pub constant_parameters_of : Layer → Parameters → CellType → List Identifier → Parameters × Layer
constant_parameters_of l ps t [] = (ps, l)
constant_parameters_of l ps t (i ∷ is) =
    let x = constant_parameter l ps i.name t in
    constant_parameters_of x.1 x.0 t is

abbrev pub constant_group : Layer → Parameters → Group → Parameters × Layer
constant_group l ps g = constant_parameters_of l ps (type_of_name l g.type_name.name) g.names

unfoldable pub constant_groups : Layer → Parameters → List Group → Parameters × Layer
constant_groups l ps [] = (ps, l)
constant_groups l ps (g ∷ gs) =
    let x = constant_group l ps g in
    constant_groups x.1 x.0 gs

abbrev pub reference_parameter : ℕ → ParameterLayout
reference_parameter slot = record { slot = slot; passing = passing.Reference }

-- the cells of a `var` parameter, by its number among these
abbrev pub with_extent : Layer → CellType → ℕ × Layer
with_extent l t = (length l.frame.extents, record l { frame = record l.frame { extents = l.frame.extents ++ cells_of l.types t ∷ [] } })

abbrev pub var_parameter : Layer → Parameters → List ℕ → CellType → Parameters × Layer
var_parameter l ps x t =
    let y = with_extent l t in
    (ps ++ reference_parameter y.0 ∷ [], with_name y.1 x (meaning.Variable (origin.Reference y.0) t))

-- `var` parameters of one type
unfoldable pub var_parameters_of : Layer → Parameters → CellType → List Identifier → Parameters × Layer
var_parameters_of l ps t [] = (ps, l)
var_parameters_of l ps t (i ∷ is) =
    let x = var_parameter l ps i.name t in
    var_parameters_of x.1 x.0 t is

abbrev pub var_group : Layer → Parameters → Group → Parameters × Layer
var_group l ps g = var_parameters_of l ps (type_of_name l g.type_name.name) g.names

abbrev pub parameter_group : Layer → Parameters → ParameterGroup → Parameters × Layer
parameter_group l ps g = if g.is_var then var_group l ps g.group else constant_group l ps g.group

unfoldable pub parameter_groups : Layer → Parameters → List ParameterGroup → Parameters × Layer
parameter_groups l ps [] = (ps, l)
parameter_groups l ps (g ∷ gs) =
    let x = parameter_group l ps g in
    parameter_groups x.1 x.0 gs

abbrev pub heading_with : List ℕ → Parameters → Option FunctionResult → Heading
heading_with x ps result = record { name = x; parameters = ps; result = result }

abbrev pub result_at : ℕ → CellType → FunctionResult
result_at slot t = record { slot = slot; value_type = t }

-- a function's result comes after its parameters
abbrev pub function_heading : List ℕ → Parameters × Layer → CellType → Heading × Layer
function_heading x p t =
    let y = with_local p.1 t in
    (heading_with x p.0 (Some (result_at y.0 t)), y.1)

abbrev pub procedure_heading : List ℕ → Parameters × Layer → Heading × Layer
procedure_heading x p = (heading_with x p.0 None, p.1)

unfoldable pub heading : Layer → List ℕ → RoutineKind → Heading × Layer
heading l x (syntax.procedure gs) = procedure_heading x (parameter_groups l [] gs)
heading l x (syntax.function gs i) =
    let p = constant_groups l [] gs in
    function_heading x p (type_of_name p.1 i.name)
heading l x syntax.invariants = procedure_heading x ([], l)

-- ---- routines

-- the items at the end of a body, where the invariants are looked at or not
abbrev pub end_of_body : Layer → Bool → Option ℕ × Layer
end_of_body l checks = settle_items (if checks then check_invariants l 0 else l) None

abbrev pub body : Layer → Body → Bool → Layer
body l b checks =
    let end = end_of_body l checks in
    let x = statements end.1 b.statements end.0 in
    with_routine x.1 x.0

abbrev pub with_new_frame : Layer → Layer
with_new_frame l = record l { frame = no_frame }

abbrev pub with_heading : Layer → Heading → Layer
with_heading l h = record l { headings = l.headings ++ h ∷ [] }

-- a routine's name and the frame for its parameters, and how many names there are then
abbrev pub open_routine : Layer → List ℕ → ℕ × Layer
open_routine l x =
    let m = with_name l x (meaning.Routine (length l.routines)) in
    (length m.names, with_new_frame m)

-- only the first names remain
abbrev pub close : Layer → ℕ → Layer
close l count = record l { names = drop (length l.names - count) l.names }

-- after its name: parameters, parts and statements
abbrev pub routine_inside : Layer → Routine → Layer
routine_inside l r =
    let h = heading l r.name.name r.kind in
    body (local_parts (with_heading h.1 h.0) r.parts) r.body r.is_entry

abbrev pub routine : Layer → Routine → Layer
routine l r =
    let x = open_routine l r.name.name in
    close (routine_inside x.1 r) x.0

unfoldable pub routines : Layer → List Routine → Layer
routines l [] = l
routines l (r ∷ rs) = routines (routine l r) rs

-- an initial statement, whose name is empty
abbrev pub initial_statement : Layer → Parameters → Body → Layer
initial_statement l ps b = body (with_heading (with_new_frame l) (heading_with [] ps None)) b true

-- ---- system types

abbrev pub component_cell : ℕ → ℕ → ComponentParameter
component_cell slot k = record { slot = slot; system = k }

-- the permanent cell of a component parameter
abbrev pub with_component_cell : Layer → ℕ → ℕ × Layer
with_component_cell l k = (
  l.owned.cells,
  record l { owned = record l.owned { cells = plus l.owned.cells 1; contents = l.owned.contents ++ content.Component ∷ []; parameters = l.owned.parameters ++ component_cell l.owned.cells k ∷ [] } },
)

abbrev pub parameter_for_component : ℕ → ParameterLayout
parameter_for_component slot = record { slot = slot; passing = passing.Component }

abbrev pub component_parameter : Layer → Parameters → List ℕ → ℕ → Parameters × Layer
component_parameter l ps x k =
    let y = with_component_cell l k in
    (ps ++ parameter_for_component y.0 ∷ [], with_name y.1 x (meaning.Bound y.0 k))

abbrev pub cell_parameter : Layer → Parameters → List ℕ → CellType → Parameters × Layer
cell_parameter l ps x t =
    let y = cell_variable l x t in
    (ps ++ value_parameter y.0 t ∷ [], y.1)

abbrev pub system_parameter : Layer → Parameters → List ℕ → CellType → Parameters × Layer
system_parameter l ps x (types.System k) = component_parameter l ps x k
system_parameter l ps x t = cell_parameter l ps x t

-- parameters of one type
unfoldable pub system_parameters_of : Layer → Parameters → CellType → List Identifier → Parameters × Layer
system_parameters_of l ps t [] = (ps, l)
system_parameters_of l ps t (i ∷ is) =
    let x = system_parameter l ps i.name t in
    system_parameters_of x.1 x.0 t is

abbrev pub system_group : Layer → Parameters → Group → Parameters × Layer
system_group l ps g = system_parameters_of l ps (type_of_name l g.type_name.name) g.names

unfoldable pub system_groups : Layer → Parameters → List Group → Parameters × Layer
system_groups l ps [] = (ps, l)
system_groups l ps (g ∷ gs) =
    let x = system_group l ps g in
    system_groups x.1 x.0 gs

-- the names and the cells of the program, while a system type is laid out
pub record Outer : Type 0 where
  pub names : Names
  pub owned : Owned

abbrev pub outer_seen : code_outer.Outer → Outer
outer_seen o = record { names = names_seen o.names; owned = owned_seen o.owned }

-- a system type begins: it sees some of the names, and has its own cells
abbrev pub enter_system : Layer → Outer × Layer
enter_system l = (record { names = l.names; owned = l.owned }, record l { names = seen_inside l.names; owned = no_owned; is_inside = true })

abbrev pub system_of : SystemKind → Owned → (first initial : ℕ) → System
system_of kind o first last = record { kind = kind; owned = o; first = first; initial = last }

-- a system type is whole
abbrev pub leave_system : Layer → Outer → SystemKind → (first initial : ℕ) → CellType × Layer
leave_system l o kind first last =
    (types.System (length l.systems), record l { names = o.names; owned = o.owned; systems = l.systems ++ system_of kind l.owned first last ∷ []; is_inside = false })

-- its parts and its routines, after its parameters
abbrev pub system_inside : Layer → syntax.System → Layer
system_inside l s = routines (permanent_parts l s.parts) s.routines

abbrev pub system_with : Layer → Outer → (first : ℕ) → Parameters → syntax.System → CellType × Layer
system_with l o first ps s = leave_system (initial_statement l ps s.body) o s.kind first (length l.routines)

unfoldable pub system : Layer → syntax.System → CellType × Layer
system l s =
    let o = enter_system l in
    let x = system_groups o.1 [] s.parameters in
    system_with (system_inside x.1 s) o.0 (length l.routines) x.0 s

-- ---- the program

abbrev pub definition : Layer → Definition → CellType × Layer
definition l (syntax.type_definition t) = written_type l t
definition l (syntax.system_definition s) = system l s

abbrev pub system_definition : Layer → SystemDefinition → Layer
system_definition l d = with_type_name d.name.name (definition l d.value)

unfoldable pub system_definitions : Layer → List SystemDefinition → Layer
system_definitions l [] = l
system_definitions l (d ∷ ds) = system_definitions (system_definition l d) ds

abbrev pub program_part : Layer → ProgramPart → Layer
program_part l (syntax.program_constants at ds) = constants l ds
program_part l (syntax.program_types at ds) = system_definitions l ds
program_part l (syntax.program_variables at gs) = variables l gs

unfoldable pub program_parts : Layer → List ProgramPart → Layer
program_parts l [] = l
program_parts l (p ∷ ps) = program_parts (program_part l p) ps

-- the whole program, whose initial statement is the last routine
unfoldable pub program : Layer → Program → Layer
program l p = initial_statement (routines (program_parts l p.parts) p.routines) [] p.body
