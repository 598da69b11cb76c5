-- What a call is given, and what comes back from it: values, and the places that `var` parameters name.
use Rattle.std.specs.Prelude.{ℕ, ◌-◌, nat_le, if◌then◌else◌, List, [], ◌∷◌, ◌++◌, ℤ, pos, map, flat_map, Option, Some, None, slice_get}
use Rattle.cp_store.specs.declared.memory.Address.{Address}
use Rattle.cp_store.specs.declared.memory.Address.TheVariants.{Permanent, Local}
use Rattle.cp_store.specs.declared.memory.Frame.{Frame}
use Rattle.cp_machine.specs.declared.process.Entry.{Entry}
use Rattle.cp_machine.specs.declared.process.Entry.TheVariants.{Return, InitEnd}
use Rattle.cp_machine.specs.Machine.{Thread}
use Rattle.cp_symbols.specs.declared.kinds.CellType.{CellType}
use Rattle.cp_symbols.specs.Kinds.{cells_of, plus}
use Rattle.cp_legend.specs.declared.legend.LegendParameter.{LegendParameter}
use Rattle.cp_legend.specs.declared.legend.LegendPassing.{LegendPassing}
use Rattle.cp_legend.specs.declared.legend.LegendPassing.TheVariants as passing
use Rattle.cp_legend.specs.Names.{Legend, RoutineNames, Variable}
use Rattle.cp_legend.specs.Places.{local_name_in, owner, permanent_name_in}
use Rattle.cp_legend.specs.Values.{Value, integer, named, value_of}

-- the value of a type whose cells begin at a place
abbrev pub read : Legend → List ℤ → CellType → (at : ℕ) → Value
read l cells t at = value_of l.constants l.shapes cells t at

-- ---- the places that `var` parameters name

-- the frame that goes on behind an entry of a control stack
abbrev pub caller_in : Entry → Option Frame
caller_in (Return caller result monitor) = Some caller
caller_in (InitEnd caller component) = Some caller
caller_in _ = None

-- a frame, if it begins at the cell or before; else another
abbrev pub nearer : Option Frame → (cell : ℕ) → Option Frame → Option Frame
nearer None cell outer = outer
nearer (Some f) cell outer = if nat_le f.base cell then Some f else outer

-- the caller's frame that has a cell: the innermost one that begins there or before
abbrev pub frame_with : (stack : List Entry) → (cell : ℕ) → Option Frame
frame_with [] cell = None
frame_with (e ∷ es) cell = nearer (caller_in e) cell (frame_with es cell)

abbrev pub name_in_frame : Legend → Option Frame → (cell cells : ℕ) → List ℕ
name_in_frame l None cell cells = []
name_in_frame l (Some f) cell cells = local_name_in l.constants l.shapes (slice_get l.routines f.routine) (cell - f.base) cells

-- what the source calls so many cells from an address on
abbrev pub name_at : Legend → (stack : List Entry) → Option Address → (cells : ℕ) → List ℕ
name_at l stack None cells = []
name_at l stack (Some (Permanent cell)) cells = permanent_name_in l.constants l.shapes l.permanents (owner l.components cell) cell cells
name_at l stack (Some (Local cell)) cells = name_in_frame l (frame_with stack cell) cell cells

-- the value at an address
abbrev pub value_at : Legend → (permanents locals : List ℤ) → Option Address → CellType → Value
value_at l permanents locals None t = integer (pos 0)
value_at l permanents locals (Some (Permanent cell)) t = read l permanents t cell
value_at l permanents locals (Some (Local cell)) t = read l locals t cell

-- the address that a `var` parameter of the innermost call names
abbrev pub address_of : Thread → LegendParameter → Option Address
address_of t p = slice_get t.references (plus t.frame.references p.slot)

abbrev pub place_named : Legend → Thread → LegendParameter → List ℕ
place_named l t p = name_at l t.stack (address_of t p) (cells_of l.shapes p.shape)

-- ---- what the innermost call of a process is given

abbrev pub argument_by : Legend → Thread → LegendParameter → LegendPassing → Value
argument_by l t p passing.Value = read l t.cells p.shape (plus t.frame.base p.slot)
argument_by l t p passing.Reference = named (place_named l t p)

-- the value in the cells of a parameter, or the place that a `var` parameter names
abbrev pub argument : Legend → Thread → LegendParameter → Value
argument l t p = argument_by l t p p.passing

abbrev pub arguments_for : Legend → Thread → Option RoutineNames → List Value
arguments_for l t None = []
arguments_for l t (Some r) = map (argument l t) r.parameters

abbrev pub arguments : Legend → Option Thread → List Value
arguments l None = []
arguments l (Some t) = arguments_for l t (slice_get l.routines t.frame.routine)

-- ---- what it gives back

-- the place that a `var` parameter names, or no name for a function's result
pub record Given : Type 0 where
  pub name : List ℕ
  pub value : Value

abbrev pub given : List ℕ → Value → Given
given x v = record { name = x; value = v }

abbrev pub place_given : Legend → (permanents : List ℤ) → Thread → LegendParameter → Given
place_given l permanents t p = given (place_named l t p) (value_at l permanents t.cells (address_of t p) p.shape)

abbrev pub given_by : Legend → (permanents : List ℤ) → Thread → LegendParameter → LegendPassing → List Given
given_by l permanents t p passing.Value = []
given_by l permanents t p passing.Reference = place_given l permanents t p ∷ []

abbrev pub parameter_given : Legend → (permanents : List ℤ) → Thread → LegendParameter → List Given
parameter_given l permanents t p = given_by l permanents t p p.passing

abbrev pub variable_at : List Variable → Option ℕ → Option Variable
variable_at vs None = None
variable_at vs (Some place) = slice_get vs place

-- the result of a function, among its variables
abbrev pub result_in : RoutineNames → Option Variable
result_in r = variable_at r.variables r.result

abbrev pub result_given : Legend → Thread → Option Variable → List Given
result_given l t None = []
result_given l t (Some v) = given [] (read l t.cells v.shape (plus t.frame.base v.slot)) ∷ []

abbrev pub given_for : Legend → (permanents : List ℤ) → Thread → Option RoutineNames → List Given
given_for l permanents t None = []
given_for l permanents t (Some r) = flat_map (parameter_given l permanents t) r.parameters ++ result_given l t (result_in r)

-- the values of the places that its `var` parameters name, and the result of a function
abbrev pub given_back : Legend → (permanents : List ℤ) → Option Thread → List Given
given_back l permanents None = []
given_back l permanents (Some t) = given_for l permanents t (slice_get l.routines t.frame.routine)
