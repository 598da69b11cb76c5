-- The names of places: a variable or a part of one, by its first cell.
use Rattle.std.specs.Prelude.{ℕ, zero, suc, ◌-◌, ◌/◌, ◌==◌, ◌&&◌, nat_le, nat_lt, if◌then◌else◌, Bool, List, [], ◌∷◌, ◌++◌, length, Option, Some, None, slice_get, unwrap_or, codes}
use Rattle.cp_symbols.specs.declared.kinds.ArrayType.{ArrayType}
use Rattle.cp_symbols.specs.declared.kinds.CellType.{CellType}
use Rattle.cp_symbols.specs.declared.kinds.CellType.TheVariants as types
use Rattle.cp_symbols.specs.Kinds.{Compounds, Field, times, cells_of}
use Rattle.cp_legend.specs.Values.{as_array, fields_in}
use Rattle.cp_legend.specs.Names.{Named, Variable, RoutineNames, index_text}
use Rattle.cp_legend.specs.declared.places.PlacePart.{PlacePart}

-- ---- the component of a permanent cell

abbrev pub later : Option Named → Named → (cell : ℕ) → Option Named
later found c cell = if nat_le c.base cell then Some c else found

abbrev pub owner_from : Option Named → List Named → (cell : ℕ) → Option Named
owner_from found [] cell = found
owner_from found (c ∷ cs) cell = owner_from (later found c cell) cs cell

-- the last of the components that begin there or before
abbrev pub owner : List Named → (cell : ℕ) → Option Named
owner cs cell = owner_from None cs cell

abbrev pub monitor_in : Option Named → Option ℕ
monitor_in None = None
monitor_in (Some c) = c.monitor

-- the variables of a system type, by its number
abbrev pub variables_at : List (List Variable) → (system : ℕ) → List Variable
variables_at permanents n = unwrap_or (slice_get permanents n) []

-- ---- parts of variables

abbrev pub later_field : Option Field → Field → (offset : ℕ) → Option Field
later_field found f offset = if nat_le f.offset offset then Some f else found

abbrev pub field_from : Option Field → List Field → (offset : ℕ) → Option Field
field_from found [] offset = found
field_from found (f ∷ fs) offset = field_from (later_field found f offset) fs offset

-- the field that has the cell so many after the first: the last of those that begin there or before
abbrev pub field_at : List Field → (offset : ℕ) → Option Field
field_at fs offset = field_from None fs offset

-- the element that has it, by its place
abbrev pub element_at : ArrayType → (offset : ℕ) → ℕ
element_at a offset = if a.element_cells == 0 then 0 else offset / a.element_cells

abbrev pub element_text : List (List ℕ) → Option ArrayType → (offset : ℕ) → List ℕ
element_text names None offset = []
element_text names (Some a) offset = index_text names a.index (element_at a offset)

abbrev pub field_text : Option Field → List ℕ
field_text None = []
field_text (Some f) = codes "." ++ f.name

-- the index or the field that leads from a value to its part that has that cell
abbrev pub step_text_by : List (List ℕ) → Compounds → CellType → (offset : ℕ) → List ℕ
step_text_by names ts (types.Array n) offset = element_text names (as_array (slice_get ts n)) offset
step_text_by names ts (types.Record n) offset = field_text (field_at (fields_in (slice_get ts n)) offset)
step_text_by names ts _ offset = []

abbrev pub step_text : List (List ℕ) → Compounds → PlacePart → List ℕ
step_text names ts p = step_text_by names ts p.shape p.offset

abbrev pub part : CellType → (offset : ℕ) → PlacePart
part t offset = record { shape = t; offset = offset }

abbrev pub element_part : PlacePart → Option ArrayType → PlacePart
element_part p None = p
element_part p (Some a) = part a.element (p.offset - times (element_at a p.offset) a.element_cells)

abbrev pub field_part : PlacePart → Option Field → PlacePart
field_part p None = p
field_part p (Some f) = part f.value_type (p.offset - f.offset)

-- that part, with the cells before the cell in it
abbrev pub inner_by : Compounds → PlacePart → CellType → PlacePart
inner_by ts p (types.Array n) = element_part p (as_array (slice_get ts n))
inner_by ts p (types.Record n) = field_part p (field_at (fields_in (slice_get ts n)) p.offset)
inner_by ts p _ = p

abbrev pub inner_part : Compounds → PlacePart → PlacePart
inner_part ts p = inner_by ts p p.shape

-- the indices and fields that lead to the first part of no more than so many cells, in so many steps at most
unfoldable pub parts_text : List (List ℕ) → Compounds → (cells steps : ℕ) → PlacePart → List ℕ
parts_text names ts cells zero p = []
parts_text names ts cells (suc n) p = if nat_le (cells_of ts p.shape) cells then [] else step_text names ts p ++ parts_text names ts cells n (inner_part ts p)

-- ---- names

abbrev pub has_cell : Compounds → Variable → (cell : ℕ) → Bool
has_cell ts v cell = nat_le v.slot cell && nat_lt (cell - v.slot) (cells_of ts v.shape)

-- an array or a record holds earlier ones alone
abbrev pub part_name : List (List ℕ) → Compounds → Variable → (cell cells : ℕ) → List ℕ
part_name names ts v cell cells = v.name ++ parts_text names ts cells (length ts) (part v.shape (cell - v.slot))

-- What has so many cells from a cell on: the variable that has the cell, with the indices and fields that lead to it.
abbrev pub place_name : List (List ℕ) → Compounds → List Variable → (cell cells : ℕ) → List ℕ
place_name names ts [] cell cells = []
place_name names ts (v ∷ vs) cell cells = if has_cell ts v cell then part_name names ts v cell cells else place_name names ts vs cell cells

abbrev pub permanent_name_in : List (List ℕ) → Compounds → List (List Variable) → Option Named → (cell cells : ℕ) → List ℕ
permanent_name_in names ts permanents None cell cells = []
permanent_name_in names ts permanents (Some c) cell cells = place_name names ts (variables_at permanents c.system) (cell - c.base) cells

abbrev pub local_name_in : List (List ℕ) → Compounds → Option RoutineNames → (cell cells : ℕ) → List ℕ
local_name_in names ts None cell cells = []
local_name_in names ts (Some r) cell cells = place_name names ts r.variables cell cells
