-- The types of a program, with the cells of their values.
use Rattle.std.specs.Prelude.{ℕ, zero, suc, ℤ, pos, if◌then◌else◌, ◌==◌, List, [], ◌∷◌, ◌++◌, length, map, replicate, Option, Some, None, slice_get}
use Rattle.std.specs.Str.{bytes_eq}
use Rattle.cp_symbols.specs.declared.kinds.CellRange.{CellRange}
use Rattle.cp_symbols.specs.declared.kinds.CellType.{CellType}
use Rattle.cp_symbols.specs.declared.kinds.CellType.TheVariants as types
use Rattle.cp_symbols.specs.declared.kinds.ArrayType.{ArrayType}
use Rattle.cp_symbols.specs.Kinds.{Field, Compound, array, record_with, Compounds, cells_of, count_of, least_of, plus, times}
use Rattle.cp_layout.specs.declared.kinds.Field as code_field
use Rattle.cp_layout.specs.declared.kinds.RecordType as code_record
use Rattle.cp_layout.specs.declared.kinds.Compound as code_compound
use Rattle.cp_layout.specs.declared.kinds.Compound.TheVariants as compound
use Rattle.cp_layout.specs.declared.kinds.Types as code_types

abbrev pub field_seen : code_field.Field → Field
field_seen f = record { name = f.name.now; value_type = f.value_type; offset = f.offset }

abbrev pub compound_seen : code_compound.Compound → Compound
compound_seen (compound.Array a) = array a
compound_seen (compound.Record r) = record_with (map field_seen r.fields.items) r.cells

unfoldable pub types_seen : code_types.Types → Compounds
types_seen t = map compound_seen t.compounds.items

abbrev pub as_array : Option Compound → Option ArrayType
as_array (Some (array a)) = Some a
as_array _ = None

abbrev pub array_of : Compounds → CellType → Option ArrayType
array_of ts (types.Array n) = as_array (slice_get ts n)
array_of ts _ = None

abbrev pub field_in : List ℕ → List Field → Option Field
field_in x [] = None
field_in x (f ∷ fs) = if bytes_eq f.name x then Some f else field_in x fs

abbrev pub as_field : List ℕ → Option Compound → Option Field
as_field x (Some (record_with fs cells)) = field_in x fs
as_field x _ = None

abbrev pub field_of : Compounds → CellType → List ℕ → Option Field
field_of ts (types.Record n) x = as_field x (slice_get ts n)
field_of ts _ x = None

-- ---- the cells with which a variable begins

-- the same cells again and again
unfoldable pub copies : ℕ → List ℤ → List ℤ
copies zero zs = []
copies (suc n) zs = copies n zs ++ zs

-- by what a compound type gives
abbrev pub least_by : (ℕ → List ℤ) → CellType → List ℤ
least_by compound (types.Ordinal r) = least_of r ∷ []
least_by compound types.Queue = pos 0 ∷ []
least_by compound (types.Set r) = replicate 8 (pos 0)
least_by compound (types.Array n) = compound n
least_by compound (types.Record n) = compound n
least_by compound (types.System n) = []

unfoldable pub fields_least : (ℕ → List ℤ) → List Field → List ℤ
fields_least compound [] = []
fields_least compound (f ∷ fs) = least_by compound f.value_type ++ fields_least compound fs

abbrev pub elements_least : (ℕ → List ℤ) → ArrayType → List ℤ
elements_least compound a = copies (count_of a.index) (least_by compound a.element)

abbrev pub compound_least : (ℕ → List ℤ) → Option Compound → List ℤ
compound_least compound None = []
compound_least compound (Some (array a)) = elements_least compound a
compound_least compound (Some (record_with fs cells)) = fields_least compound fs

-- of a compound type, if it is one of the first `bound`
unfoldable pub compound_below : Compounds → (bound : ℕ) → ℕ → List ℤ
compound_below ts zero n = []
compound_below ts (suc bound) n = if n == bound then compound_least (compound_below ts bound) (slice_get ts bound) else compound_below ts bound n

abbrev pub least_below : Compounds → (bound : ℕ) → CellType → List ℤ
least_below ts bound t = least_by (compound_below ts bound) t

-- the cells with which a variable of a type begins
unfoldable pub least : Compounds → CellType → List ℤ
least ts t = least_below ts (length ts) t

-- ---- new types

abbrev pub array_type : Compounds → (index : CellRange) → (element : CellType) → ArrayType
array_type ts i t = record { index = i; element = t; element_cells = cells_of ts t; cells = times (cells_of ts t) (count_of i) }

abbrev pub with_array : Compounds → (index : CellRange) → (element : CellType) → CellType × Compounds
with_array ts i t = (types.Array (length ts), ts ++ array (array_type ts i t) ∷ [])

-- the fields of a record, and the cells of all
pub record Fields : Type 0 where
  pub fields : List Field
  pub cells : ℕ

abbrev pub fields_seen : code_record.RecordType → Fields
fields_seen r = record { fields = map field_seen r.fields.items; cells = r.cells }

abbrev pub with_record : Compounds → Fields → CellType × Compounds
with_record ts r = (types.Record (length ts), ts ++ record_with r.fields r.cells ∷ [])

abbrev pub no_fields : Fields
no_fields = record { fields = []; cells = 0 }

-- one more field, that takes this many cells
abbrev pub with_field : Fields → List ℕ → CellType → (cells : ℕ) → Fields
with_field r x t n = record { fields = r.fields ++ (let f : Field = record { name = x; value_type = t; offset = r.cells } in f) ∷ []; cells = plus r.cells n }
