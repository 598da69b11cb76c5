-- Types of values, with how many cells they take.
use Rattle.std.specs.Prelude.{ℕ, ◌+◌, ◌-◌, ◌*◌, ◌^◌, min, ℤ, pos, negsuc, ◌+ℤ◌, ◌-ℤ◌, int_le, unsigned_abs, if◌then◌else◌, List, Option, Some, None, slice_get}
use Rattle.cp_symbols.specs.declared.kinds.CellBase.{CellBase}
use Rattle.cp_symbols.specs.declared.kinds.CellBase.TheVariants as base
use Rattle.cp_symbols.specs.declared.kinds.CellRange.{CellRange}
use Rattle.cp_symbols.specs.declared.kinds.CellType.{CellType}
use Rattle.cp_symbols.specs.declared.kinds.CellType.TheVariants as types
use Rattle.cp_symbols.specs.declared.kinds.ArrayType.{ArrayType}

-- the greatest number of a machine word
abbrev pub most : ℕ
most = 2 ^ 64 - 1

-- a sum that stops there
abbrev pub plus : ℕ → ℕ → ℕ
plus m n = min (m + n) most

-- a product that stops there
abbrev pub times : ℕ → ℕ → ℕ
times m n = min (m * n) most

-- all values of a base
abbrev pub whole : CellBase → CellRange
whole base.Integer = record { base = base.Integer; low = negsuc 32767; high = pos 32767 }
whole base.Boolean = record { base = base.Boolean; low = pos 0; high = pos 1 }
whole base.Char = record { base = base.Char; low = pos 0; high = pos 127 }
whole (base.Enumeration first last) = record { base = base.Enumeration first last; low = pos 0; high = last }

abbrev pub values_of : CellBase → CellType
values_of b = types.Ordinal (whole b)

-- a field of a record, with the cells before it
pub record Field : Type 0 where
  pub name : List ℕ
  pub value_type : CellType
  pub offset : ℕ

-- an array, or a record by its fields and its cells
pub data Compound : Type 0 where
  array : ArrayType → Compound
  record_with : List Field → ℕ → Compound

-- each holds earlier ones alone
abbrev pub Compounds : Type 0
Compounds = List Compound

abbrev pub compound_cells : Option Compound → ℕ
compound_cells (Some (array a)) = a.cells
compound_cells (Some (record_with fs cells)) = cells
compound_cells None = 0

-- how many cells a value has; a component has none
abbrev pub cells_of : Compounds → CellType → ℕ
cells_of ts (types.Ordinal r) = 1
cells_of ts types.Queue = 1
cells_of ts (types.Set r) = 8
cells_of ts (types.Array n) = compound_cells (slice_get ts n)
cells_of ts (types.Record n) = compound_cells (slice_get ts n)
cells_of ts (types.System n) = 0

abbrev pub not_below_zero : ℤ → ℕ
not_below_zero z = if int_le (pos 0) z then unsigned_abs z else 0

-- how many values a range has
abbrev pub count_of : CellRange → ℕ
count_of r = not_below_zero ((r.high -ℤ r.low) +ℤ pos 1)

-- the value with which a variable begins: 0 for all integers, else the least
abbrev pub least_of : CellRange → ℤ
least_of r = if int_le r.low (negsuc 32767) then pos 0 else r.low
