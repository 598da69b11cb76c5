-- Types: what a written type stands for (the book, chapter 8).
use Rattle.std.specs.Prelude.{ℕ, ℤ, pos, negsuc, ◌+ℤ◌, neg_ℤ, int_le, Bool, true, false, ◌&&◌, if◌then◌else◌, List}
use Rattle.cp_meaning.specs.Names.{Name, same_name}

-- the ordinal types that are no subranges
pub data Base : Type 0 where
  integers : Base
  booleans : Base
  characters : Base
  -- the number of tokens before its definition, and its constants in order
  enumerated : ℕ → List Name → Base

-- the values of a base from the lowest to the highest
pub record Range : Type 0 where
  pub base : Base
  pub low : ℤ
  pub high : ℤ

mutual
  -- what a written type stands for
  pub data Ty : Type 0 where
    ordinal : Range → Ty
    queue_type : Ty
    -- sets of values of the range
    set_over : Range → Ty
    -- the range of the index, and the element
    array_over : Range → Ty → Ty
    record_with : FieldTypes → Ty
    -- a system type, by its place among those of the program
    component_of : ℕ → Ty

  pub data FieldTypes : Type 0 where
    no_field_types : FieldTypes
    more_field_types : Name → Ty → FieldTypes → FieldTypes

abbrev pub all_integers : Range
all_integers = record { base = integers; low = negsuc 32767; high = pos 32767 }

abbrev pub all_booleans : Range
all_booleans = record { base = booleans; low = pos 0; high = pos 1 }

abbrev pub all_characters : Range
all_characters = record { base = characters; low = pos 0; high = pos 127 }

-- the value is in the range
abbrev pub is_within : Range → ℤ → Bool
is_within r z = int_le r.low z && int_le z r.high

-- the number of the places from low to high
abbrev pub natural_of : ℤ → ℕ
natural_of (pos n) = n
natural_of (negsuc n) = 0

-- how many values a range has
abbrev pub length_of_range : Range → ℕ
length_of_range r = natural_of ((r.high +ℤ neg_ℤ r.low) +ℤ pos 1)

-- the range of an ordinal type; of another, which no accepted program needs, all integers
abbrev pub range_of : Ty → Range
range_of (ordinal r) = r
range_of t = all_integers

-- the type of the field of that name
abbrev pub field_type_in : FieldTypes → Name → Ty
field_type_in no_field_types x = ordinal all_integers
field_type_in (more_field_types y t ts) x = if same_name x y then t else field_type_in ts x

-- the type of a field
abbrev pub field_type : Ty → Name → Ty
field_type (record_with ts) x = field_type_in ts x
field_type t x = t

-- a component, or an array of components
abbrev pub has_components : Ty → Bool
has_components (component_of k) = true
has_components (array_over r (component_of k)) = true
has_components t = false
