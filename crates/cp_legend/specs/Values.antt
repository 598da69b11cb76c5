-- Values as people read them, from the cells of variables.
use Rattle.std.specs.Prelude.{ℕ, zero, suc, ◌/◌, ◌%◌, ◌^◌, ◌==◌, ◌&&◌, not, int_le, Bool, true, false, ℤ, pos, unsigned_abs, if◌then◌else◌, List, [], ◌∷◌, ◌++◌, map, length, Option, Some, None, slice_get, slice_index_or, codes}
use Rattle.std.specs.Fmt.{signed_decimal}
use Rattle.std.specs.Int.{cast_unsigned, w16}
use Rattle.std.specs.Ordering.{int_eq}
use Rattle.std.specs.String.{string_bytes}
use Rattle.cp_symbols.specs.declared.kinds.ArrayType.{ArrayType}
use Rattle.cp_symbols.specs.declared.kinds.CellBase.{CellBase}
use Rattle.cp_symbols.specs.declared.kinds.CellBase.TheVariants as base
use Rattle.cp_symbols.specs.declared.kinds.CellType.{CellType}
use Rattle.cp_symbols.specs.declared.kinds.CellType.TheVariants as types
use Rattle.cp_symbols.specs.Kinds.{Compound, Compounds, Field, array, record_with, plus, times, count_of}
use Rattle.cp_symbols.specs.Symbols.{type_symbol_seen}
use Rattle.cp_legend.specs.declared.types.LegendTypes as code_types
use Rattle.cp_legend.specs.declared.value.SourceValue as code_value
use Rattle.cp_legend.specs.declared.value.Member as code_member
use Rattle.cp_legend.specs.declared.value.SourceValue.TheOpen.{SourceValue-F, Member-F}

-- An integer; a truth value, a character, a constant or a queue by its text; the elements of an array; the members of a set; the fields of a record.
mutual
  pub data Value : Type 0 where
    integer : ℤ → Value
    named : List ℕ → Value
    list : Values → Value
    set : Values → Value
    record_of : Members → Value

  pub data Values : Type 0 where
    no_values : Values
    more_values : Value → Values → Values

  pub data Members : Type 0 where
    no_members : Members
    more_members : List ℕ → Value → Members → Members

abbrev pub values_of : List Value → Values
values_of [] = no_values
values_of (v ∷ vs) = more_values v (values_of vs)

abbrev pub members_of : List (List ℕ × Value) → Members
members_of [] = no_members
members_of (m ∷ ms) = more_members m.0 m.1 (members_of ms)

abbrev pub value_step : SourceValue-F Value (List ℕ × Value) → Value
value_step (SourceValue-F.Integer z) = integer z
value_step (SourceValue-F.Named s) = named (string_bytes s)
value_step (SourceValue-F.List vs) = list (values_of vs.items)
value_step (SourceValue-F.Set vs) = set (values_of vs.items)
value_step (SourceValue-F.Record ms) = record_of (members_of ms.items)

abbrev pub member_step : Member-F Value (List ℕ × Value) → List ℕ × Value
member_step m = (string_bytes m.name, m.value)

abbrev pub value_seen : code_value.SourceValue → Value
value_seen = code_value.fold-SourceValue Value (List ℕ × Value) value_step member_step

abbrev pub member_seen : code_member.Member → List ℕ × Value
member_seen = code_member.fold-Member Value (List ℕ × Value) value_step member_step

unfoldable pub types_seen : code_types.LegendTypes → Compounds
types_seen t = map type_symbol_seen t.compounds.items

abbrev pub as_array : Option Compound → Option ArrayType
as_array (Some (array a)) = Some a
as_array _ = None

abbrev pub fields_in : Option Compound → List Field
fields_in (Some (record_with fs n)) = fs
fields_in _ = []

-- ---- queues

abbrev pub is_queue : CellType → Bool
is_queue types.Queue = true
is_queue _ = false

abbrev pub has_queues : Option ArrayType → Bool
has_queues None = false
has_queues (Some a) = is_queue a.element

-- whether a value is a queue, or an array of queues
abbrev pub is_queues : Compounds → CellType → Bool
is_queues ts types.Queue = true
is_queues ts (types.Array n) = has_queues (as_array (slice_get ts n))
is_queues ts _ = false

-- ---- ordinal values, as the source writes them

abbrev pub character_text : ℤ → List ℕ
character_text z = if int_le (pos 33) z && (int_le z (pos 126) && not (int_eq z (pos 39))) then codes "'" ++ unsigned_abs z ∷ [] ++ codes "'" else codes "'(:" ++ signed_decimal z ++ codes ":)'"

-- a constant of an enumeration, by its name
abbrev pub constant_text : Option (List ℕ) → ℤ → List ℕ
constant_text None z = signed_decimal z
constant_text (Some name) z = name

-- by the names of the constants of all enumerations; what is behind the last constant of an enumeration is no constant
abbrev pub ordinal_text : List (List ℕ) → CellBase → ℤ → List ℕ
ordinal_text names base.Integer z = signed_decimal z
ordinal_text names base.Boolean z = if int_eq z (pos 0) then codes "false" else codes "true"
ordinal_text names base.Char z = character_text z
ordinal_text names (base.Enumeration first last) z = if int_le z last then constant_text (slice_get names (plus first (unsigned_abs z))) z else signed_decimal z

abbrev pub ordinal_value : List (List ℕ) → CellBase → ℤ → Value
ordinal_value names base.Integer z = integer z
ordinal_value names b z = named (ordinal_text names b z)

-- ---- sets

abbrev pub cell : List ℤ → ℕ → ℤ
cell cells n = slice_index_or cells n (pos 0)

-- sixteen to a cell
abbrev pub has_member : List ℤ → (at number : ℕ) → Bool
has_member cells at n = (cast_unsigned w16 (cell cells (plus at (n / 16))) / 2 ^ (n % 16)) % 2 == 1

abbrev pub member_value : List (List ℕ) → CellBase → List ℤ → (at number : ℕ) → List Value
member_value names b cells at n = if has_member cells at n then ordinal_value names b (pos n) ∷ [] else []

-- the members below a number
unfoldable pub members_below : List (List ℕ) → CellBase → List ℤ → (at number : ℕ) → List Value
members_below names b cells at zero = []
members_below names b cells at (suc n) = members_below names b cells at n ++ member_value names b cells at n

-- ---- values of a type, whose cells begin at a place

abbrev pub queue_value : ℤ → Value
queue_value z = named (if int_eq z (pos 0) then codes "empty" else codes "waited in")

-- where `compound` gives the values of arrays and records
abbrev pub value_by : List (List ℕ) → List ℤ → (compound : ℕ → ℕ → Value) → CellType → ℕ → Value
value_by names cells compound (types.Ordinal r) at = ordinal_value names r.base (cell cells at)
value_by names cells compound types.Queue at = queue_value (cell cells at)
value_by names cells compound (types.Set r) at = set (values_of (members_below names r.base cells at 128))
value_by names cells compound (types.Array n) at = compound n at
value_by names cells compound (types.Record n) at = compound n at
value_by names cells compound (types.System n) at = named []

-- the first elements of an array
unfoldable pub elements_below : List (List ℕ) → List ℤ → (ℕ → ℕ → Value) → ArrayType → (at number : ℕ) → List Value
elements_below names cells compound a at zero = []
elements_below names cells compound a at (suc n) = elements_below names cells compound a at n ++ value_by names cells compound a.element (plus at (times n a.element_cells)) ∷ []

abbrev pub field_value : List (List ℕ) → List ℤ → (ℕ → ℕ → Value) → ℕ → Field → List ℕ × Value
field_value names cells compound at f = (f.name, value_by names cells compound f.value_type (plus at f.offset))

abbrev pub compound_value : List (List ℕ) → List ℤ → (ℕ → ℕ → Value) → Option Compound → ℕ → Value
compound_value names cells compound None at = record_of no_members
compound_value names cells compound (Some (array a)) at = list (values_of (elements_below names cells compound a at (count_of a.index)))
compound_value names cells compound (Some (record_with fs n)) at = record_of (members_of (map (field_value names cells compound at) fs))

-- of an array or a record, if it is one of the first `bound`: each holds earlier ones alone
unfoldable pub compound_below : List (List ℕ) → Compounds → List ℤ → (bound : ℕ) → ℕ → ℕ → Value
compound_below names ts cells zero n at = list no_values
compound_below names ts cells (suc bound) n at = if n == bound then compound_value names cells (compound_below names ts cells bound) (slice_get ts bound) at else compound_below names ts cells bound n at

abbrev pub value_below : List (List ℕ) → Compounds → List ℤ → (bound : ℕ) → CellType → ℕ → Value
value_below names ts cells bound t at = value_by names cells (compound_below names ts cells bound) t at

-- The value that the cells from a place on are, for a variable of this type.
unfoldable pub value_of : List (List ℕ) → Compounds → List ℤ → CellType → ℕ → Value
value_of names ts cells t at = value_below names ts cells (length ts) t at
