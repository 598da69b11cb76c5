-- What is laid out of constants and types as they are written, and the state after the constants of their enumerations. In the shape of the code, as `Laid` says.
use Rattle.std.specs.Prelude.{ℕ, ◌+◌, ◌-◌, nat_le, pos, negsuc, neg_ℤ, int_le, ℤ, if◌then◌else◌, List, [], ◌∷◌, ◌++◌, map, length, Option, Some, None}
use Rattle.cp_tree.specs.declared.constant.Identifier.{Identifier}
use Rattle.cp_tree.specs.declared.constant.Sign.{Sign}
use Rattle.cp_tree.specs.declared.constant.Sign.TheVariants as sign
use Rattle.cp_tree.specs.declared.constant.Constant.{Constant}
use Rattle.cp_tree.specs.declared.constant.ConstantKind.{ConstantKind}
use Rattle.cp_tree.specs.declared.constant.ConstantKind.TheVariants as constant_kind
use Rattle.cp_tree.specs.Syntax as syntax
use Rattle.cp_tree.specs.Syntax.{Simple, TypeTerm, FieldGroup, FieldGroups}
use Rattle.cp_symbols.specs.declared.kinds.CellBase.{CellBase}
use Rattle.cp_symbols.specs.declared.kinds.CellBase.TheVariants as base
use Rattle.cp_symbols.specs.declared.kinds.CellRange.{CellRange}
use Rattle.cp_symbols.specs.declared.kinds.CellType.{CellType}
use Rattle.cp_symbols.specs.declared.kinds.CellType.TheVariants as types
use Rattle.cp_symbols.specs.declared.names.LayoutMeaning.{LayoutMeaning}
use Rattle.cp_symbols.specs.declared.names.LayoutMeaning.TheVariants as meaning
use Rattle.cp_symbols.specs.Kinds.{Compounds, whole, values_of, cells_of}
use Rattle.cp_layout.specs.Kinds.{with_array, Fields, no_fields, with_field, with_record}
use Rattle.cp_layout.specs.Layers.{Names, find, find_type, Layer}
use Rattle.cp_layout.specs.LaidExpressions.{as_integer}

-- ---- constants

-- there is no opposite of the least integer
abbrev pub opposite_number : ℤ → ℤ
opposite_number z = if int_le z (negsuc 32767) then pos 32767 else neg_ℤ z

abbrev pub number_with_sign : Option Sign → ℤ → ℤ
number_with_sign (Some sign.Minus) z = opposite_number z
number_with_sign s z = z

abbrev pub constant_meant : Option Sign → Option LayoutMeaning → CellBase × ℤ
constant_meant s (Some (meaning.Constant b z)) = (b, number_with_sign s z)
constant_meant s m = (base.Integer, pos 0)

abbrev pub constant_of_kind : Names → ConstantKind → CellBase × ℤ
constant_of_kind names (constant_kind.Number s n) = (base.Integer, number_with_sign s (as_integer n))
constant_of_kind names (constant_kind.Name s i) = constant_meant s (find i.name names)
constant_of_kind names (constant_kind.Character c) = (base.Char, pos c)

-- the base and the value of a constant
abbrev pub constant_of : Names → Constant → CellBase × ℤ
constant_of names c = constant_of_kind names c.kind

abbrev pub labels_of : Names → List Constant → List ℤ
labels_of names cs = map (λ c. (constant_of names c).1) cs

-- ---- simple types

-- a name that no type has
abbrev pub type_meant : Option CellType → CellType
type_meant (Some t) = t
type_meant None = values_of base.Integer

-- the type that a name stands for
abbrev pub type_of_name : Layer → List ℕ → CellType
type_of_name l x = type_meant (find_type x l.names)

abbrev pub subrange : (low high : CellBase × ℤ) → CellType
subrange low high = types.Ordinal (record { base = low.0; low = low.1; high = high.1 })

-- one more constant of an enumeration
abbrev pub with_constant : Layer → List ℕ → LayoutMeaning → Layer
with_constant l x m = record l { names = (x, m) ∷ l.names; constants = l.constants ++ x ∷ [] }

-- the constants of an enumeration, from the one with this number on
unfoldable pub enumerate : Layer → CellBase → ℕ → List Identifier → Layer
enumerate l b n [] = l
enumerate l b n (i ∷ is) = enumerate (with_constant l i.name (meaning.Constant b (as_integer n))) b (n + 1) is

abbrev pub first_constant : ℕ → ℕ
first_constant n = if nat_le n 65535 then n else 65535

-- the base of an enumeration, by the number of its first constant and how many it has
abbrev pub enumeration_base : (first count : ℕ) → CellBase
enumeration_base first count = base.Enumeration (first_constant first) (as_integer (count - 1))

abbrev pub enumeration : Layer → List Identifier → CellType × Layer
enumeration l is = (values_of (enumeration_base (length l.constants) (length is)), enumerate l (enumeration_base (length l.constants) (length is)) 0 is)

unfoldable pub simple_type : Layer → Simple → CellType × Layer
simple_type l (syntax.type_name at x) = (type_of_name l x, l)
simple_type l (syntax.enumeration at is) = enumeration l is
simple_type l (syntax.subrange at c d) = (subrange (constant_of l.names c) (constant_of l.names d), l)

-- the values of an ordinal type
abbrev pub range_of : CellType → CellRange
range_of (types.Ordinal r) = r
range_of t = whole base.Integer

-- ---- all types

abbrev pub with_types : Layer → CellType × Compounds → CellType × Layer
with_types l x = (x.0, record l { types = x.1 })

-- a new array type
abbrev pub with_array_type : Layer → (index : CellRange) → (element : CellType) → CellType × Layer
with_array_type l i t = with_types l (with_array l.types i t)

-- a new record type
abbrev pub with_record_type : Layer → Fields → CellType × Layer
with_record_type l r = with_types l (with_record l.types r)

-- fields of one type
unfoldable pub fields_of_type : Fields → List Identifier → CellType → (cells : ℕ) → Fields
fields_of_type r [] t n = r
fields_of_type r (i ∷ is) t n = fields_of_type (with_field r i.name t n) is t n

unfoldable mutual
  -- a type, with the constants of its enumerations declared
  pub written_type : Layer → TypeTerm → CellType × Layer
  written_type l (syntax.simple at s) = simple_type l s
  written_type l (syntax.array_of at s t) =
      let x = simple_type l s in
      let y = written_type x.1 t in
      with_array_type y.1 (range_of x.0) y.0
  written_type l (syntax.set_type at s) =
      let x = simple_type l s in
      (types.Set (range_of x.0), x.1)
  written_type l (syntax.record_of at gs b) =
      let x = field_groups l no_fields gs in
      with_record_type x.1 x.0

  -- the fields of these groups besides those before them
  pub field_groups : Layer → Fields → FieldGroups → Fields × Layer
  field_groups l r syntax.no_fields = (r, l)
  field_groups l r (syntax.more_fields g gs) =
      let x = field_group l r g in
      field_groups x.1 x.0 gs

  pub field_group : Layer → Fields → FieldGroup → Fields × Layer
  field_group l r (syntax.fields is t) =
      let x = written_type l t in
      (fields_of_type r is x.0 (cells_of x.1.types x.0), x.1)
