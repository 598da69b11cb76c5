-- Reading types. The number is how many more levels are allowed below.
use Rattle.std.specs.Prelude.{ℕ, zero, suc, if◌then◌else◌, List, Option, Some, None}
use Rattle.cp_text.specs.declared.token.Mark.{Mark}
use Rattle.cp_text.specs.declared.token.Mark.TheVariants as mark
use Rattle.cp_tree.specs.declared.constant.Constant.{Constant}
use Rattle.cp_tree.specs.declared.constant.ConstantKind.{ConstantKind}
use Rattle.cp_tree.specs.declared.constant.ConstantKind.TheVariants as constant_kind
use Rattle.cp_tree.specs.Input.{Parser, ◌>>=◌, ◌>>◌, pure, refuse, deep, place, peek_mark, skip, eat, expect}
use Rattle.cp_tree.specs.Reading.{identifiers, constant, ended_list}
use Rattle.cp_tree.specs.Syntax.{Simple, type_name, enumeration, subrange, TypeTerm, simple, array_of, set_type, record_of, FieldGroup, fields}
use Rattle.cp_tree.specs.View.{field_groups_of}

-- the name that a constant is, where it has no sign
abbrev pub name_of : ConstantKind → Option (List ℕ)
name_of (constant_kind.Name None i) = Some i.name
name_of (constant_kind.Name (Some s) i) = None
name_of (constant_kind.Number s n) = None
name_of (constant_kind.Character c) = None

abbrev pub type_named : ℕ → Option (List ℕ) → Parser Simple
type_named at (Some n) = pure (type_name at n)
type_named at None = refuse

-- A constant with no `..` after it names a type.
unfoldable pub simple_from : ℕ → Constant → Parser Simple
simple_from at c = do
  is_subrange ← eat mark.DoublePeriod
  if is_subrange then (do d ← constant; pure (subrange at c d)) else type_named at (name_of c.kind)

unfoldable pub enumeration_at : ℕ → Parser Simple
enumeration_at at = do
  is ← identifiers
  expect mark.CloseParenthesis
  pure (enumeration at is)

unfoldable pub simple_type : Parser Simple
simple_type = do
  at ← place
  is_open ← eat mark.OpenParenthesis
  if is_open then enumeration_at at else (constant >>= simple_from at)

unfoldable pub set_at : ℕ → Parser TypeTerm
set_at at = do
  expect mark.Of
  s ← simple_type
  pure (set_type at s)

module _ (inner : Parser TypeTerm) where
  unfoldable pub array_with : ℕ → Parser TypeTerm
  array_with at = do
    expect mark.OpenBracket
    s ← simple_type
    expect mark.CloseBracket
    expect mark.Of
    t ← inner
    pure (array_of at s t)

  unfoldable pub field_group_with : Parser FieldGroup
  field_group_with = do
    is ← identifiers
    expect mark.Colon
    t ← inner
    pure (fields is t)

  unfoldable pub record_with : ℕ → Parser TypeTerm
  record_with at = do
    gs ← ended_list field_group_with
    expect mark.End
    pure (record_of at (field_groups_of gs.0) gs.1)

  abbrev pub type_by : ℕ → Option Mark → Parser TypeTerm
  type_by at (Some mark.Array) = skip >> array_with at
  type_by at (Some mark.Set) = skip >> set_at at
  type_by at (Some mark.Record) = skip >> record_with at
  type_by at _ = do s ← simple_type; pure (simple at s)

  unfoldable pub type_with : Parser TypeTerm
  type_with = do
    at ← place
    m ← peek_mark
    type_by at m

unfoldable pub type_term : ℕ → Parser TypeTerm
type_term zero = deep
type_term (suc b) = type_with (type_term b)

-- the rules where the types inside have at most b levels
unfoldable pub type_at : ℕ → Parser TypeTerm
type_at b = type_with (type_term b)

unfoldable pub array_at : ℕ → ℕ → Parser TypeTerm
array_at b at = array_with (type_term b) at

unfoldable pub field_group_at : ℕ → Parser FieldGroup
field_group_at b = field_group_with (type_term b)

unfoldable pub record_at : ℕ → ℕ → Parser TypeTerm
record_at b at = record_with (type_term b) at
