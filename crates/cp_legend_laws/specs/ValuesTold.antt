-- A value of a type as people read it.
use Rattle.std.specs.Prelude.{ℕ, ℤ, pos, List, [], map, Option, Some, None, codes}
use Rattle.cp_meaning.specs.Types.{Base, integers, Ty, ordinal, queue_type, set_over, array_over, record_with, FieldTypes, more_field_types}
use Rattle.cp_meaning.specs.Values.{Value, number_value, array_value, record_value, set_value, queue_value, Values, no_values, more_values, FieldValues, more_field_values}
use Rattle.cp_legend.specs.Values as told
use Rattle.cp_legend_laws.specs.Paths.{value_text}

-- an integer as itself, another ordinal value as the source writes it
abbrev pub ordinal_told : Base → ℤ → told.Value
ordinal_told integers z = told.integer z
ordinal_told b z = told.named (value_text b z)

abbrev pub members_told : Base → List ℕ → List told.Value
members_told b ns = map (λ n. ordinal_told b (pos n)) ns

-- whether somebody waits in a queue, and not who
abbrev pub queue_told : Option ℕ → told.Value
queue_told None = told.named (codes "empty")
queue_told (Some q) = told.named (codes "waited in")

-- A value that is not of the type has no text.
abbrev mutual
  pub value_told : Ty → Value → told.Value
  value_told (ordinal r) (number_value z) = ordinal_told r.base z
  value_told queue_type (queue_value o) = queue_told o
  value_told (set_over r) (set_value ns) = told.set (told.values_of (members_told r.base ns))
  value_told (array_over r t) (array_value vs) = told.list (elements_told t vs)
  value_told (record_with ts) (record_value fs) = told.record_of (fields_told ts fs)
  value_told t v = told.named []

  pub elements_told : Ty → Values → told.Values
  elements_told t no_values = told.no_values
  elements_told t (more_values v vs) = told.more_values (value_told t v) (elements_told t vs)

  -- a field with its name
  pub fields_told : FieldTypes → FieldValues → told.Members
  fields_told (more_field_types x t ts) (more_field_values y v fs) = told.more_members x (value_told t v) (fields_told ts fs)
  fields_told ts fs = told.no_members
