-- Values as a reader of the source sees them.
use Rattle.std.specs.Prelude.{ℕ, List, [], ◌++◌, codes}
use Rattle.std.specs.Fmt.{signed_decimal}
use Rattle.cp_legend.specs.Values.{Value, Values, Members, integer, named, list, set, record_of, no_values, more_values, no_members, more_members}

-- An array stands in brackets, a set in braces, a record in parentheses with the names of its fields.
abbrev mutual
  pub value_text : Value → List ℕ
  value_text (integer z) = signed_decimal z
  value_text (named x) = x
  value_text (list vs) = codes "[" ++ values_text [] vs ++ codes "]"
  value_text (set vs) = codes "{" ++ values_text [] vs ++ codes "}"
  value_text (record_of ms) = codes "(" ++ members_text [] ms ++ codes ")"

  -- with this before the first, and a comma before each later one
  pub values_text : (before : List ℕ) → Values → List ℕ
  values_text before no_values = []
  values_text before (more_values v vs) = before ++ value_text v ++ values_text (codes ", ") vs

  pub members_text : (before : List ℕ) → Members → List ℕ
  members_text before no_members = []
  members_text before (more_members name v ms) = before ++ name ++ codes ": " ++ value_text v ++ members_text (codes ", ") ms
