-- Whether two values are the same.
use Rattle.std.specs.Prelude.{ℕ, Bool, true, false, ◌==◌, ◌&&◌, List, [], ◌∷◌, Option, Some, None}
use Rattle.std.specs.Ordering.{int_eq}
use Rattle.cp_meaning.specs.Names.{same_name}
use Rattle.cp_meaning.specs.Values.{Value, number_value, array_value, record_value, set_value, queue_value, Values, no_values, more_values, FieldValues, no_field_values, more_field_values}

abbrev pub same_members : List ℕ → List ℕ → Bool
same_members [] [] = true
same_members (m ∷ ms) (n ∷ ns) = m == n && same_members ms ns
same_members ms ns = false

abbrev pub same_waiting : Option ℕ → Option ℕ → Bool
same_waiting None None = true
same_waiting (Some p) (Some q) = p == q
same_waiting o u = false

abbrev mutual
  pub same_value : Value → Value → Bool
  same_value (number_value y) (number_value z) = int_eq y z
  same_value (array_value vs) (array_value ws) = same_values vs ws
  same_value (record_value fs) (record_value gs) = same_fields fs gs
  same_value (set_value ms) (set_value ns) = same_members ms ns
  same_value (queue_value o) (queue_value u) = same_waiting o u
  same_value v w = false

  pub same_values : Values → Values → Bool
  same_values no_values no_values = true
  same_values (more_values v vs) (more_values w ws) = same_value v w && same_values vs ws
  same_values vs ws = false

  pub same_fields : FieldValues → FieldValues → Bool
  same_fields no_field_values no_field_values = true
  same_fields (more_field_values x v fs) (more_field_values y w gs) = same_name x y && (same_value v w && same_fields fs gs)
  same_fields fs gs = false
