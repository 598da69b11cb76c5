-- Values, and the parts of a value (the book, chapter 8; the least values are this profile's).
use Rattle.std.specs.Prelude.{ℕ, zero, suc, ℤ, pos, negsuc, int_lt, Bool, false, ◌==◌, ◌&&◌, ◌||◌, not, if◌then◌else◌, List, [], ◌∷◌, filter, Option, None}
use Rattle.cp_meaning.specs.Names.{Name, same_name}
use Rattle.cp_meaning.specs.Types.{Range, Ty, ordinal, queue_type, set_over, array_over, record_with, component_of, FieldTypes, no_field_types, more_field_types, length_of_range}

-- A queue has the process that waits in it, if one does. A set has its members, each once and in rising order: it is empty or comes from `set_where`.
mutual
  -- a number, an array, a record, a set of numbers 0 to 127, or a queue with at most one process
  pub data Value : Type 0 where
    number_value : ℤ → Value
    array_value : Values → Value
    record_value : FieldValues → Value
    set_value : List ℕ → Value
    queue_value : Option ℕ → Value

  pub data Values : Type 0 where
    no_values : Values
    more_values : Value → Values → Values

  pub data FieldValues : Type 0 where
    no_field_values : FieldValues
    more_field_values : Name → Value → FieldValues → FieldValues

-- ---- least values: that of the type integer is 0, that of a queue is empty

-- equal values, as the elements of an array at first
abbrev pub copies : ℕ → Value → Values
copies zero v = no_values
copies (suc n) v = more_values v (copies n v)

-- The lower bound; of all integers 0. No constant is below -32767, so no subrange of integers begins as low as they do.
abbrev pub least_number : Range → ℤ
least_number r = if int_lt r.low (negsuc 32766) then pos 0 else r.low

abbrev mutual
  pub least : Ty → Value
  least (ordinal r) = number_value (least_number r)
  least queue_type = queue_value None
  least (set_over r) = set_value []
  least (array_over r t) = array_value (copies (length_of_range r) (least t))
  least (record_with ts) = record_value (least_fields ts)
  least (component_of k) = number_value (pos 0)

  pub least_fields : FieldTypes → FieldValues
  least_fields no_field_types = no_field_values
  least_fields (more_field_types x t ts) = more_field_values x (least t) (least_fields ts)

-- ---- parts

-- a field, or an element by the number of elements before it
pub data Choice : Type 0 where
  the_field : Name → Choice
  the_element : ℕ → Choice

abbrev pub element_at : Values → ℕ → Value
element_at no_values n = number_value (pos 0)
element_at (more_values v vs) zero = v
element_at (more_values v vs) (suc n) = element_at vs n

abbrev pub field_at : FieldValues → Name → Value
field_at no_field_values x = number_value (pos 0)
field_at (more_field_values y v vs) x = if same_name x y then v else field_at vs x

-- one part of a value
abbrev pub part_of : Value → Choice → Value
part_of (array_value vs) (the_element n) = element_at vs n
part_of (record_value vs) (the_field x) = field_at vs x
part_of v c = v

-- a part of a part, as the choices go on
abbrev pub part_at : Value → List Choice → Value
part_at v [] = v
part_at v (c ∷ cs) = part_at (part_of v c) cs

abbrev pub with_element : Values → ℕ → Value → Values
with_element no_values n w = no_values
with_element (more_values v vs) zero w = more_values w vs
with_element (more_values v vs) (suc n) w = more_values v (with_element vs n w)

abbrev pub with_field : FieldValues → Name → Value → FieldValues
with_field no_field_values x w = no_field_values
with_field (more_field_values y v vs) x w = if same_name x y then more_field_values y w vs else more_field_values y v (with_field vs x w)

abbrev pub with_one_part : Value → Choice → Value → Value
with_one_part (array_value vs) (the_element n) w = array_value (with_element vs n w)
with_one_part (record_value vs) (the_field x) w = record_value (with_field vs x w)
with_one_part v c w = v

-- the value with another one at that part
abbrev pub with_part : Value → List Choice → Value → Value
with_part v [] w = w
with_part v (c ∷ cs) w = with_one_part v c (with_part (part_of v c) cs w)

-- ---- numbers, sets and queues

abbrev pub number_of : Value → ℤ
number_of (number_value z) = z
number_of v = pos 0

-- the members of a set
abbrev pub members_of : Value → List ℕ
members_of (set_value ns) = ns
members_of v = []

-- the process that waits in a queue
abbrev pub waiting_in : Value → Option ℕ
waiting_in (queue_value o) = o
waiting_in v = None

-- whether a number is among others
abbrev pub is_member : ℕ → List ℕ → Bool
is_member n [] = false
is_member n (m ∷ ms) = n == m || is_member n ms

abbrev pub counted_from : ℕ → ℕ → List ℕ
counted_from zero n = []
counted_from (suc k) n = n ∷ counted_from k (suc n)

-- the set of the numbers 0 to 127 that pass the test
abbrev pub set_where : (ℕ → Bool) → List ℕ
set_where test = filter test (counted_from 128 0)

abbrev pub union : List ℕ → List ℕ → List ℕ
union a b = set_where (λ n. is_member n a || is_member n b)

abbrev pub difference : List ℕ → List ℕ → List ℕ
difference a b = set_where (λ n. is_member n a && not (is_member n b))

abbrev pub intersection : List ℕ → List ℕ → List ℕ
intersection a b = set_where (λ n. is_member n a && is_member n b)

abbrev pub with_member : List ℕ → ℕ → List ℕ
with_member a n = union a (n ∷ [])
