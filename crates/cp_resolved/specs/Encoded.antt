-- The cells of a value, and the values of a type.
use Rattle.std.specs.Prelude.{◌≡◌, ℕ, zero, suc, ◌+◌, ◌*◌, ◌/◌, ◌%◌, ◌^◌, ◌<◌, nat_lt, ℤ, pos, true, if◌then◌else◌, List, [], ◌∷◌, ◌++◌, Option, Some, None}
use Rattle.std.specs.Int.{cast_signed, w16}
use Rattle.cp_meaning.specs.Names.{Name, same_name}
use Rattle.cp_meaning.specs.Types.{Ty, ordinal, queue_type, set_over, array_over, record_with, FieldTypes, no_field_types, more_field_types, length_of_range, is_within}
use Rattle.cp_meaning.specs.Values.{Value, number_value, array_value, record_value, set_value, queue_value, Values, no_values, more_values, FieldValues, no_field_values, more_field_values, Choice, the_field, the_element}
use Rattle.cp_meaning.specs.Operations.{range_of_base}
use Rattle.cp_resolved.specs.Layouts.{cells_of}

-- ---- cells

-- the bits of members
abbrev pub bits_of : List ℕ → ℕ
bits_of [] = 0
bits_of (n ∷ ns) = 2 ^ n + bits_of ns

-- the cell that holds sixteen members from a number on
abbrev pub word_of : ℕ → ℕ → ℤ
word_of bits k = cast_signed w16 ((bits / 2 ^ (16 * k)) % 2 ^ 16)

abbrev pub set_cells : ℕ → List ℤ
set_cells bits = word_of bits 0 ∷ word_of bits 1 ∷ word_of bits 2 ∷ word_of bits 3 ∷ word_of bits 4 ∷ word_of bits 5 ∷ word_of bits 6 ∷ word_of bits 7 ∷ []

-- whether somebody waits
abbrev pub flag_of : Option ℕ → ℤ
flag_of None = pos 0
flag_of (Some r) = pos 1

abbrev mutual
  -- the cells of a value, from the first on
  pub encode : Value → List ℤ
  encode (number_value z) = z ∷ []
  encode (array_value vs) = encode_all vs
  encode (record_value fs) = encode_fields fs
  encode (set_value ns) = set_cells (bits_of ns)
  encode (queue_value o) = flag_of o ∷ []

  pub encode_all : Values → List ℤ
  encode_all no_values = []
  encode_all (more_values v vs) = encode v ++ encode_all vs

  pub encode_fields : FieldValues → List ℤ
  encode_fields no_field_values = []
  encode_fields (more_field_values x v fs) = encode v ++ encode_fields fs

-- ---- types

-- below 128, and in rising order
abbrev pub AreMembers : ℕ → List ℕ → Type 0
AreMembers low [] = Unit {0}
AreMembers low (n ∷ ns) = (low < suc n) × (n < 128) × AreMembers (suc n) ns

-- this many values of a type
abbrev pub AllHave : (Value → Type 0) → ℕ → Values → Type 0
AllHave Has zero no_values = Unit {0}
AllHave Has (suc n) (more_values v vs) = Has v × AllHave Has n vs
AllHave Has zero (more_values v vs) = ⊥
AllHave Has (suc n) no_values = ⊥

abbrev mutual
  -- An ordinal is one of the base: that it is within the bounds of a subrange is seen where it is assigned.
  pub HasType : Ty → Value → Type 0
  HasType (ordinal r) (number_value z) = is_within (range_of_base r.base) z ≡ true
  HasType queue_type (queue_value o) = Unit {0}
  HasType (set_over r) (set_value ns) = AreMembers 0 ns
  HasType (array_over r t) (array_value vs) = AllHave (HasType t) (length_of_range r) vs
  HasType (record_with ts) (record_value fs) = HaveTypes ts fs
  HasType t w = ⊥

  pub HaveTypes : FieldTypes → FieldValues → Type 0
  HaveTypes no_field_types no_field_values = Unit {0}
  HaveTypes (more_field_types x t ts) (more_field_values y v fs) = (x ≡ y) × HasType t v × HaveTypes ts fs
  HaveTypes no_field_types (more_field_values y v fs) = ⊥
  HaveTypes (more_field_types x t ts) no_field_values = ⊥

-- ---- parts

-- the cells before a part, and the type of the part
abbrev pub Chosen : Type 0
Chosen = ℕ × Ty

abbrev pub further_chosen : ℕ → Option Chosen → Option Chosen
further_chosen n None = None
further_chosen n (Some c) = Some (n + c.0, c.1)

abbrev pub field_chosen : FieldTypes → Name → Option Chosen
field_chosen no_field_types x = None
field_chosen (more_field_types y t ts) x = if same_name x y then Some (0, t) else further_chosen (cells_of t) (field_chosen ts x)

abbrev pub one_chosen : Ty → Choice → Option Chosen
one_chosen (record_with ts) (the_field x) = field_chosen ts x
one_chosen (array_over r t) (the_element n) = if nat_lt n (length_of_range r) then Some (n * cells_of t, t) else None
one_chosen t c = None

abbrev pub then_chosen : Option Chosen → (Ty → Option Chosen) → Option Chosen
then_chosen None go = None
then_chosen (Some c) go = further_chosen c.0 (go c.1)

-- the part at some choices
abbrev pub chosen_at : Ty → List Choice → Option Chosen
chosen_at t [] = Some (0, t)
chosen_at t (c ∷ cs) = then_chosen (one_chosen t c) (λ u. chosen_at u cs)
