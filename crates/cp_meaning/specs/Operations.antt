-- The operations on values (the book, chapter 8): one case for each row of the language's table of operations.
use Rattle.std.specs.Prelude.{ℕ, ◌-◌, ℤ, pos, negsuc, ◌+ℤ◌, ◌*ℤ◌, neg_ℤ, int_le, int_lt, int_div, int_rem, Bool, true, false, ◌&&◌, ◌||◌, not, if◌then◌else◌, List, [], ◌∷◌, length, Option, Some, None, is_none, Ok, Err, bytes_eq}
use Rattle.cp_tree.specs.declared.constant.Sign.{Sign}
use Rattle.cp_tree.specs.declared.constant.Sign.TheVariants as sign
use Rattle.cp_tree.specs.declared.expression.Relation.{Relation}
use Rattle.cp_tree.specs.declared.expression.Relation.TheVariants.{Equal, NotEqual, Less, Greater, AtMost, AtLeast, In}
use Rattle.cp_tree.specs.declared.expression.Addition.{Addition}
use Rattle.cp_tree.specs.declared.expression.Addition.TheVariants.{Plus, Minus, Or}
use Rattle.cp_tree.specs.declared.expression.Multiplication.{Multiplication}
use Rattle.cp_tree.specs.declared.expression.Multiplication.TheVariants.{Times, Div, Mod, And}
use Rattle.cp_meaning.specs.Outcome.{Outcome, overflow, zero_divisor, out_of_range}
use Rattle.cp_meaning.specs.Types.{Base, integers, booleans, characters, enumerated, Range, Ty, ordinal, set_over, all_integers, all_booleans, all_characters, range_of, is_within}
use Rattle.cp_meaning.specs.Values.{Value, number_value, set_value, number_of, members_of, waiting_in, is_member, union, difference, intersection}
use Rattle.cp_meaning.specs.Scopes.{Standard, succ_function, pred_function, chr_function, ord_function, abs_function, empty_function}

-- a value with its type
pub record Typed : Type 0 where
  pub ty : Ty
  pub value : Value

abbrev pub integer : ℤ → Typed
integer z = record { ty = ordinal all_integers; value = number_value z }

abbrev pub truth : Bool → Typed
truth b = record { ty = ordinal all_booleans; value = number_value (if b then pos 1 else pos 0) }

abbrev pub is_true : Typed → Bool
is_true a = int_lt (pos 0) (number_of a.value)

abbrev pub set_of_members : List ℕ → Typed
set_of_members ns = record { ty = set_over all_integers; value = set_value ns }

-- an integer from -32768 to 32767
abbrev pub fitting : ℤ → Outcome Typed
fitting z = if is_within all_integers z then Ok (integer z) else Err overflow

abbrev pub same_integer : ℤ → ℤ → Bool
same_integer a b = int_le a b && int_le b a

-- ---- relations: `=` and `<>` of sets, `in`, and those of ordinals

abbrev pub is_among : ℤ → List ℕ → Bool
is_among (pos n) ns = is_member n ns
is_among (negsuc n) ns = false

-- relations of ordinals; those of sets are `=`, `<>` and `in` alone
abbrev pub related_numbers : Relation → ℤ → ℤ → Bool
related_numbers Equal a b = same_integer a b
related_numbers NotEqual a b = not (same_integer a b)
related_numbers Less a b = int_lt a b
related_numbers Greater a b = int_lt b a
related_numbers AtMost a b = int_le a b
related_numbers AtLeast a b = int_le b a
related_numbers In a b = false

abbrev pub related_sets : Relation → List ℕ → List ℕ → Bool
related_sets Equal a b = bytes_eq a b
related_sets NotEqual a b = not (bytes_eq a b)
related_sets r a b = false

abbrev pub related_values : Relation → Value → Value → Bool
related_values r (set_value a) b = related_sets r a (members_of b)
related_values r (number_value a) (set_value ns) = is_among a ns
related_values r (number_value a) b = related_numbers r a (number_of b)
related_values r a b = false

-- ---- `+`, `-` and `or`; `*`, `div`, `mod` and `and`

-- + and - of integers: outside -32768 to 32767 is the run error overflow
abbrev pub added_numbers : Addition → ℤ → ℤ → Outcome Typed
added_numbers Plus a b = fitting (a +ℤ b)
added_numbers Minus a b = fitting (a +ℤ neg_ℤ b)
added_numbers Or a b = Ok (truth (int_lt (pos 0) a || int_lt (pos 0) b))

abbrev pub added_sets : Addition → List ℕ → List ℕ → List ℕ
added_sets Minus a b = difference a b
added_sets op a b = union a b

abbrev pub added_values : Addition → Value → Value → Outcome Typed
added_values op (set_value a) b = Ok (set_of_members (added_sets op a (members_of b)))
added_values op a b = added_numbers op (number_of a) (number_of b)

-- `div` truncates towards zero, and `mod` has the sign of the dividend
abbrev pub multiplied_numbers : Multiplication → ℤ → ℤ → Outcome Typed
multiplied_numbers Times a b = fitting (a *ℤ b)
multiplied_numbers Div a b = if same_integer b (pos 0) then Err zero_divisor else fitting (int_div a b)
multiplied_numbers Mod a b = if same_integer b (pos 0) then Err zero_divisor else fitting (int_rem a b)
multiplied_numbers And a b = Ok (truth (int_lt (pos 0) a && int_lt (pos 0) b))

abbrev pub multiplied_values : Multiplication → Value → Value → Outcome Typed
multiplied_values op (set_value a) b = Ok (set_of_members (intersection a (members_of b)))
multiplied_values op a b = multiplied_numbers op (number_of a) (number_of b)

abbrev pub signed_value : Option Sign → Typed → Outcome Typed
signed_value None a = Ok a
signed_value (Some sign.Plus) a = Ok (integer (number_of a.value))
signed_value (Some sign.Minus) a = fitting (neg_ℤ (number_of a.value))

-- ---- standard functions

abbrev pub range_of_base : Base → Range
range_of_base integers = all_integers
range_of_base booleans = all_booleans
range_of_base characters = all_characters
range_of_base (enumerated at xs) = record { base = enumerated at xs; low = pos 0; high = pos (length xs - 1) }

-- a value of the base, beyond whose first and last value there is none
abbrev pub in_base : Base → ℤ → Outcome Typed
in_base b z = if is_within (range_of_base b) z then Ok (record { ty = ordinal (range_of_base b); value = number_value z }) else Err out_of_range

-- succ, pred, chr, ord, abs and empty
abbrev pub standard_value : Standard → Typed → Outcome Typed
standard_value succ_function a = in_base (range_of a.ty).base (number_of a.value +ℤ pos 1)
standard_value pred_function a = in_base (range_of a.ty).base (number_of a.value +ℤ negsuc 0)
standard_value chr_function a = in_base characters (number_of a.value)
standard_value ord_function a = Ok (integer (number_of a.value))
standard_value abs_function a = fitting (if int_lt (number_of a.value) (pos 0) then neg_ℤ (number_of a.value) else number_of a.value)
standard_value empty_function a = Ok (truth (is_none (waiting_in a.value)))
standard_value s a = Ok a

-- ---- the check of an assignment and of a constant argument

abbrev pub are_within : Range → List ℕ → Bool
are_within r [] = true
are_within r (n ∷ ns) = is_within r (pos n) && are_within r ns

abbrev pub fits : Ty → Value → Bool
fits (ordinal r) w = is_within r (number_of w)
fits (set_over r) w = are_within r (members_of w)
fits t w = true

-- the value in the range of the type, or the run error range
abbrev pub checked : Ty → Value → Outcome Value
checked t w = if fits t w then Ok w else Err out_of_range
