-- Operations on ordinals: the mathematical operation, and then the test whether its value is one of the type.
use Rattle.std.specs.Prelude.{Bool, true, false, not, ◌&&◌, ◌||◌, if◌then◌else◌, Result, Ok, Err, ℤ, pos, neg_ℤ, ◌+ℤ◌, ◌-ℤ◌, ◌*ℤ◌, int_lt, int_le, int_div, int_rem, unsigned_abs}
use Rattle.std.specs.Ordering.{int_eq}
use Rattle.cp_slots.specs.declared.place.Arithmetic.{Arithmetic}
use Rattle.cp_slots.specs.declared.place.Arithmetic.TheVariants.{Add, Subtract, Multiply, Divide, Modulo}
use Rattle.cp_slots.specs.declared.place.Logic.{Logic}
use Rattle.cp_slots.specs.declared.place.Logic.TheVariants.{And, Or}
use Rattle.cp_slots.specs.declared.place.Comparison.{Comparison}
use Rattle.cp_slots.specs.declared.place.Comparison.TheVariants.{Equal, NotEqual, Less, Greater, AtMost, AtLeast}
use Rattle.cp_store.specs.declared.error.ErrorName.{ErrorName}
use Rattle.cp_store.specs.declared.error.ErrorName.TheVariants.{Overflow, ZeroDivisor, Range}

-- goes on with a value, unless there is a run error
abbrev pub then_with : {A B : Type 0} → Result A ErrorName → (A → Result B ErrorName) → Result B ErrorName
then_with (Ok v) go = go v
then_with (Err e) go = Err e

abbrev pub is_within : (low high : ℤ) → ℤ → Bool
is_within low high z = int_le low z && int_le z high

-- an integer of the language, or overflow
abbrev pub narrow : ℤ → Result ℤ ErrorName
narrow z = if is_within (neg_ℤ (pos 32768)) (pos 32767) z then Ok z else Err Overflow

-- a value within bounds, or range
abbrev pub check_range : (low high : ℤ) → ℤ → Result ℤ ErrorName
check_range low high z = if is_within low high z then Ok z else Err Range

-- truth values are 0 and 1

abbrev pub truth : Bool → ℤ
truth true = pos 1
truth false = pos 0

abbrev pub is_true : ℤ → Bool
is_true z = not (int_eq z (pos 0))

abbrev pub negate : ℤ → Result ℤ ErrorName
negate z = narrow (neg_ℤ z)

abbrev pub absolute : ℤ → Result ℤ ErrorName
absolute z = narrow (pos (unsigned_abs z))

abbrev pub successor : (last : ℤ) → ℤ → Result ℤ ErrorName
successor last z = if int_lt z last then Ok (z +ℤ pos 1) else Err Range

abbrev pub predecessor : (first : ℤ) → ℤ → Result ℤ ErrorName
predecessor first z = if int_lt first z then Ok (z -ℤ pos 1) else Err Range

abbrev pub product : ℤ → ℤ → Result ℤ ErrorName
product x y = narrow (x *ℤ y)

-- rounded towards zero
abbrev pub quotient : ℤ → ℤ → Result ℤ ErrorName
quotient x y = if int_eq y (pos 0) then Err ZeroDivisor else narrow (int_div x y)

-- with the sign of the dividend
abbrev pub remainder : ℤ → ℤ → Result ℤ ErrorName
remainder x y = if int_eq y (pos 0) then Err ZeroDivisor else Ok (int_rem x y)

abbrev pub calculate : Arithmetic → ℤ → ℤ → Result ℤ ErrorName
calculate Add x y = narrow (x +ℤ y)
calculate Subtract x y = narrow (x -ℤ y)
calculate Multiply x y = product x y
calculate Divide x y = quotient x y
calculate Modulo x y = remainder x y

abbrev pub apply_logic : Logic → ℤ → ℤ → ℤ
apply_logic And x y = truth (is_true x && is_true y)
apply_logic Or x y = truth (is_true x || is_true y)

abbrev pub compare : Comparison → ℤ → ℤ → ℤ
compare Equal x y = truth (int_eq x y)
compare NotEqual x y = truth (not (int_eq x y))
compare Less x y = truth (int_lt x y)
compare Greater x y = truth (int_lt y x)
compare AtMost x y = truth (int_le x y)
compare AtLeast x y = truth (int_le y x)
