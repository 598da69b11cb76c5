-- What plain expressions, sets and places are in a memory.
use Rattle.std.specs.Prelude.{◌≡◌, not, Result, Ok, ℤ, pos}
use Rattle.cp_slots.specs.declared.place.OrdinalExpression as code_expression
use Rattle.cp_slots.specs.declared.place.SetExpression as code_set
use Rattle.cp_slots.specs.declared.place.Place as code_place
use Rattle.cp_store.specs.declared.error.ErrorName.{ErrorName}
use Rattle.cp_store.specs.declared.memory.Address.{Address}
use Rattle.cp_store.specs.declared.memory.Frame.{Frame}
use Rattle.cp_store.specs.declared.set.SetValue.{SetValue}
use Rattle.cp_store.specs.Memory.{Memory, address_onward}
use Rattle.cp_store.specs.Places.{origin_address, element_offset, load_value, value_at, set_at, address_at}
use Rattle.cp_store.specs.Sets as sets
use Rattle.cp_store.specs.Values.{then_with, check_range, truth, is_true, negate, absolute, successor, predecessor, calculate, apply_logic, compare}
use Rattle.cp_slots.specs.Code as code

abbrev mutual
  pub plain_value : Memory → Frame → code.OrdinalExpression → Result ℤ ErrorName
  plain_value m f (code.number z) = Ok z
  plain_value m f (code.load p) = load_value m (plain_address m f p)
  plain_value m f (code.negate c) = then_with (plain_value m f c) negate
  plain_value m f (code.absolute c) = then_with (plain_value m f c) absolute
  plain_value m f (code.opposite c) = then_with (plain_value m f c) (λ x. Ok (truth (not (is_true x))))
  plain_value m f (code.successor c last) = then_with (plain_value m f c) (successor last)
  plain_value m f (code.predecessor c first) = then_with (plain_value m f c) (predecessor first)
  plain_value m f (code.character c) = then_with (plain_value m f c) (check_range (pos 0) (pos 127))
  plain_value m f (code.arithmetic o a b) = then_with (plain_value m f a) (λ x. then_with (plain_value m f b) (λ y. calculate o x y))
  plain_value m f (code.logic o a b) = then_with (plain_value m f a) (λ x. then_with (plain_value m f b) (λ y. Ok (apply_logic o x y)))
  plain_value m f (code.compare r a b) = then_with (plain_value m f a) (λ x. then_with (plain_value m f b) (λ y. Ok (compare r x y)))
  plain_value m f (code.same_set wanted a b) = then_with (plain_set m f a) (λ s. then_with (plain_set m f b) (λ t. Ok (sets.compare_sets wanted s t)))
  plain_value m f (code.member c b) = then_with (plain_value m f c) (λ x. then_with (plain_set m f b) (λ s. Ok (truth (sets.is_member s x))))
  plain_value m f (code.is_empty p) = then_with (load_value m (plain_address m f p)) (λ x. Ok (truth (not (is_true x))))

  pub plain_set : Memory → Frame → code.SetExpression → Result SetValue ErrorName
  plain_set m f (code.load_set p) = then_with (plain_address m f p) (λ at. Ok (sets.load_set m at))
  plain_set m f code.empty_set = Ok sets.empty
  plain_set m f (code.with_element b c) = then_with (plain_set m f b) (λ s. then_with (plain_value m f c) (λ x. sets.with_element s x))
  plain_set m f (code.combine o a b) = then_with (plain_set m f a) (λ s. then_with (plain_set m f b) (λ t. Ok (sets.combine_sets o s t)))

  pub plain_address : Memory → Frame → code.Place → Result Address ErrorName
  plain_address m f (code.place o offset is) = plain_indexed m f is (address_onward (origin_address m.references f o) offset)

  pub plain_indexed : Memory → Frame → code.Indices → Address → Result Address ErrorName
  plain_indexed m f code.no_indices at = Ok at
  plain_indexed m f (code.more_indices (code.index c low high size) is) at =
      then_with (then_with (plain_value m f c) (λ v. then_with (element_offset low high size v) (λ far. Ok (address_onward at far)))) (λ inner. plain_indexed m f is inner)

-- the code's expressions are what their views are
pub record ViewsAgree : Type 0 where
  pub value : (m : Memory) (f : Frame) (e : code_expression.OrdinalExpression) → value_at m f e ≡ plain_value m f (code.expression_seen e)
  pub set : (m : Memory) (f : Frame) (e : code_set.SetExpression) → set_at m f e ≡ plain_set m f (code.set_seen e)
  pub place : (m : Memory) (f : Frame) (p : code_place.Place) → address_at m f p ≡ plain_address m f (code.place_seen p)
