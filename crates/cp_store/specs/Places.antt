-- Addresses of places, and values of expressions and sets: functions of the memory and of the frame that is executed.
-- Parts are evaluated from left to right, and the first run error counts.
use Rattle.std.specs.Prelude.{ℕ, Bool, true, false, not, List, [], ◌∷◌, map, Result, Ok, ℤ, pos, ◌-ℤ◌, slice_index_or, unsigned_abs}
use Rattle.cp_slots.specs.declared.place.PlaceOrigin.{PlaceOrigin}
use Rattle.cp_slots.specs.declared.place.PlaceOrigin.TheVariants as origin
use Rattle.cp_slots.specs.declared.place.Place as code_place
use Rattle.cp_slots.specs.declared.place.Index as code_index
use Rattle.cp_slots.specs.declared.place.OrdinalExpression as code_expression
use Rattle.cp_slots.specs.declared.place.SetExpression as code_set
use Rattle.cp_slots.specs.declared.place.OrdinalExpression.TheOpen.{OrdinalExpression-F, SetExpression-F, Index-F, Place-F}
use Rattle.cp_store.specs.declared.error.ErrorName.{ErrorName}
use Rattle.cp_store.specs.declared.memory.Address.{Address}
use Rattle.cp_store.specs.declared.memory.Address.TheVariants.{Permanent, Local}
use Rattle.cp_store.specs.declared.memory.Frame.{Frame}
use Rattle.cp_store.specs.declared.set.SetValue.{SetValue}
use Rattle.cp_store.specs.Memory.{Memory, cell_at, address_onward, nowhere, onward, stretch}
use Rattle.cp_store.specs.Sets as sets
use Rattle.cp_store.specs.Values.{then_with, check_range, truth, is_true, negate, absolute, successor, predecessor, calculate, apply_logic, compare}

-- what an expression, a set and a place stand for
abbrev pub ToValue : Type 0
ToValue = Memory → Frame → Result ℤ ErrorName

abbrev pub ToSet : Type 0
ToSet = Memory → Frame → Result SetValue ErrorName

abbrev pub ToAddress : Type 0
ToAddress = Memory → Frame → Result Address ErrorName

-- what an index stands for: from the address of an array to that of its element
abbrev pub ToElement : Type 0
ToElement = Memory → Frame → Address → Result Address ErrorName

-- ---- places

-- the place that a var parameter names
abbrev pub reference_at : List Address → ℕ → Address
reference_at references number = slice_index_or references number nowhere

-- where a variable begins
abbrev pub origin_address : List Address → Frame → PlaceOrigin → Address
origin_address references frame (origin.Permanent slot) = Permanent (onward frame.own slot)
origin_address references frame (origin.Local slot) = Local (onward frame.base slot)
origin_address references frame (origin.Reference number) = reference_at references (onward frame.references number)

-- how far the element of an index is from the beginning of its array, or range outside the bounds of the array
abbrev pub element_offset : (low high : ℤ) (size : ℕ) → ℤ → Result ℕ ErrorName
element_offset low high size index = then_with (check_range low high index) (λ i. Ok (stretch (unsigned_abs (i -ℤ low)) size))

abbrev pub through : List ToElement → Memory → Frame → Address → Result Address ErrorName
through [] m f at = Ok at
through (i ∷ is) m f at = then_with (i m f at) (λ inner. through is m f inner)

abbrev pub load_value : Memory → Result Address ErrorName → Result ℤ ErrorName
load_value m a = then_with a (λ at. Ok (cell_at m at))

-- ---- one level, whose parts stand for what they stand for

abbrev pub place_step : Place-F ToValue ToSet ToElement ToAddress → ToAddress
place_step p = λ m f. through p.indices.items m f (address_onward (origin_address m.references f p.origin) p.offset)

abbrev pub index_step : Index-F ToValue ToSet ToElement ToAddress → ToElement
index_step i = λ m f at. then_with (i.at m f) (λ v. then_with (element_offset i.low i.high i.size v) (λ far. Ok (address_onward at far)))

abbrev pub both : ToValue → ToValue → (ℤ → ℤ → Result ℤ ErrorName) → ToValue
both a b go = λ m f. then_with (a m f) (λ x. then_with (b m f) (λ y. go x y))

abbrev pub expression_step : OrdinalExpression-F ToValue ToSet ToElement ToAddress → ToValue
expression_step (OrdinalExpression-F.Number z) = λ m f. Ok z
expression_step (OrdinalExpression-F.«OrdinalExpression::Load» p) = λ m f. load_value m (p m f)
expression_step (OrdinalExpression-F.Negate e) = λ m f. then_with (e.value m f) negate
expression_step (OrdinalExpression-F.Absolute e) = λ m f. then_with (e.value m f) absolute
expression_step (OrdinalExpression-F.Not e) = λ m f. then_with (e.value m f) (λ x. Ok (truth (not (is_true x))))
expression_step (OrdinalExpression-F.Successor e last) = λ m f. then_with (e.value m f) (successor last)
expression_step (OrdinalExpression-F.Predecessor e first) = λ m f. then_with (e.value m f) (predecessor first)
expression_step (OrdinalExpression-F.Character e) = λ m f. then_with (e.value m f) (check_range (pos 0) (pos 127))
expression_step (OrdinalExpression-F.Arithmetic o a b) = both a.value b.value (calculate o)
expression_step (OrdinalExpression-F.Logic o a b) = both a.value b.value (λ x y. Ok (apply_logic o x y))
expression_step (OrdinalExpression-F.Compare r a b) = both a.value b.value (λ x y. Ok (compare r x y))
expression_step (OrdinalExpression-F.SameSet wanted a b) = λ m f. then_with (a.value m f) (λ s. then_with (b.value m f) (λ t. Ok (sets.compare_sets wanted s t)))
expression_step (OrdinalExpression-F.Member e a) = λ m f. then_with (e.value m f) (λ x. then_with (a.value m f) (λ s. Ok (truth (sets.is_member s x))))
expression_step (OrdinalExpression-F.IsEmpty p) = λ m f. then_with (load_value m (p m f)) (λ x. Ok (truth (not (is_true x))))

abbrev pub set_step : SetExpression-F ToValue ToSet ToElement ToAddress → ToSet
set_step (SetExpression-F.«SetExpression::Load» p) = λ m f. then_with (p m f) (λ at. Ok (sets.load_set m at))
set_step SetExpression-F.Empty = λ m f. Ok sets.empty
set_step (SetExpression-F.With a e) = λ m f. then_with (a.value m f) (λ s. then_with (e.value m f) (λ x. sets.with_element s x))
set_step (SetExpression-F.Combine o a b) = λ m f. then_with (a.value m f) (λ s. then_with (b.value m f) (λ t. Ok (sets.combine_sets o s t)))

-- ---- all levels

-- the value of an expression
abbrev pub value_at : Memory → Frame → code_expression.OrdinalExpression → Result ℤ ErrorName
value_at m f e = code_expression.fold-OrdinalExpression ToValue ToSet ToElement ToAddress expression_step set_step index_step place_step e m f

-- the value of a set expression
abbrev pub set_at : Memory → Frame → code_set.SetExpression → Result SetValue ErrorName
set_at m f e = code_set.fold-SetExpression ToValue ToSet ToElement ToAddress expression_step set_step index_step place_step e m f

-- the address of a place
abbrev pub address_at : Memory → Frame → code_place.Place → Result Address ErrorName
address_at m f p = code_place.fold-Place ToValue ToSet ToElement ToAddress expression_step set_step index_step place_step p m f

-- the address of the element of an index, from that of the array
abbrev pub element_at : code_index.Index → ToElement
element_at = code_index.fold-Index ToValue ToSet ToElement ToAddress expression_step set_step index_step place_step

-- the address after all indices
abbrev pub element_address : Memory → Frame → Address → List code_index.Index → Result Address ErrorName
element_address m f at is = through (map element_at is) m f at

-- whether an expression compares sets, or asks for a member
abbrev pub is_set_test_step : OrdinalExpression-F Bool Bool Bool Bool → Bool
is_set_test_step (OrdinalExpression-F.SameSet wanted a b) = true
is_set_test_step (OrdinalExpression-F.Member e a) = true
is_set_test_step e = false

abbrev pub is_set_test : code_expression.OrdinalExpression → Bool
is_set_test e = code_expression.fold-OrdinalExpression Bool Bool Bool Bool is_set_test_step (λ _. false) (λ _. false) (λ _. false) e

-- whether an expression is of a form that few programs use
abbrev pub is_rare_step : OrdinalExpression-F Bool Bool Bool Bool → Bool
is_rare_step (OrdinalExpression-F.Negate e) = true
is_rare_step (OrdinalExpression-F.Absolute e) = true
is_rare_step (OrdinalExpression-F.Successor e last) = true
is_rare_step (OrdinalExpression-F.Predecessor e first) = true
is_rare_step (OrdinalExpression-F.Character e) = true
is_rare_step (OrdinalExpression-F.IsEmpty p) = true
is_rare_step e = false

abbrev pub is_rare : code_expression.OrdinalExpression → Bool
is_rare e = code_expression.fold-OrdinalExpression Bool Bool Bool Bool is_rare_step (λ _. false) (λ _. false) (λ _. false) e
