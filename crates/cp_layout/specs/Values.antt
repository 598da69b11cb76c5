-- Values and variables with slots, and the operations on values.
use Rattle.std.specs.Prelude.{ℕ, ℤ, pos, Bool, true, false}
use Rattle.cp_tree.specs.declared.expression.Relation.{Relation}
use Rattle.cp_tree.specs.declared.expression.Relation.TheVariants as relation
use Rattle.cp_tree.specs.declared.expression.Addition.{Addition}
use Rattle.cp_tree.specs.declared.expression.Addition.TheVariants as addition
use Rattle.cp_tree.specs.declared.expression.Multiplication.{Multiplication}
use Rattle.cp_tree.specs.declared.expression.Multiplication.TheVariants as multiplication
use Rattle.cp_slots.specs.declared.place.PlaceOrigin.{PlaceOrigin}
use Rattle.cp_slots.specs.declared.place.PlaceOrigin.TheVariants as origin
use Rattle.cp_slots.specs.declared.place.Arithmetic.{Arithmetic}
use Rattle.cp_slots.specs.declared.place.Arithmetic.TheVariants as arithmetic
use Rattle.cp_slots.specs.declared.place.Logic.{Logic}
use Rattle.cp_slots.specs.declared.place.Logic.TheVariants as logic
use Rattle.cp_slots.specs.declared.place.Comparison.{Comparison}
use Rattle.cp_slots.specs.declared.place.Comparison.TheVariants as comparison
use Rattle.cp_slots.specs.declared.place.SetOperation.{SetOperation}
use Rattle.cp_slots.specs.declared.place.SetOperation.TheVariants as set_operation
use Rattle.cp_symbols.specs.declared.kinds.CellBase.{CellBase}
use Rattle.cp_symbols.specs.declared.kinds.CellBase.TheVariants as base
use Rattle.cp_symbols.specs.declared.kinds.CellType.{CellType}
use Rattle.cp_symbols.specs.declared.kinds.CellType.TheVariants as types
use Rattle.cp_symbols.specs.declared.names.PredeclaredRoutine.{PredeclaredRoutine}
use Rattle.cp_symbols.specs.declared.names.PredeclaredRoutine.TheVariants as predeclared
use Rattle.cp_layout.specs.declared.value.Value as code_value
use Rattle.cp_layout.specs.declared.value.Value.TheVariants as value
use Rattle.cp_layout.specs.declared.value.Designated as code_designated
use Rattle.cp_layout.specs.declared.value.Designated.TheVariants as designated
use Rattle.cp_symbols.specs.Kinds.{whole}
use Rattle.cp_slots.specs.Code as code
use Rattle.cp_slots.specs.Code.{Place, OrdinalExpression, SetExpression, ComponentPlace, place_seen, expression_seen, set_seen, component_seen}

-- the value of an expression
pub data Value : Type 0 where
  ordinal_value : OrdinalExpression → CellBase → Value
  set_value : SetExpression → Value
  -- an array, a record or a queue
  whole_value : Place → CellType → Value
  component_value : ComponentPlace → Value

abbrev pub value_seen : code_value.Value → Value
value_seen (value.Ordinal e b) = ordinal_value (expression_seen e) b
value_seen (value.Set e) = set_value (set_seen e)
value_seen (value.Whole p t) = whole_value (place_seen p) t
value_seen (value.Component c) = component_value (component_seen c)

-- what a name with selectors stands for
pub data Designated : Type 0 where
  a_value : Value → Designated
  a_variable : Place → CellType → Designated
  a_contained : ℕ → CellType → Designated
  a_component : ComponentPlace → ℕ → Designated
  a_routine : ℕ → Designated
  an_entry : ComponentPlace → ℕ → Designated
  a_standard : PredeclaredRoutine → Designated
  no_designated : Designated

abbrev pub designated_seen : code_designated.Designated → Designated
designated_seen (designated.Value v) = a_value (value_seen v)
designated_seen (designated.Variable p t) = a_variable (place_seen p) t
designated_seen (designated.Contained first t) = a_contained first t
designated_seen (designated.Component c k) = a_component (component_seen c) k
designated_seen (designated.Routine r) = a_routine r
designated_seen (designated.Entry c r) = an_entry (component_seen c) r
designated_seen (designated.Predeclared r) = a_standard r
designated_seen designated.Nothing = no_designated

abbrev pub number_value : ℤ → CellBase → Value
number_value z b = ordinal_value (code.number z) b

-- what stands for a value that cannot be
abbrev pub no_value : Value
no_value = number_value (pos 0) base.Integer

abbrev pub place_at : PlaceOrigin → Place
place_at o = code.place o 0 code.no_indices

-- the value of a variable
abbrev pub value_loaded_from : Place → CellType → Value
value_loaded_from p (types.Ordinal r) = ordinal_value (code.load p) r.base
value_loaded_from p (types.Set r) = set_value (code.load_set p)
value_loaded_from p t = whole_value p t

abbrev pub load_place : OrdinalExpression → Place
load_place (code.load p) = p
load_place e = place_at (origin.Local 0)

abbrev pub set_place : SetExpression → Place
set_place (code.load_set p) = p
set_place e = place_at (origin.Local 0)

-- the variable whose value it is
abbrev pub place_of : Value → Place
place_of (ordinal_value e b) = load_place e
place_of (set_value e) = set_place e
place_of (whole_value p t) = p
place_of (component_value c) = place_at (origin.Local 0)

abbrev pub ordinal_of : Value → OrdinalExpression
ordinal_of (ordinal_value e b) = e
ordinal_of v = code.number (pos 0)

abbrev pub set_of : Value → SetExpression
set_of (set_value e) = e
set_of v = code.empty_set

abbrev pub negation_of : Value → Value
negation_of v = ordinal_value (code.opposite (ordinal_of v)) base.Boolean

abbrev pub opposite : Value → Value
opposite v = ordinal_value (code.negate (ordinal_of v)) base.Integer

abbrev pub arithmetic_of : Arithmetic → Value → Value → Value
arithmetic_of o v w = ordinal_value (code.arithmetic o (ordinal_of v) (ordinal_of w)) base.Integer

abbrev pub logic_of : Logic → Value → Value → Value
logic_of o v w = ordinal_value (code.logic o (ordinal_of v) (ordinal_of w)) base.Boolean

abbrev pub combination_of : SetOperation → Value → Value → Value
combination_of o v w = set_value (code.combine o (set_of v) (set_of w))

abbrev pub is_set : Value → Bool
is_set (set_value e) = true
is_set v = false

abbrev pub either_way : Bool → Value → Value → Value
either_way true v w = v
either_way false v w = w

abbrev pub sum_of : Addition → Value → Value → Value
sum_of addition.Plus v w = arithmetic_of arithmetic.Add v w
sum_of addition.Minus v w = either_way (is_set v) (combination_of set_operation.Difference v w) (arithmetic_of arithmetic.Subtract v w)
sum_of addition.Or v w = either_way (is_set v) (combination_of set_operation.Union v w) (logic_of logic.Or v w)

abbrev pub product_of : Multiplication → Value → Value → Value
product_of multiplication.Times v w = arithmetic_of arithmetic.Multiply v w
product_of multiplication.Div v w = arithmetic_of arithmetic.Divide v w
product_of multiplication.Mod v w = arithmetic_of arithmetic.Modulo v w
product_of multiplication.And v w = either_way (is_set v) (combination_of set_operation.Intersection v w) (logic_of logic.And v w)

abbrev pub member_of : Value → Value → Value
member_of v w = ordinal_value (code.member (ordinal_of v) (set_of w)) base.Boolean

abbrev pub same_sets : Bool → Value → Value → Value
same_sets b v w = ordinal_value (code.same_set b (set_of v) (set_of w)) base.Boolean

abbrev pub comparison_value : Comparison → Value → Value → Value
comparison_value o v w = ordinal_value (code.compare o (ordinal_of v) (ordinal_of w)) base.Boolean

abbrev pub comparison_of : Relation → Value → Value → Value
comparison_of relation.In v w = member_of v w
comparison_of relation.Equal v w = either_way (is_set v) (same_sets true v w) (comparison_value comparison.Equal v w)
comparison_of relation.NotEqual v w = either_way (is_set v) (same_sets false v w) (comparison_value comparison.NotEqual v w)
comparison_of relation.Less v w = comparison_value comparison.Less v w
comparison_of relation.Greater v w = comparison_value comparison.Greater v w
comparison_of relation.AtMost v w = comparison_value comparison.AtMost v w
comparison_of relation.AtLeast v w = comparison_value comparison.AtLeast v w

abbrev pub standard_value_of : PredeclaredRoutine → OrdinalExpression → CellBase → Value
standard_value_of predeclared.Succ e b = ordinal_value (code.successor e (whole b).high) b
standard_value_of predeclared.Pred e b = ordinal_value (code.predecessor e (whole b).low) b
standard_value_of predeclared.Chr e b = ordinal_value (code.character e) base.Char
standard_value_of predeclared.Abs e b = ordinal_value (code.absolute e) base.Integer
standard_value_of r e b = ordinal_value e base.Integer

abbrev pub empty_queue : Place → Value
empty_queue p = ordinal_value (code.is_empty p) base.Boolean

-- what a standard function answers for an argument
abbrev pub standard_value : PredeclaredRoutine → Value → Value
standard_value r (ordinal_value e b) = standard_value_of r e b
standard_value r (whole_value p t) = empty_queue p
standard_value r v = no_value
