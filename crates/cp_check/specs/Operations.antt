-- The rules of operations.
use Rattle.std.specs.Prelude.{ℕ, Bool, true, false, ◌&&◌, if◌then◌else◌, List, [], ◌∷◌, Option, Some, None, Ok}
use Rattle.std.specs.Option.{option_or}
use Rattle.cp_tree.specs.declared.constant.Sign.{Sign}
use Rattle.cp_tree.specs.declared.expression.Relation.{Relation}
use Rattle.cp_tree.specs.declared.expression.Relation.TheVariants.{Equal, NotEqual, In}
use Rattle.cp_tree.specs.declared.expression.Addition.{Addition}
use Rattle.cp_tree.specs.declared.expression.Addition.TheVariants.{Plus, Minus, Or}
use Rattle.cp_tree.specs.declared.expression.Multiplication.{Multiplication}
use Rattle.cp_tree.specs.declared.expression.Multiplication.TheVariants.{And}
use Rattle.cp_scope.specs.declared.fault.Rule.TheVariants.{C5, C7}
use Rattle.cp_scope.specs.declared.types.Base.TheVariants.{Integer, Boolean, Char}
use Rattle.cp_scope.specs.declared.types.Range.{Range}
use Rattle.cp_scope.specs.declared.types.ValueType.{ValueType}
use Rattle.cp_scope.specs.declared.types.ValueType.TheVariants.{Ordinal, Set}
use Rattle.cp_scope.specs.declared.types.Predeclared.{Predeclared}
use Rattle.cp_scope.specs.declared.types.Predeclared.TheVariants.{Succ, Pred, Chr, Ord, Abs, Empty, Delay, Continue, Display}
use Rattle.cp_scope.specs.declared.count.Use.{Use}
use Rattle.cp_scope.specs.Types.{same_base, agree, is_of, values_of}
use Rattle.cp_scope.specs.Counts.{both_uses}
use Rattle.cp_scope.specs.Judged.{Judged, broken}
use Rattle.cp_check.specs.declared.operand.Operand.{Operand}
use Rattle.cp_check.specs.Operands.{value, is_queue}

-- ---- sums and terms: nothing where operands do not agree

abbrev pub number : ℕ → Operand → Operand → Option Operand
number at l r =
    if is_of Integer l.value_type && is_of Integer r.value_type
    then Some (value at (values_of Integer) (both_uses l.uses r.uses))
    else None

abbrev pub set_type : Option Range → Option Range → ValueType
set_type None b = Set b
set_type (Some a) b = Set (Some a)

abbrev pub set_of_types : ℕ → ValueType → ValueType → Use → Option Operand
set_of_types at (Set a) (Set b) u = if agree (Set a) (Set b) then Some (value at (set_type a b) u) else None
set_of_types at _ _ u = None

abbrev pub set : ℕ → Operand → Operand → Option Operand
set at l r = set_of_types at l.value_type r.value_type (both_uses l.uses r.uses)

abbrev pub truth_or_set : ℕ → Operand → Operand → Option Operand
truth_or_set at l r =
    if is_of Boolean l.value_type && is_of Boolean r.value_type
    then Some (value at (values_of Boolean) (both_uses l.uses r.uses))
    else set at l r

abbrev pub sum_of : ℕ → Addition → Option Operand → Operand → Option Operand
sum_of at a None r = None
sum_of at Plus (Some l) r = number at l r
sum_of at Minus (Some l) r = option_or (number at l r) (set at l r)
sum_of at Or (Some l) r = truth_or_set at l r

abbrev pub product_of : ℕ → Multiplication → Option Operand → Operand → Option Operand
product_of at m None r = None
product_of at And (Some l) r = truth_or_set at l r
product_of at _ (Some l) r = number at l r

abbrev pub with_sign : ℕ → Option Sign → Operand → Option Operand
with_sign at None o = Some o
with_sign at (Some s) o = if is_of Integer o.value_type then Some (value at (values_of Integer) o.uses) else None

abbrev pub check_agreement : ℕ → Option Operand → Judged Operand
check_agreement at (Some o) = Ok o
check_agreement at None = broken at C5

-- ---- relations and negations

abbrev pub is_in : ValueType → ValueType → Bool
is_in (Ordinal a) (Set (Some b)) = same_base a.base b.base
is_in (Ordinal a) (Set None) = true
is_in _ _ = false

abbrev pub are_equal : ValueType → ValueType → Bool
are_equal (Ordinal a) (Ordinal b) = agree (Ordinal a) (Ordinal b)
are_equal (Set a) (Set b) = agree (Set a) (Set b)
are_equal _ _ = false

abbrev pub are_ordered : ValueType → ValueType → Bool
are_ordered (Ordinal a) (Ordinal b) = agree (Ordinal a) (Ordinal b)
are_ordered _ _ = false

abbrev pub relates : Relation → ValueType → ValueType → Bool
relates In l r = is_in l r
relates Equal l r = are_equal l r
relates NotEqual l r = are_equal l r
relates _ l r = are_ordered l r

abbrev pub relation_value : ℕ → Relation → Operand × Operand → Judged Operand
relation_value at r p =
    if relates r p.0.value_type p.1.value_type
    then Ok (value at (values_of Boolean) (both_uses p.0.uses p.1.uses))
    else broken at C5

abbrev pub negation_of : ℕ → Operand → Judged Operand
negation_of at o = if is_of Boolean o.value_type then Ok (value at (values_of Boolean) o.uses) else broken at C5

-- ---- predeclared functions

abbrev pub neighbour_value : ℕ → ValueType → Use → Judged Operand
neighbour_value at (Ordinal r) u = Ok (value at (values_of r.base) u)
neighbour_value at _ u = broken at C5

abbrev pub ordinal_number : ℕ → ValueType → Use → Judged Operand
ordinal_number at (Ordinal r) u = Ok (value at (values_of Integer) u)
ordinal_number at _ u = broken at C5

abbrev pub standard_value_of : ℕ → Predeclared → Operand → Use → Judged Operand
standard_value_of at Succ o u = neighbour_value at o.value_type u
standard_value_of at Pred o u = neighbour_value at o.value_type u
standard_value_of at Ord o u = ordinal_number at o.value_type u
standard_value_of at Chr o u = if is_of Integer o.value_type then Ok (value at (values_of Char) u) else broken at C5
standard_value_of at Abs o u = if is_of Integer o.value_type then Ok (value at (values_of Integer) u) else broken at C5
standard_value_of at Empty o u = if is_queue o then Ok (value at (values_of Boolean) u) else broken at C5
standard_value_of at _ o u = broken at C5

abbrev pub is_function : Predeclared → Bool
is_function Delay = false
is_function Continue = false
is_function Display = false
is_function _ = true

abbrev pub standard_value_of_all : ℕ → Predeclared → List Operand → Use → Judged Operand
standard_value_of_all at p (o ∷ []) u = standard_value_of at p o u
standard_value_of_all at p _ u = broken at C7

abbrev pub standard_value : ℕ → Predeclared → List Operand → Use → Judged Operand
standard_value at p os u = if is_function p then standard_value_of_all at p os u else broken at C5
