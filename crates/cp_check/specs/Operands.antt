-- What the parts of a program are, as far as the rules look at them.
use Rattle.std.specs.Prelude.{ℕ, Bool, true, false}
use Rattle.cp_scope.specs.declared.types.ValueType.{ValueType}
use Rattle.cp_scope.specs.declared.types.ValueType.TheVariants.{Queue}
use Rattle.cp_scope.specs.declared.types.Base.{Base}
use Rattle.cp_scope.specs.declared.count.Use.{Use}
use Rattle.cp_scope.specs.Types.{values_of}
use Rattle.cp_check.specs.declared.operand.Context.{Context}
use Rattle.cp_check.specs.declared.operand.OperandUse.{OperandUse}
use Rattle.cp_check.specs.declared.operand.OperandUse.TheVariants.{Value, Fixed, Assignable, Function}
use Rattle.cp_check.specs.declared.operand.Operand.{Operand}

abbrev pub of_base : Base → ValueType
of_base b = values_of b

abbrev pub value : ℕ → ValueType → Use → Operand
value at t u = record { at = at; value_type = t; place = Value; uses = u }

-- the same place in an annotation, which calls no routine
abbrev pub quiet : Context → Context
quiet w = record w { is_quiet = true }

abbrev pub is_assignable : OperandUse → Bool
is_assignable Assignable = true
is_assignable _ = false

abbrev pub is_function : OperandUse → Bool
is_function Function = true
is_function _ = false

abbrev pub is_queue_in : ValueType → OperandUse → Bool
is_queue_in Queue Fixed = true
is_queue_in _ _ = false

-- it names a queue
abbrev pub is_queue : Operand → Bool
is_queue o = is_queue_in o.value_type o.place
