use Rattle.std.proofs.Common.{◌≡◌, drop}
use Rattle.cp_check.specs.Expressions as spec
use Rattle.cp_check.proofs.expression.are_elements.Given as goal

abbrev pub invariant-loop-operand : goal.invariant-loop-operand
invariant-loop-operand l = spec.are_elements l.base l.operands ≡ spec.are_elements l.base (drop l.operand-index l.operands)
