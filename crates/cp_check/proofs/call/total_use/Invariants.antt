use Rattle.std.proofs.Common.{◌≡◌, drop}
use Rattle.cp_check.specs.Calls as spec
use Rattle.cp_check.proofs.call.total_use.Given as goal

abbrev pub invariant-loop-operand : goal.invariant-loop-operand
invariant-loop-operand l = spec.total_use l.fn.uses l.operands ≡ spec.total_use l.total (drop l.operand-index l.operands)
