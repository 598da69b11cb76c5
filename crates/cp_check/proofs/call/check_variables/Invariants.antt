use Rattle.std.proofs.Common.{◌≡◌, drop}
use Rattle.cp_check.specs.Calls as spec
use Rattle.cp_check.proofs.call.check_variables.Given as goal

abbrev pub invariant-loop-i : goal.invariant-loop-i
invariant-loop-i l = spec.all_variable_faults l.parameters l.operands ≡ spec.all_variable_faults (drop l.i l.parameters) (drop l.i l.operands)
