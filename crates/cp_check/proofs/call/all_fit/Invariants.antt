use Rattle.std.proofs.Common.{◌≡◌, drop}
use Rattle.cp_check.specs.Calls as spec
use Rattle.cp_check.proofs.call.all_fit.Given as goal

abbrev pub invariant-loop-i : goal.invariant-loop-i
invariant-loop-i l = spec.all_fit l.parameters l.operands ≡ spec.all_fit (drop l.i l.parameters) (drop l.i l.operands)
