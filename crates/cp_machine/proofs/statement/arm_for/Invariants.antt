use Rattle.cp_machine.proofs.Words.{◌≡◌, drop, arm_for}
use Rattle.cp_machine.proofs.statement.arm_for.Given as goal

abbrev pub invariant-loop-arm : goal.invariant-loop-arm
invariant-loop-arm l = arm_for l.value l.arms ≡ arm_for l.value (drop l.arm-index l.arms)
