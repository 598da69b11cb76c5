use Rattle.cp_machine.specs.System.{IsStateOf}
use Rattle.cp_tests.proofs.readings.choose_all.Given as goal

abbrev pub invariant-loop-process : goal.invariant-loop-process
invariant-loop-process g l = IsStateOf l.job.program.now l.state
