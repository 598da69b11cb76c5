use Rattle.cp_machine.specs.System.{IsStateOf}
use Rattle.cp_tests.proofs.steps.step_to_the_end.Given as goal

abbrev pub invariant-loop-turn : goal.invariant-loop-turn
invariant-loop-turn g l = IsStateOf l.job.program.now l.state
