use Rattle.cp_machine_laws.proofs.steps.MachineStopping.{machine_as_before}
use Rattle.cp_machine_laws.proofs.steps.Stopping.{state_as_before}
use Rattle.cp_machine_laws.proofs.laws.law_state_as_before.Goals as goal

pub returns-clause-meaning : goal.returns-clause-meaning
returns-clause-meaning c = state_as_before

pub returns-clause-machine : goal.returns-clause-machine
returns-clause-machine c = machine_as_before
