use Rattle.cp_machine_laws.proofs.reached.RunningMachine.{running_law}
use Rattle.cp_machine_laws.proofs.laws.law_running.Goals as goal

pub returns : goal.returns
returns c = running_law
