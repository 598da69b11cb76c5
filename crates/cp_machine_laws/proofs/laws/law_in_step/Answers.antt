use Rattle.cp_machine_laws.proofs.Meaning.{goes_in_step}
use Rattle.cp_machine_laws.proofs.laws.law_in_step.Goals as goal

pub returns : goal.returns
returns c = goes_in_step
