use Rattle.cp_machine_laws.proofs.steps.SameRuns.{same_runs}
use Rattle.cp_machine_laws.proofs.laws.law_same_runs.Goals as goal

pub returns : goal.returns
returns c = same_runs
