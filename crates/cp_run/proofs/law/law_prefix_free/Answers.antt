use Rattle.cp_run.proofs.Prefixes.{prefix_free}
use Rattle.cp_run.proofs.law.law_prefix_free.Goals as goal

pub returns : goal.returns
returns c = λ sys choices steps. prefix_free sys choices steps
