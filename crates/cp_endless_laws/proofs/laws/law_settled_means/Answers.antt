use Rattle.cp_endless_laws.proofs.names.Meant.{settled_meaning}
use Rattle.cp_endless_laws.proofs.laws.law_settled_means.Goals as goal

pub returns : goal.returns
returns c = settled_meaning
