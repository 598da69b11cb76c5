use Rattle.cp_endless_laws.proofs.names.Meant.{endless_meaning}
use Rattle.cp_endless_laws.proofs.laws.law_endless_means.Goals as goal

pub returns : goal.returns
returns c = endless_meaning
