use Rattle.cp_resolved.proofs.Resolving.{resolving_law}
use Rattle.cp_resolved.proofs.laws.law_resolved.Goals as goal

pub returns : goal.returns
returns c = resolving_law
