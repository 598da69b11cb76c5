use Rattle.cp_at_once_laws.proofs.names.Laws.{commute_law}
use Rattle.cp_at_once_laws.proofs.laws.law_commute.Goals as goal

pub returns : goal.returns
returns c = commute_law
