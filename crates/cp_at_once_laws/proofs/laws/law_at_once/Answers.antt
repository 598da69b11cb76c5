use Rattle.cp_at_once_laws.proofs.names.Laws.{at_once_names}
use Rattle.cp_at_once_laws.proofs.laws.law_at_once.Goals as goal

pub returns : goal.returns
returns c = at_once_names
