use Rattle.cp_at_once_laws.proofs.names.OnNames.{leaves_nothing_out}
use Rattle.cp_at_once_laws.proofs.laws.law_nothing_left_out.Goals as goal

pub returns : goal.returns
returns c = leaves_nothing_out
