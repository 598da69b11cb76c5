use Rattle.cp_at_once_laws.proofs.names.Repeating.{repeats_by_one}
use Rattle.cp_at_once_laws.proofs.laws.law_repeats.Goals as goal

pub returns : goal.returns
returns c = repeats_by_one
