use Rattle.cp_meaning_laws.proofs.Accepting.{keeps_exclusion}
use Rattle.cp_meaning_laws.proofs.laws.law_exclusive.Goals as goal

pub returns : goal.returns
returns c = keeps_exclusion
