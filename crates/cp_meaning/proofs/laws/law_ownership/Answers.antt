use Rattle.cp_meaning.proofs.OwnershipLemmas.{ownership}
use Rattle.cp_meaning.proofs.laws.law_ownership.Goals as goal

pub returns : goal.returns
returns c = λ p ok g. ownership p ok g
