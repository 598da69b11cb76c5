use Rattle.cp_meaning.proofs.OwnershipLemmas.{exclusive}
use Rattle.cp_meaning.proofs.laws.law_exclusive.Goals as goal

pub returns : goal.returns
returns c = λ p ok g s before. exclusive p ok g s before
