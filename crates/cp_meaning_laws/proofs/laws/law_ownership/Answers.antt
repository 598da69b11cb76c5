use Rattle.cp_meaning.proofs.OwnershipLemmas.{ownership}
use Rattle.cp_meaning_laws.proofs.Accepting.{well_formed}
use Rattle.cp_meaning_laws.proofs.laws.law_ownership.Goals as goal

pub returns : goal.returns
returns c = λ t h g. ownership t.program (well_formed t h) g
