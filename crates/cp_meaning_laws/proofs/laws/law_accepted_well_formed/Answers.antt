use Rattle.cp_meaning_laws.proofs.Accepting.{well_formed}
use Rattle.cp_meaning_laws.proofs.laws.law_accepted_well_formed.Goals as goal

pub returns : goal.returns
returns c = λ t h. well_formed t h
