use Rattle.cp_merged.proofs.Completing.{complete}
use Rattle.cp_merged.proofs.laws.law_complete.Goals as goal

pub returns : goal.returns
returns c = λ sys choices steps more h. complete sys choices steps more h
