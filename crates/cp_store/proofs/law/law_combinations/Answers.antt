use Rattle.cp_store.proofs.Members.{combinations}
use Rattle.cp_store.proofs.law.law_combinations.Goals as goal

pub returns : goal.returns
returns c = combinations
