use Rattle.cp_store.proofs.Members.{ranges}
use Rattle.cp_store.proofs.law.law_ranged.Goals as goal

pub returns : goal.returns
returns c = ranges
