use Rattle.cp_store.proofs.Members.{elements}
use Rattle.cp_store.proofs.law.law_elements.Goals as goal

pub returns : goal.returns
returns c = elements
