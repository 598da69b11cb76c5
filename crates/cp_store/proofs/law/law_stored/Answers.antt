use Rattle.cp_store.proofs.ReadBack.{read_back}
use Rattle.cp_store.proofs.law.law_stored.Goals as goal

pub returns : goal.returns
returns c = read_back
