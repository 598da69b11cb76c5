use Rattle.cp_ends.proofs.named.OnNames.{answer_to_means}
use Rattle.cp_ends.proofs.laws.law_answer_to_means.Goals as goal

pub returns : goal.returns
returns c = answer_to_means
