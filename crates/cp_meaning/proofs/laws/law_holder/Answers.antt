use Rattle.cp_meaning.proofs.Holder.{holder}
use Rattle.cp_meaning.proofs.laws.law_holder.Goals as goal

pub returns : goal.returns
returns c = λ p ok g s before. holder p ok g s before
