use Rattle.cp_meaning.proofs.Holder.{holder}
use Rattle.cp_meaning_laws.proofs.Accepting.{well_formed}
use Rattle.cp_meaning_laws.proofs.laws.law_holder.Goals as goal

pub returns : goal.returns
returns c = λ t h g s before m q is lt inside. holder t.program (well_formed t h) g s before m q is lt inside
