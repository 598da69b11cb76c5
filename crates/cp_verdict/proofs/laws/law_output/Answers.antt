use Rattle.cp_verdict.proofs.Displayed.{slots_keep}
use Rattle.cp_verdict.proofs.laws.law_output.Goals as goal

pub returns : goal.returns
returns c = λ r discipline. slots_keep r discipline
