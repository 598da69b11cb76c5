use Rattle.cp_expectation.proofs.Spelled.{same_spelled}
use Rattle.cp_expectation.proofs.laws.law_spelling.Goals as goal

pub returns : goal.returns
returns c = same_spelled
