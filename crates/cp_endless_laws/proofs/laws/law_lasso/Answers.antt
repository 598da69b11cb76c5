use Rattle.cp_endless_laws.proofs.waiting.Lassos.{lassos}
use Rattle.cp_endless_laws.proofs.laws.law_lasso.Goals as goal

pub returns-clause-machine : goal.returns-clause-machine
returns-clause-machine c = λ sys. lassos sys

pub returns-clause-meaning : goal.returns-clause-meaning
returns-clause-meaning c = λ sys. lassos sys
