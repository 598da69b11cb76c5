use Rattle.cp_endless_laws.proofs.waiting.Found.{found}
use Rattle.cp_endless_laws.proofs.laws.law_lasso_found.Goals as goal

pub returns-clause-machine : goal.returns-clause-machine
returns-clause-machine c = λ sys. found sys

pub returns-clause-meaning : goal.returns-clause-meaning
returns-clause-meaning c = λ sys. found sys
