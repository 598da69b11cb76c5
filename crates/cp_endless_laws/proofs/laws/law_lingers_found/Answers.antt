use Rattle.cp_endless_laws.proofs.waiting.Found.{linger_found}
use Rattle.cp_endless_laws.proofs.laws.law_lingers_found.Goals as goal

pub returns-clause-machine : goal.returns-clause-machine
returns-clause-machine c = λ sys. linger_found sys

pub returns-clause-meaning : goal.returns-clause-meaning
returns-clause-meaning c = λ sys. linger_found sys
