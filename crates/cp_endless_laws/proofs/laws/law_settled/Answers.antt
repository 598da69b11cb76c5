use Rattle.cp_endless_laws.proofs.possible.Settled.{settled}
use Rattle.cp_endless_laws.proofs.laws.law_settled.Goals as goal

pub returns-clause-machine : goal.returns-clause-machine
returns-clause-machine c = λ sys. settled sys

pub returns-clause-meaning : goal.returns-clause-meaning
returns-clause-meaning c = λ sys. settled sys
