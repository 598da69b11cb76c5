use Rattle.cp_explore.proofs.OfAny.{closed}
use Rattle.cp_explore.proofs.laws.law_closed.Goals as goal

pub returns-clause-machine : goal.returns-clause-machine
returns-clause-machine c = λ sys. closed sys

pub returns-clause-meaning : goal.returns-clause-meaning
returns-clause-meaning c = λ sys. closed sys
