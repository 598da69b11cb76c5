use Rattle.cp_explore.proofs.OfAny.{greater_limits}
use Rattle.cp_explore.proofs.laws.law_greater_limits.Goals as goal

pub returns-clause-machine : goal.returns-clause-machine
returns-clause-machine c = λ sys. greater_limits sys

pub returns-clause-meaning : goal.returns-clause-meaning
returns-clause-meaning c = λ sys. greater_limits sys
