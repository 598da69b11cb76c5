use Rattle.cp_explore.proofs.OfAny.{more_steps}
use Rattle.cp_explore.proofs.laws.law_more_steps.Goals as goal

pub returns-clause-machine : goal.returns-clause-machine
returns-clause-machine c = λ sys. more_steps sys

pub returns-clause-meaning : goal.returns-clause-meaning
returns-clause-meaning c = λ sys. more_steps sys
