use Rattle.cp_explore.proofs.OfAny.{more_choices}
use Rattle.cp_explore.proofs.laws.law_complete.Goals as goal

pub returns-clause-machine : goal.returns-clause-machine
returns-clause-machine c = λ sys. more_choices sys

pub returns-clause-meaning : goal.returns-clause-meaning
returns-clause-meaning c = λ sys. more_choices sys
