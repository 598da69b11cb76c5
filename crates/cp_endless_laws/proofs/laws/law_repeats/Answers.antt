use Rattle.cp_endless_laws.proofs.steps.Repeating.{repeating}
use Rattle.cp_endless_laws.proofs.laws.law_repeats.Goals as goal

pub returns-clause-machine : goal.returns-clause-machine
returns-clause-machine c = λ sys. repeating sys

pub returns-clause-meaning : goal.returns-clause-meaning
returns-clause-meaning c = λ sys. repeating sys
