use Rattle.cp_endless_laws.proofs.steps.Alone.{alone}
use Rattle.cp_endless_laws.proofs.laws.law_alone.Goals as goal

pub returns-clause-machine : goal.returns-clause-machine
returns-clause-machine c = λ sys. alone sys

pub returns-clause-meaning : goal.returns-clause-meaning
returns-clause-meaning c = λ sys. alone sys
