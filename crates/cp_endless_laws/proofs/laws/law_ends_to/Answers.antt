use Rattle.cp_endless_laws.proofs.possible.Layers.{ends_to}
use Rattle.cp_endless_laws.proofs.laws.law_ends_to.Goals as goal

pub returns-clause-machine : goal.returns-clause-machine
returns-clause-machine c = λ sys. ends_to sys

pub returns-clause-meaning : goal.returns-clause-meaning
returns-clause-meaning c = λ sys. ends_to sys
