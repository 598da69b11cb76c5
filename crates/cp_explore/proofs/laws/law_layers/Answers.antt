use Rattle.cp_explore.proofs.OfAny.{layers}
use Rattle.cp_explore.proofs.laws.law_layers.Goals as goal

pub returns-clause-machine : goal.returns-clause-machine
returns-clause-machine c = λ sys. layers sys

pub returns-clause-meaning : goal.returns-clause-meaning
returns-clause-meaning c = λ sys. layers sys
