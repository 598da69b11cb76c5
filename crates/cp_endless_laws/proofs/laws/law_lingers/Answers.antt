use Rattle.cp_endless_laws.proofs.waiting.Lassos.{lingers}
use Rattle.cp_endless_laws.proofs.laws.law_lingers.Goals as goal

pub returns-clause-machine : goal.returns-clause-machine
returns-clause-machine c = λ sys. lingers sys

pub returns-clause-meaning : goal.returns-clause-meaning
returns-clause-meaning c = λ sys. lingers sys
