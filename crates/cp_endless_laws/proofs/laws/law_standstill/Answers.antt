use Rattle.cp_endless_laws.proofs.steps.Rounds.{standstills}
use Rattle.cp_endless_laws.proofs.laws.law_standstill.Goals as goal

pub returns-clause-machine : goal.returns-clause-machine
returns-clause-machine c = λ sys. standstills sys

pub returns-clause-meaning : goal.returns-clause-meaning
returns-clause-meaning c = λ sys. standstills sys
