use Rattle.cp_endless_laws.proofs.steps.Rounds.{standstills_found}
use Rattle.cp_endless_laws.proofs.laws.law_standstill_found.Goals as goal

pub returns-clause-machine : goal.returns-clause-machine
returns-clause-machine c = λ sys. standstills_found sys

pub returns-clause-meaning : goal.returns-clause-meaning
returns-clause-meaning c = λ sys. standstills_found sys
