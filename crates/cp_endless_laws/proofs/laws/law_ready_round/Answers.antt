use Rattle.cp_endless_laws.proofs.waiting.ReadyRounds.{ready_rounds, ready_served}
use Rattle.cp_endless_laws.proofs.laws.law_ready_round.Goals as goal

pub returns-clause-machine : goal.returns-clause-machine
returns-clause-machine c = λ sys. ready_rounds sys

pub returns-clause-meaning : goal.returns-clause-meaning
returns-clause-meaning c = λ sys. ready_rounds sys

pub returns-clause-machine_served : goal.returns-clause-machine_served
returns-clause-machine_served c = λ sys. ready_served sys

pub returns-clause-meaning_served : goal.returns-clause-meaning_served
returns-clause-meaning_served c = λ sys. ready_served sys
