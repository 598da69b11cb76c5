use Rattle.cp_endless_laws.proofs.steps.Rounds.{rounds, cuts}
use Rattle.cp_endless_laws.proofs.laws.law_round.Goals as goal

pub returns-clause-machine : goal.returns-clause-machine
returns-clause-machine c = λ sys. rounds sys

pub returns-clause-meaning : goal.returns-clause-meaning
returns-clause-meaning c = λ sys. rounds sys

pub returns-clause-machine_cut : goal.returns-clause-machine_cut
returns-clause-machine_cut c = λ sys. cuts sys

pub returns-clause-meaning_cut : goal.returns-clause-meaning_cut
returns-clause-meaning_cut c = λ sys. cuts sys
