use Rattle.cp_endless_laws.proofs.steps.Rounds.{rounds_happen}
use Rattle.cp_endless_laws.proofs.laws.law_round_happens.Goals as goal

pub returns-clause-machine : goal.returns-clause-machine
returns-clause-machine c = λ sys holds. rounds_happen sys holds

pub returns-clause-meaning : goal.returns-clause-meaning
returns-clause-meaning c = λ sys holds. rounds_happen sys holds
