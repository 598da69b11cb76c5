use Rattle.std.specs.Prelude.{Contains}
use Rattle.cp_endless_laws.proofs.possible.Values.{values, values_to}
use Rattle.cp_endless_laws.proofs.laws.law_values.Goals as goal

pub returns-clause-machine : goal.returns-clause-machine
returns-clause-machine c = λ sys forget states ends. values sys forget (Contains states) (Contains ends)

pub returns-clause-meaning : goal.returns-clause-meaning
returns-clause-meaning c = λ sys forget states ends. values sys forget (Contains states) (Contains ends)

pub returns-clause-machine_to : goal.returns-clause-machine_to
returns-clause-machine_to c = λ sys forget layers ends. values_to sys forget (λ k. Contains (layers k)) (Contains ends)

pub returns-clause-meaning_to : goal.returns-clause-meaning_to
returns-clause-meaning_to c = λ sys forget layers ends. values_to sys forget (λ k. Contains (layers k)) (Contains ends)
