use Rattle.std.specs.Prelude.{Contains}
use Rattle.cp_endless_laws.proofs.waiting.Traps.{trapped}
use Rattle.cp_endless_laws.proofs.laws.law_trap.Goals as goal

pub returns-clause-machine : goal.returns-clause-machine
returns-clause-machine c = λ sys trap. trapped sys (Contains trap)

pub returns-clause-meaning : goal.returns-clause-meaning
returns-clause-meaning c = λ sys trap. trapped sys (Contains trap)
