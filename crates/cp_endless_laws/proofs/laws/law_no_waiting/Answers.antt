use Rattle.std.specs.Prelude.{Contains}
use Rattle.cp_endless_laws.proofs.waiting.Ranks.{no_waiting}
use Rattle.cp_endless_laws.proofs.laws.law_no_waiting.Goals as goal

pub returns-clause-machine : goal.returns-clause-machine
returns-clause-machine c = λ sys states. no_waiting sys (Contains states)

pub returns-clause-meaning : goal.returns-clause-meaning
returns-clause-meaning c = λ sys states. no_waiting sys (Contains states)
