use Rattle.cp_explore.proofs.OfAny.{prefixes}
use Rattle.cp_explore.proofs.laws.law_prefix_free.Goals as goal

pub returns-clause-machine : goal.returns-clause-machine
returns-clause-machine c = λ sys. prefixes sys

pub returns-clause-meaning : goal.returns-clause-meaning
returns-clause-meaning c = λ sys. prefixes sys
