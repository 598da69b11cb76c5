use Rattle.cp_explore.proofs.OfAny.{reports}
use Rattle.cp_explore.proofs.laws.law_report.Goals as goal

pub returns-clause-machine : goal.returns-clause-machine
returns-clause-machine c = λ sys. reports sys

pub returns-clause-meaning : goal.returns-clause-meaning
returns-clause-meaning c = λ sys. reports sys
