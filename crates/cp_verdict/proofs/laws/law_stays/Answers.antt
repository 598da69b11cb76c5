use Rattle.cp_verdict.proofs.Lasting.{stays}
use Rattle.cp_verdict.proofs.laws.law_stays.Goals as goal

pub returns-clause-machine : goal.returns-clause-machine
returns-clause-machine c = λ sys names choices steps more e r at j. stays names sys choices steps more e r at j

pub returns-clause-meaning : goal.returns-clause-meaning
returns-clause-meaning c = λ sys names choices steps more e r at j. stays names sys choices steps more e r at j
