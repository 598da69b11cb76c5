use Rattle.cp_verdict.proofs.Lasting.{lasts}
use Rattle.cp_verdict.proofs.laws.law_holds.Goals as goal

pub returns-clause-machine : goal.returns-clause-machine
returns-clause-machine c = λ sys names choices steps more e told h. lasts names sys choices steps more e told h

pub returns-clause-meaning : goal.returns-clause-meaning
returns-clause-meaning c = λ sys names choices steps more e told h. lasts names sys choices steps more e told h
