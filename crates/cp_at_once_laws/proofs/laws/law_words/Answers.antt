use Rattle.cp_at_once_laws.proofs.search.Given.{searches_true}
use Rattle.cp_at_once_laws.proofs.laws.law_words.Goals as goal

pub returns-clause-machine : goal.returns-clause-machine
returns-clause-machine c = λ sys. searches_true sys

pub returns-clause-meaning : goal.returns-clause-meaning
returns-clause-meaning c = λ sys. searches_true sys
