use Rattle.cp_expectation.proofs.Valued.{in_parentheses}
use Rattle.cp_expectation.proofs.vocabulary.value_of.Goals as goal

pub returns-in-Some : goal.returns-in-Some
returns-in-Some c = in_parentheses c.args.word.now c.in-Some.value.now c.checked.result c.in-Some.ensures c.checked.ensures
