use Rattle.std.proofs.Common.{◌∙◌, Some, option_map, ap, sym}
use Rattle.cp_expectation.specs.Plain.{Displays, expected_of}
use Rattle.cp_expectation.specs.Steps.{After}
use Rattle.cp_expectation.proofs.Read.{none_spelled}
use Rattle.cp_expectation.proofs.Valued.{value_is}
use Rattle.cp_expectation.proofs.reader.after_shown.Goals as goal

pub returns-in_default : goal.returns-in_default
returns-in_default c = sym (ap (option_map (λ v. After (expected_of c.args.expectation) (Displays v))) (none_spelled c.args.word.now c.in_default.ensures))

pub returns : goal.returns
returns c = ap (λ v. Some (After (expected_of c.args.expectation) (Displays v))) c.in_ok-value.ensures.ok ∙ sym (ap (option_map (λ v. After (expected_of c.args.expectation) (Displays v))) (value_is c.args.word.now c.in-Some.value.now c.in-Some.ensures))
