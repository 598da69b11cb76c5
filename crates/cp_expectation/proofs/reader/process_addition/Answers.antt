use Rattle.std.proofs.Common.{◌∙◌, Some, option_map, ap, sym}
use Rattle.cp_expectation.specs.Steps.{Process}
use Rattle.cp_expectation.proofs.Read.{no_process}
use Rattle.cp_expectation.proofs.Valued.{process_is}
use Rattle.cp_expectation.proofs.reader.process_addition.Goals as goal

pub returns-in_default : goal.returns-in_default
returns-in_default c = sym (ap (option_map Process) (no_process c.args.word.now c.in_default.ensures))

pub returns : goal.returns
returns c = ap (λ n. Some (Process n)) c.in_ok-name.ensures.ok ∙ sym (ap (option_map Process) (process_is c.args.word.now c.in-Some.name.now c.in-Some.ensures))
