use Rattle.std.proofs.Common.{◌∙◌}
use Rattle.cp_walk.proofs.Feeding.{no_output}
use Rattle.cp_walk.proofs.numbers.+is_same_output.Goals as goal

pub returns-in_default : goal.returns-in_default
returns-in_default t c = c.is_empty.ensures ∙ no_output c.args.mine.now c.args.theirs.now c.in_default.ensures.cases
