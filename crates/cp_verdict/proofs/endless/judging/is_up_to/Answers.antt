use Rattle.std.proofs.Common.{arith}
use Rattle.cp_verdict.proofs.any_length.Firsts.{as_long_first, other_first, shorter_is_first}
use Rattle.cp_verdict.proofs.endless.judging.is_up_to.Goals as goal

pub returns-then-word-other : goal.returns-then-word-other
returns-then-word-other c = shorter_is_first c.args.word.now c.args.other.now c.if-word-other.true

pub returns-then-word-other-2 : goal.returns-then-word-other-2
returns-then-word-other-2 c = as_long_first c.args.word.now c.args.other.now c.le.result c.if-word-other-2.true c.le.ensures

pub returns-else-word-other-2 : goal.returns-else-word-other-2
returns-else-word-other-2 c = other_first c.args.word.now c.args.other.now (omega (arith, c.if-word-other.false)) c.if-word-other-2.false
