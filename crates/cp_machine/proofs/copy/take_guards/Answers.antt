use Rattle.std.proofs.Common.{arith}
use Rattle.cp_machine.proofs.CopyLemmas.{guards_same}
use Rattle.cp_machine.proofs.copy.take_guards.Goals as goal

pub returns : goal.returns
returns c = guards_same c.loop-at.mine c.args.theirs.now (omega arith) (λ k d lt. c.loop-at.invariant k d (omega arith))
