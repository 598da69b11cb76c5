use Rattle.std.proofs.Common.{inr}
use Rattle.cp_waits.specs.declared.passing.Keeping.TheVariants as keeping
use Rattle.cp_waits.proofs.Shown.{nobody_of, ranks_of}
use Rattle.cp_waits.proofs.waiting.answer_in_call.Goals as goal

pub returns-then-never : goal.returns-then-never
returns-then-never c = (c.requires, ranks_of c.args.graph.now (keeping.Inside c.args.process) c.in_ok-never.never c.in_ok-never.ensures c.if-never.true)

pub returns-2 : goal.returns-2
returns-2 c = inr (inr (nobody_of c.args.graph.now (keeping.Inside c.args.process) c.in_ok-never.never c.in_ok-never.ensures c.if-never.false))
