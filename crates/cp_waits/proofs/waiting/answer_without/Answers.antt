use Rattle.std.proofs.Common.{inl, inr}
use Rattle.cp_waits.specs.declared.passing.Keeping.TheVariants as keeping
use Rattle.cp_waits.proofs.Shown.{nobody_of, ranks_of}
use Rattle.cp_waits.proofs.waiting.answer_without.Goals as goal

pub answer_in_call-requires : goal.answer_in_call-requires
answer_in_call-requires c =
    record {
      ranks = ranks_of c.args.graph.now (keeping.Waiting c.args.process) c.in_ok-never.never c.in_ok-never.ensures c.if-never.true;
      moves = c.requires;
    }

pub returns-else-never : goal.returns-else-never
returns-else-never c = inr (inl (nobody_of c.args.graph.now (keeping.Waiting c.args.process) c.in_ok-never.never c.in_ok-never.ensures c.if-never.false))
