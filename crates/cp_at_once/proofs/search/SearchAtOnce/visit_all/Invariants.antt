use Rattle.cp_ends.specs.Answer.{slot_graph}
use Rattle.cp_at_once.specs.ByRows.{HasRoom}
use Rattle.cp_at_once.specs.Following.{GoesThrough}
use Rattle.cp_at_once.specs.Legs.{HasLeg}
use Rattle.cp_at_once.proofs.search.SearchAtOnce.visit_all.Given as goal

abbrev pub invariant-loop-number : goal.invariant-loop-number
invariant-loop-number g l =
    record {
      room : HasRoom l.job.run.limits.discipline l.self;
      before : GoesThrough l.job.run.program.now (slot_graph l.job.run.program.now l.job.run.limits.discipline l.job.run.limits.steps) (HasLeg l.job.run.program.now l.job.run.limits.discipline) l.job.most 8 l.number l.self.found;
    }
