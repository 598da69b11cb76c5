use Rattle.std.proofs.Common.{[], take}
use Rattle.cp_machine.specs.System.{Machine}
use Rattle.cp_at_once.specs.ByRows.{HasRoom, IsWithinRow}
use Rattle.cp_at_once.proofs.search.SearchAtOnce.take_choices.Given as goal

abbrev pub invariant-loop-process : goal.invariant-loop-process
invariant-loop-process l =
    record {
      room : HasRoom l.job.run.limits.discipline l.self;
      within : (m : Machine) → IsWithinRow l.job.run.program.now l.job.run.limits.discipline l.job.run.limits.steps l.job.most l.initial.self l.row l.at m [] → IsWithinRow l.job.run.program.now l.job.run.limits.discipline l.job.run.limits.steps l.job.most l.self l.row l.at m (take l.process-index l.process-items);
    }
