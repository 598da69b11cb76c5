use Rattle.cp_machine.specs.System.{IsStateOf}
use Rattle.cp_waiting_ends.specs.Again.{Met, before}
use Rattle.cp_waiting_ends.proofs.again.find_again.Given as goal

abbrev pub invariant-loop-number : goal.invariant-loop-number
invariant-loop-number g l =
    record {
      own : IsStateOf l.job.run.program.now l.state;
      next : IsStateOf l.job.run.program.now l.next;
      met : Met l.job.run.program.now l.job.run.limits.discipline l.job.run.limits.steps l.searched.found.now l.searched.looked (before l.number) l.ends;
    }
