use Rattle.std.proofs.Common.{◌≡◌, take}
use Rattle.cp_machine.specs.System.{machine_of, IsStateOf}
use Rattle.cp_waiting_ends.specs.Again.{Met, within}
use Rattle.cp_waiting_ends.proofs.again.go_on.Given as goal

abbrev pub invariant-loop-process : goal.invariant-loop-process
invariant-loop-process l =
    record {
      next : IsStateOf l.job.run.program.now l.next;
      copied : machine_of l.next ≡ machine_of l.state;
      met : Met l.job.run.program.now l.job.run.limits.discipline l.job.run.limits.steps l.searched.found.now l.searched.looked (within l.number (take l.process-index l.process-items)) l.ends;
    }
