use Rattle.std.proofs.Common.{◌≡◌, take}
use Rattle.cp_machine.specs.System.{machine_of, IsStateOf}
use Rattle.cp_search.proofs.visit.take_choices.Given as goal

abbrev pub invariant-loop-process : goal.invariant-loop-process
invariant-loop-process g l =
    record {
      next : IsStateOf l.job.run.program.now l.next;
      copied : machine_of l.next ≡ machine_of l.state;
      within : g.V.Visit.within l.visit l.job l.at (machine_of l.state) (take l.process-index l.process-items);
    }
