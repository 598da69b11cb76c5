use Rattle.cp_machine.specs.System.{IsStateOf}
use Rattle.cp_search.proofs.visit.visit_all.Given as goal

abbrev pub invariant-loop-number : goal.invariant-loop-number
invariant-loop-number g l =
    record {
      own : IsStateOf l.job.run.program.now l.state;
      next : IsStateOf l.job.run.program.now l.next;
      before : g.V.Visit.before l.visit l.job l.number;
    }
