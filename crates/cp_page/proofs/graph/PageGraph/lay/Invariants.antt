use Rattle.std.proofs.Common.{All}
use Rattle.cp_machine.specs.System.{IsStateOf}
use Rattle.cp_page.proofs.graph.PageGraph.lay.Given as goal

abbrev pub invariant-loop-number : goal.invariant-loop-number
invariant-loop-number g l =
    record {
      own : IsStateOf l.job.run.program.now l.state;
      next : IsStateOf l.job.run.program.now l.next;
      states : All (IsStateOf l.job.run.program.now) l.self.states.items;
    }
