use Rattle.std.proofs.Common.{All}
use Rattle.cp_machine.specs.System.{IsStateOf}
use Rattle.cp_page.proofs.data.lay_words.Given as goal

abbrev pub invariant-loop-word : goal.invariant-loop-word
invariant-loop-word g l =
    record {
      own : IsStateOf l.job.run.program.now l.state;
      next : IsStateOf l.job.run.program.now l.next;
      states : All (IsStateOf l.job.run.program.now) l.graph.states.items;
    }
