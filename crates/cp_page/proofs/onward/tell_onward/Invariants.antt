use Rattle.std.proofs.Common.{All}
use Rattle.cp_machine.specs.System.{IsStateOf}
use Rattle.cp_run.specs.Slots.{slots}
use Rattle.cp_ways.specs.Weights.{AreKnown}
use Rattle.cp_page.proofs.onward.tell_onward.Given as goal

abbrev pub invariant-loop-used : goal.invariant-loop-used
invariant-loop-used g l =
    record {
      states : All (IsStateOf l.job.run.program.now) l.graph.states.items;
      known : AreKnown (slots l.job.run.program.now l.job.run.limits.discipline) l.job.run.limits.steps l.counting.known.entries;
    }
