use Rattle.std.proofs.Common.{◌≡◌, All}
use Rattle.cp_machine.specs.System.{IsStateOf}
use Rattle.cp_run.specs.Slots.{slots}
use Rattle.cp_ways.specs.Weights.{AreKnown}
use Rattle.cp_page.proofs.onward.next_layer.Given as goal

abbrev pub invariant-loop-at : goal.invariant-loop-at
invariant-loop-at g l =
    record {
      states : l.graph.states ≡ l.initial.graph.states;
      own : All (IsStateOf l.job.run.program.now) l.graph.states.items;
      known : AreKnown (slots l.job.run.program.now l.job.run.limits.discipline) l.job.run.limits.steps l.counting.known.entries;
    }
