use Rattle.cp_run.proofs.Words.{◌≤◌, ◌+◌, ◌*◌, machine_of, IsStateOf, slots, node_of}
use Rattle.cp_run.proofs.Observed.{Reached, unseen}
use Rattle.cp_run.proofs.observing.observe_run.Given as goal

abbrev pub invariant-loop-place : goal.invariant-loop-place
invariant-loop-place g l =
    record {
      own : IsStateOf l.job.program.now l.state;
      within : l.place ≤ l.choices;
      reached : Reached (slots l.job.program.now l.job.limits.discipline) unseen l.choices l.job.limits.steps l.word tt l.place (node_of l.halt (machine_of l.state)) tt;
      seen : (x : g.O.Observe.Seen) → g.O.Observe.holds l.fn.observer l.job.program.now l.job.limits.discipline (machine_of l.fn.state) x → (y : g.O.Observe.Seen) × g.O.Observe.holds l.observer l.job.program.now l.job.limits.discipline (machine_of l.state) y × Reached (slots l.job.program.now l.job.limits.discipline) (g.O.Observe.fold l.job.program.now l.job.limits.discipline) l.choices l.job.limits.steps l.word x l.place (node_of l.halt (machine_of l.state)) y;
      ticks : g.S.Count.count l.ticks ≤ g.S.Count.count l.fn.ticks + (l.place + 1) * l.job.limits.steps;
    }
