use Rattle.cp_run.proofs.Words.{◌≡◌, ◌≤◌, ◌-◌, ◌+◌, ◌*◌, drop, machine_of, IsStateOf, run, run_from, slots, node_of, further}
use Rattle.cp_run.proofs.runs.run.Given as goal

abbrev pub invariant-loop-place : goal.invariant-loop-place
invariant-loop-place g l =
    record {
      own : IsStateOf l.job.program.now l.state;
      within : l.place ≤ l.job.limits.choices;
      same : run (slots l.job.program.now l.job.limits.discipline) l.job.limits.choices l.job.limits.steps l.word ≡ further l.place (run_from (slots l.job.program.now l.job.limits.discipline) l.job.limits.steps (l.job.limits.choices - l.place) (drop l.place l.word) (node_of l.halt (machine_of l.state)));
      ticks : g.S.Count.count l.ticks ≤ g.S.Count.count l.fn.ticks + (l.place + 1) * l.job.limits.steps;
    }
