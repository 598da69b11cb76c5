use Rattle.cp_walk.proofs.Words.{◌≡◌, ◌≤◌, ◌-◌, drop, take, map, machine_of, IsStateOf, slots, node_of, rows_behind, rows_from, behind, IsDue}
use Rattle.cp_walk.proofs.member.member_rows.Given as goal

abbrev pub invariant-loop-place : goal.invariant-loop-place
invariant-loop-place g l =
    record {
      own : IsStateOf l.job.program.now l.state;
      within : l.place ≤ l.job.limits.choices;
      due : IsDue (slots l.job.program.now l.job.limits.discipline) (node_of l.halt (machine_of l.state));
      same : rows_behind (slots l.job.program.now l.job.limits.discipline) l.job.limits.choices l.job.limits.steps l.word ≡ map (behind (take l.place l.word)) (rows_from (slots l.job.program.now l.job.limits.discipline) l.job.limits.steps (l.job.limits.choices - l.place) (drop l.place l.word) (node_of l.halt (machine_of l.state)));
    }
