use Rattle.cp_walk.proofs.Words.{◌≡◌, List, ◌++◌, map, range_with_len, TaskRows, rows_at}
use Rattle.cp_walk.proofs.collect.sort_by_task.Given as goal

abbrev pub invariant-loop-piece : goal.invariant-loop-piece
invariant-loop-piece l = (done : List TaskRows) × (l.fn.parts.items ≡ l.parts.items ++ done) × (map (λ r. r.items) l.slots.items ≡ map (rows_at done) (range_with_len 0 l.tasks))

abbrev pub decreases-loop-piece : goal.decreases-loop-piece
decreases-loop-piece l = goal.left-loop-piece l
