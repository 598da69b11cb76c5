-- The list of one thread, and the list that parts give.
use Rattle.cp_walk.specs.declared.row.Row.{Row}
use Rattle.std.specs.Prelude.{ℕ, cond, ◌==◌, List, [], ◌∷◌, flat_map}
use Rattle.std.specs.List.{range_with_len}
use Rattle.cp_walk.specs.declared.worker.TaskRows.{TaskRows}

-- the rows of task 0, then those of task 1, and so on
abbrev pub table_of : (ℕ → List Row) → ℕ → List Row
table_of rows tasks = flat_map rows (range_with_len 0 tasks)

-- the rows of the first piece of this task, or none
abbrev pub rows_at : List TaskRows → ℕ → List Row
rows_at [] task = []
rows_at (p ∷ ps) task = cond (p.task == task) p.rows.items (rows_at ps task)
