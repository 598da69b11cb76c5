-- What a worker leaves.
use Rattle.cp_walk.specs.declared.row.Row.{Row}
use Rattle.std.specs.Prelude.{◌≡◌, ℕ, ◌<◌, ◌≤◌, List, [], length, map, take, All, Any}
use Rattle.cp_board.specs.declared.views.View.{View}
use Rattle.cp_board.specs.declared.seats.Board.{Board}
use Rattle.cp_board.specs.Seats.{IsSeatOf, view_of, tasks_of}
use Rattle.cp_board.specs.Views.{view}
use Rattle.cp_board.specs.declared.seats.Seat.{Seat}
use Rattle.cp_walk.specs.declared.worker.TaskRows.{TaskRows}
use Rattle.cp_walk.specs.declared.worker.Worked.{Worked}
use Rattle.cp_walk.specs.declared.worker.WorkerEnd.{WorkerEnd}
use Rattle.cp_walk.specs.declared.worker.WorkerEnd.TheVariants.{Dry, Excess, Refused}

-- the seat is this board's, and has drawn and noted nothing
abbrev pub IsFresh : Board → Seat → Type 0
IsFresh b s = IsSeatOf b s × (view_of s ≡ view 1 (tasks_of b) [] [] 0)

-- each draw has its piece and its note, in order, with the rows of its task, of which those past the 50,001st are left out
pub record IsDone (rows : ℕ → List Row) (v : View) (ps : List TaskRows) : Type 0 where
  pub parts : map (λ p. p.task) ps ≡ v.drawn
  pub below : All (λ p. p.task < v.tasks) ps
  pub cut : All (λ p. p.rows.items ≡ take 50001 (rows p.task)) ps
  pub noted : map (λ n. n.task) v.notes ≡ v.drawn
  pub counted : All (λ n. n.rows ≡ length (take 50001 (rows n.task))) v.notes

-- no more is noted of a task than it has
abbrev pub IsHonest : (ℕ → List Row) → View → Type 0
IsHonest rows v = All (λ n. n.rows ≤ length (rows n.task)) v.notes

-- a worker stops where nothing is left, at a total above 50,000, or for want of memory
abbrev pub EndsAs : (ℕ → List Row) → View → List TaskRows → WorkerEnd → Type 0
EndsAs rows v ps Dry = (v.spent ≡ 1) × IsDone rows v ps
EndsAs rows v ps Excess = IsHonest rows v × Any (λ n. 50000 < n.total) v.notes
EndsAs rows v ps Refused = Unit {0}

abbrev pub IsKept : WorkerEnd → Type 0
IsKept Dry = Unit {0}
IsKept Excess = Unit {0}
IsKept Refused = ⊥

abbrev pub HasWorked : (ℕ → List Row) → Board → Worked → Type 0
HasWorked rows b w = IsSeatOf b w.seat × EndsAs rows (view_of w.seat) w.parts.items w.end
