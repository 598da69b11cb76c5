-- How clauses see a board and its seats.
use Rattle.std.specs.Prelude.{◌≡◌, ℕ, List, [], length, All}
use Rattle.cp_board.specs.declared.views.View.{View}
use Rattle.cp_board.specs.Views.{view}
use Rattle.cp_board.specs.declared.seats.Board.{Board}
use Rattle.cp_board.specs.declared.seats.Seat.{Seat}

-- what the seat has drawn and noted
abbrev pub view_of : Seat → View
view_of s = s.inner.me.0

-- the number of tasks
abbrev pub tasks_of : Board → ℕ
tasks_of b = b.tasks

-- how many seats were given out
abbrev pub seats_of : Board → ℕ
seats_of b = b.table.shared.key.seats

-- the seat is this board's, and its view has the board's number of tasks
abbrev pub IsSeatOf : Board → Seat → Type 0
IsSeatOf b s = (s.inner.table_id ≡ b.table.shared.table_id) × ((view_of s).tasks ≡ tasks_of b)

-- what `new` gives: a board of this many tasks, and this many seats of it, each of one part, which have drawn and noted nothing
pub record IsDealt (tasks seats : ℕ) (b : Board) (ss : List Seat) : Type 0 where
  pub tasks_are : tasks_of b ≡ tasks
  pub seats_are : seats_of b ≡ seats
  pub many : length ss ≡ seats
  pub own : All (IsSeatOf b) ss
  pub empty : All (λ s. view_of s ≡ view 1 tasks [] [] 0) ss
