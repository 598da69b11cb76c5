use Rattle.std.proofs.Common.{◌≡◌, ◌-◌, length}
use Rattle.cp_board.specs.Seats.{IsSeatOf, view_of, tasks_of}
use Rattle.cp_walk.specs.Ends.{IsDone}
use Rattle.cp_walk.proofs.running.draw_tasks.Given as goal

abbrev pub invariant-loop-task : goal.invariant-loop-task
invariant-loop-task g l = record {
  own : IsSeatOf l.board l.seat;
  open_yet : (view_of l.seat).spent ≡ 0;
  done : IsDone (g.W.Work.rows l.work) (view_of l.seat) l.parts.items;
}

abbrev pub decreases-loop-task : goal.decreases-loop-task
decreases-loop-task g l = tasks_of l.board - length (view_of l.seat).drawn
