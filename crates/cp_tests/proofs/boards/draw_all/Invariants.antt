use Rattle.std.proofs.Common.{◌-◌, length}
use Rattle.cp_board.specs.Seats.{IsSeatOf, tasks_of, view_of}
use Rattle.cp_tests.proofs.boards.draw_all.Given as goal

abbrev pub invariant-loop-task : goal.invariant-loop-task
invariant-loop-task l = IsSeatOf l.board l.seat

abbrev pub decreases-loop-task : goal.decreases-loop-task
decreases-loop-task l = tasks_of l.board - length (view_of l.seat).drawn
