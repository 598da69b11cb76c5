use Rattle.cp_board.proofs.Words.{◌≡◌, ◌<◌, [], ◌++◌, List, map, length, All, Seat, NotesOnce, view_of}
use Rattle.cp_board.proofs.Closing.{gathered}
use Rattle.cp_board.proofs.seats.Board.close.Given as goal

abbrev pub invariant-loop-seat : goal.invariant-loop-seat
invariant-loop-seat l =
    (done : List Seat)
    × (l.fn.seats.items ≡ l.seats.items ++ done)
    × (0 < length done)
    × (l.whole.me ≡ (gathered (map view_of done), []))
    × (l.whole.table_id ≡ l.table.shared.table_id)
    × (l.whole.me.0.parts ≡ length done)
    × All NotesOnce (map view_of done)

abbrev pub decreases-loop-seat : goal.decreases-loop-seat
decreases-loop-seat l = goal.left-loop-seat l
