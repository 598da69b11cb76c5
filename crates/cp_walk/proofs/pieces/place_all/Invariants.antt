use Rattle.std.proofs.Common.{◌≡◌, None, replicate, reverse, length}
use Rattle.cp_walk.specs.Gather.{placed}
use Rattle.cp_walk.proofs.pieces.place_all.Given as goal

abbrev pub invariant-loop-piece : goal.invariant-loop-piece
invariant-loop-piece l =
    record {
      same : placed (replicate l.tasks None) l.fn.pieces.items ≡ placed l.slots.items (reverse l.pieces.items);
      count : length l.slots.items ≡ l.tasks;
    }

abbrev pub decreases-loop-piece : goal.decreases-loop-piece
decreases-loop-piece l = length l.pieces.items
