use Rattle.std.proofs.Common.{◌≡◌, ◌+◌, [], reverse, length}
use Rattle.cp_walk.specs.Gather.{joined}
use Rattle.cp_walk.proofs.pieces.join_all.Given as goal

abbrev pub invariant-loop-slot : goal.invariant-loop-slot
invariant-loop-slot l =
    record {
      same : joined 0 [] l.fn.slots.items ≡ joined l.task l.all.items (reverse l.slots.items);
      count : l.task + length l.slots.items ≡ l.tasks;
    }

abbrev pub decreases-loop-slot : goal.decreases-loop-slot
decreases-loop-slot l = length l.slots.items
