use Rattle.std.proofs.Common.{◌≡◌, ℕ, drop}
use Rattle.cp_store.specs.Inside.{CanGoThrough}
use Rattle.cp_store.specs.Memory.{memory_of}
use Rattle.cp_store.specs.Places.{element_address}
use Rattle.cp_store.proofs.evaluation.+evaluate.Given as goal

abbrev pub invariant-through-loop-index : goal.invariant-through-loop-index
invariant-through-loop-index l =
    record {
      value : element_address (memory_of l.permanents l.room) l.frame l.fn.start l.indices ≡ element_address (memory_of l.permanents l.room) l.frame l.at (drop l.index-index l.indices);
      goes : (cells : ℕ) × CanGoThrough (memory_of l.permanents l.room) l.frame l.at (drop l.index-index l.indices) cells;
    }
