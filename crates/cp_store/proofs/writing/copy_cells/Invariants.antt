use Rattle.std.proofs.Common.{◌≡◌}
use Rattle.cp_store.specs.Memory.{memory_of, put_copy, KeepsRoom}
use Rattle.cp_store.proofs.writing.copy_cells.Given as goal

abbrev pub invariant-loop-cells : goal.invariant-loop-cells
invariant-loop-cells l =
    record {
      after : memory_of l.permanents l.room ≡ put_copy (memory_of l.fn.permanents l.fn.room) l.to l.from l.cells;
      room : KeepsRoom l.fn.room l.room;
    }
