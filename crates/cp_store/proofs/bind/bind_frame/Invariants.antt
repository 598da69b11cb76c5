use Rattle.std.proofs.Common.{◌≡◌, drop}
use Rattle.cp_store.specs.Arguments.{bind_frame}
use Rattle.cp_store.specs.Inside.{AllFitFrame}
use Rattle.cp_store.specs.Memory.{memory_of, KeepsRoom}
use Rattle.cp_store.proofs.bind.bind_frame.Given as goal

abbrev pub invariant-loop-number : goal.invariant-loop-number
invariant-loop-number l =
    record {
      after : bind_frame (memory_of l.fn.permanents l.fn.room) l.frame l.arguments l.bounds ≡ bind_frame (memory_of l.permanents l.room) l.frame (drop l.number l.arguments) (drop l.number l.bounds);
      fit : AllFitFrame (memory_of l.permanents l.room) l.frame (drop l.number l.arguments) (drop l.number l.bounds);
      room : KeepsRoom l.fn.room l.room;
    }
