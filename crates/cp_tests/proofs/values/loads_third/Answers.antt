use Rattle.std.proofs.Common.{refl, lit<, [], ◌∷◌, pos}
use Rattle.cp_store.specs.declared.memory.Frame.{Frame}
use Rattle.cp_store.specs.Memory.{memory_of}
use Rattle.cp_tests.proofs.OwnCells.{own_read}
use Rattle.cp_tests.proofs.values.loads_third.Goals as goal

abbrev frame : Frame
frame = record { routine = 0; component = 0; own = 0; base = 0; references = 0 }

pub evaluate-requires : goal.evaluate-requires
evaluate-requires c =
    own_read (memory_of (pos 0 ∷ pos 1 ∷ pos 2 ∷ pos 3 ∷ pos 4 ∷ pos 5 ∷ pos 6 ∷ []) c.empty_room-room.result) frame refl refl refl (lit< tt) c.empty_room-room.ensures.0 c.empty_room-room.ensures.1 c.in-Ok.load c.in-Ok.ensures
