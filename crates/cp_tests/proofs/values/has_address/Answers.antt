use Rattle.std.proofs.Common.{refl, lit<, [], ◌∷◌, pos}
use Rattle.cp_store.specs.declared.memory.Frame.{Frame}
use Rattle.cp_store.specs.Memory.{memory_of}
use Rattle.cp_tests.proofs.OwnCells.{own_reach}
use Rattle.cp_tests.proofs.values.has_address.Goals as goal

abbrev frame : Frame
frame = record { routine = 0; component = 0; own = 0; base = 0; references = 0 }

pub address-requires : goal.address-requires
address-requires c = (2, own_reach (memory_of (pos 0 ∷ pos 1 ∷ pos 2 ∷ pos 3 ∷ pos 4 ∷ pos 5 ∷ pos 6 ∷ []) c.empty_room-room.result) frame refl refl refl (lit< tt) c.empty_room-room.ensures.0 c.empty_room-room.ensures.1 c.in-Ok.place 2 c.in-Ok.ensures)
