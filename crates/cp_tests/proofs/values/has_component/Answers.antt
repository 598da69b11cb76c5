use Rattle.std.proofs.Common.{refl, lit<, []}
use Rattle.cp_store.specs.declared.memory.Frame.{Frame}
use Rattle.cp_store.specs.Memory.{memory_of}
use Rattle.cp_tests.proofs.OwnCells.{all_own, covered}
use Rattle.cp_tests.proofs.values.has_component.Goals as goal

abbrev frame : Frame
frame = record { routine = 0; component = 0; own = 0; base = 0; references = 0 }

pub component_of-requires : goal.component_of-requires
component_of-requires c =
    (all_own (memory_of [] c.empty_room-room.result) frame refl refl refl (lit< tt) c.empty_room-room.ensures.0 c.empty_room-room.ensures.1, covered (memory_of [] c.empty_room-room.result) frame refl refl refl (lit< tt) c.empty_room-room.ensures.0 c.empty_room-room.ensures.1, (c.in-Some.ensures _, lit< tt))
