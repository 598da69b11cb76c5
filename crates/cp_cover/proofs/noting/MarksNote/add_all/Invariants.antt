use Rattle.std.proofs.Common.{take}
use Rattle.cp_layers.specs.Adding.{Adds}
use Rattle.cp_cover.proofs.noting.MarksNote.add_all.Given as goal

abbrev pub invariant-loop-mark : goal.invariant-loop-mark
invariant-loop-mark l = record { adds : Adds l.initial.self.known.keys (take l.mark-index l.mark-items) l.self.known.keys }
