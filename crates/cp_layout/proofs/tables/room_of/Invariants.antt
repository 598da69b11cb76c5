use Rattle.std.proofs.Common.{◌≡◌, drop}
use Rattle.cp_layout.specs.Layers.{layer_seen}
use Rattle.cp_layout.specs.Laid.{no_room, room_from}
use Rattle.cp_layout.proofs.tables.room_of.Given as goal

-- what is left leads where all lead
abbrev pub invariant-loop-process : goal.invariant-loop-process
invariant-loop-process l = room_from (layer_seen l.layer) no_room l.processes ≡ room_from (layer_seen l.layer) l.room (drop l.process-index l.processes)
