use Rattle.std.proofs.Common.{◌≡◌, map, take}
use Rattle.cp_slots.specs.Tables.{system_view}
use Rattle.cp_layout.specs.Layers.{system_seen}
use Rattle.cp_layout.specs.Laid.{types_of}
use Rattle.cp_layout.proofs.tables.all_types.Given as goal

abbrev pub invariant-loop-system : goal.invariant-loop-system
invariant-loop-system l = map system_view l.types.items ≡ types_of (map system_seen (take l.system-index l.systems))
