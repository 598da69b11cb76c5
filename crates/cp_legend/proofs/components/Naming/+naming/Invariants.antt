use Rattle.std.proofs.Common.{◌≡◌, ◌+◌, ◌*◌, map, drop}
use Rattle.cp_legend.specs.Names.{component_seen, part_seen, parts_seen, parts_by, named_below}
use Rattle.cp_legend.proofs.components.Naming.+naming.Given as goal

-- a system type contains components of earlier ones alone
abbrev pub decreases-name_below : goal.decreases-name_below
decreases-name_below l = 3 * l.bound

abbrev pub decreases-name_next : goal.decreases-name_next
decreases-name_next l = 3 * l.system + 2

abbrev pub decreases-name_parts : goal.decreases-name_parts
decreases-name_parts l = 3 * l.bound + 1

-- what is left leads where all lead
abbrev pub invariant-name_parts-loop-part : goal.invariant-name_parts-loop-part
invariant-name_parts-loop-part l =
    parts_by (named_below l.self.program.now.components (map parts_seen l.self.parts.now) l.bound) (map part_seen l.parts) l.path l.outer (map component_seen l.initial.named.items)
    ≡ parts_by (named_below l.self.program.now.components (map parts_seen l.self.parts.now) l.bound) (map part_seen (drop l.part-index l.parts)) l.path l.outer (map component_seen l.named.items)
