use Rattle.std.proofs.Common.{◌≡◌, ◌++◌, map}
use Rattle.std.specs.String.{string_bytes}
use Rattle.cp_legend.specs.Names.{part_seen, elements_below}
use Rattle.cp_legend.proofs.parts.add_each.Given as goal

-- those that are added
abbrev pub invariant-loop-place : goal.invariant-loop-place
invariant-loop-place l = map part_seen l.parts.items ≡ map part_seen l.initial.parts.items ++ elements_below (map string_bytes l.constants) l.name l.index l.system l.place
