use Rattle.std.proofs.Common.{◌≡◌, drop, map}
use Rattle.cp_layout.specs.Layers.{system_seen, heading_seen}
use Rattle.cp_layout.specs.LaidExpressions.{entry_among}
use Rattle.cp_layout.proofs.designator.entry_among.Given as goal

-- what is left leads where all lead
abbrev pub invariant-loop-number : goal.invariant-loop-number
invariant-loop-number l = entry_among (system_seen l.system) (map heading_seen l.headings) 0 l.name ≡ entry_among (system_seen l.system) (map heading_seen (drop l.number l.headings)) l.number l.name
