use Rattle.std.proofs.Common.{◌≡◌, map}
use Rattle.cp_legend.specs.Names.{parts_seen, at_each, parts_of, source_seen}
use Rattle.cp_legend.proofs.parts.all_parts.Given as goal

-- those that are gathered
abbrev pub invariant-loop-number : goal.invariant-loop-number
invariant-loop-number l = map parts_seen l.all.items ≡ at_each (parts_of (source_seen l.symbols)) l.number
