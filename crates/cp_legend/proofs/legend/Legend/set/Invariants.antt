use Rattle.std.proofs.Common.{◌≡◌, map}
use Rattle.std.specs.String.{string_bytes}
use Rattle.cp_legend.specs.Values.{value_seen, members_below}
use Rattle.cp_legend.proofs.legend.Legend.set.Given as goal

-- the members that are found
abbrev pub invariant-loop-number : goal.invariant-loop-number
invariant-loop-number l = map value_seen l.members.items ≡ members_below (map string_bytes l.self.constants.items) l.range.base l.cells l.at l.number
