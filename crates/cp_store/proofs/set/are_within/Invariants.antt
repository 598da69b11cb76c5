use Rattle.std.proofs.Common.{◌≡◌}
use Rattle.cp_store.specs.Sets as spec
use Rattle.cp_store.proofs.set.are_within.Given as goal

abbrev pub invariant-loop-number : goal.invariant-loop-number
invariant-loop-number l = l.within ≡ spec.are_within l.low l.high l.members l.number
