use Rattle.std.proofs.Common.{◌≡◌, ◌&&◌, ℕ, nat_lt}
use Rattle.cp_waits.specs.Sets.{has}
use Rattle.cp_waits.proofs.set.Set.below.Given as goal

abbrev pub invariant-loop-pid : goal.invariant-loop-pid
invariant-loop-pid l = (q : ℕ) → has l.set q ≡ (nat_lt q 16 && nat_lt q l.pid)
