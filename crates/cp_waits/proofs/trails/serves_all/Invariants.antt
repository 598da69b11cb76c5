use Rattle.std.proofs.Common.{◌≡◌, ◌<◌, ℕ, true}
use Rattle.cp_waits.specs.Sets.{has}
use Rattle.cp_waits.proofs.trails.serves_all.Given as goal

abbrev pub invariant-loop-pid : goal.invariant-loop-pid
invariant-loop-pid l = (q : ℕ) → q < l.pid → has l.served q ≡ true
