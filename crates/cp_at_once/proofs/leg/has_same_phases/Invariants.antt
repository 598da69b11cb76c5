use Rattle.std.proofs.Common.{◌≡◌, ◌<◌, ℕ}
use Rattle.cp_at_once.specs.ByRows.{phases_number}
use Rattle.cp_at_once.proofs.leg.has_same_phases.Given as goal

abbrev pub invariant-loop-place : goal.invariant-loop-place
invariant-loop-place l = (place : ℕ) → place < l.place → phases_number l.cache.store l.cache.table l.row place ≡ phases_number l.cache.store l.cache.table l.after place
