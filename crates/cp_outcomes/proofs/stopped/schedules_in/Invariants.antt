use Rattle.std.proofs.Common.{◌≡◌, take}
use Rattle.std.specs.Prelude.{sum_by}
use Rattle.cp_outcomes.proofs.stopped.schedules_in.Given as goal

abbrev pub invariant-loop-tally : goal.invariant-loop-tally
invariant-loop-tally l = l.sum ≡ sum_by (λ t. t.count) (take l.tally-index l.tallies)
