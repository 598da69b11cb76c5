use Rattle.std.proofs.Common.{◌≡◌, take}
use Rattle.std.specs.Prelude.{sum_by}
use Rattle.cp_merged.specs.Code.{tally_of}
use Rattle.cp_outcomes.specs.Stops.{count_at}
use Rattle.cp_outcomes.proofs.stopped.schedules_stopped_at.Given as goal

abbrev pub invariant-loop-tally : goal.invariant-loop-tally
invariant-loop-tally l = l.sum ≡ sum_by (λ t. count_at l.limit (tally_of t)) (take l.tally-index l.tallies)
