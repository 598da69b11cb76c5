use Rattle.cp_merged.proofs.Words.{◌≡◌, take, sum_by}
use Rattle.cp_merged.proofs.report.words_in.Given as goal

abbrev pub invariant-loop-tally : goal.invariant-loop-tally
invariant-loop-tally l = l.sum ≡ sum_by (λ t. t.count) (take l.tally-index l.tallies)
