use Rattle.cp_machine.proofs.Words.{◌≡◌, ◌<◌, ℕ, slice_index_or, Gate, monitor_of}
use Rattle.cp_machine.proofs.copy.take_guards.Given as goal

abbrev pub invariant-loop-at : goal.invariant-loop-at
invariant-loop-at l = (k : ℕ) (d : Gate) → k < l.at → monitor_of (slice_index_or l.mine k d) ≡ monitor_of (slice_index_or l.theirs k d)
