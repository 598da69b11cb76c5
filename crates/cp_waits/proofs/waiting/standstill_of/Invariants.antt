use Rattle.cp_waits.proofs.Words.{◌≡◌, ◌<◌, ℕ, false, get_or, Standstill, has}
use Rattle.cp_waits.proofs.waiting.standstill_of.Given as goal

abbrev pub invariant-loop-still : goal.invariant-loop-still
invariant-loop-still l = (k : ℕ) (s : Standstill) → k < l.still-index → get_or l.graph.standstills.items k s ≡ s → has s.again.wait l.process ≡ false
