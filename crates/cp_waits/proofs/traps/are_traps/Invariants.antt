use Rattle.cp_waits.proofs.Words.{◌<◌, ℕ, rank_in, passed_over_in, IsStateLed, is_trap_in}
use Rattle.cp_waits.proofs.traps.are_traps.Given as goal

abbrev pub invariant-loop-state : goal.invariant-loop-state
invariant-loop-state l = (i : ℕ) → i < l.state → IsStateLed l.graph l.keeping (rank_in l.parts) (passed_over_in l.parts) (is_trap_in l.parts) i
