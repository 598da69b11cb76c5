use Rattle.cp_waits.proofs.Words.{◌<◌, ℕ, Edge, IsRanked, rank_in, passed_over_in, IsEdge}
use Rattle.cp_waits.proofs.ranks.are_ranks.Given as goal

abbrev pub invariant-loop-state : goal.invariant-loop-state
invariant-loop-state l = (i : ℕ) (e : Edge) → i < l.state → IsEdge l.graph i e → IsRanked l.graph l.keeping (rank_in l.parts) (passed_over_in l.parts) i e
