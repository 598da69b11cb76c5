use Rattle.std.proofs.Common.{◌≡◌, ◌≤◌, ◌<◌, ℕ, Some, slice_get}
use Rattle.cp_waits.proofs.Words.{Edge, IsRanked, rank_in, passed_over_in, first_edge}
use Rattle.cp_waits.proofs.ranks.is_state_ranked.Given as goal

abbrev pub invariant-loop-place : goal.invariant-loop-place
invariant-loop-place l =
    (k : ℕ) (e : Edge) → first_edge l.graph l.state ≤ k → k < l.place → slice_get l.graph.edges.items k ≡ Some e → IsRanked l.graph l.keeping (rank_in l.parts) (passed_over_in l.parts) l.state e
