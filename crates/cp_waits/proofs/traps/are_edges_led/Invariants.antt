use Rattle.std.proofs.Common.{◌≡◌, ◌≤◌, ◌<◌, ℕ, Some, slice_get}
use Rattle.cp_waits.proofs.Words.{Edge, rank_in, passed_over_in, LeadsToTrap, is_trap_in, first_edge}
use Rattle.cp_waits.proofs.traps.are_edges_led.Given as goal

abbrev pub invariant-loop-place : goal.invariant-loop-place
invariant-loop-place l =
    (k : ℕ) (e : Edge) → first_edge l.graph l.state ≤ k → k < l.place → slice_get l.graph.edges.items k ≡ Some e →
    LeadsToTrap l.graph l.keeping (rank_in l.parts) (passed_over_in l.parts) (is_trap_in l.parts) l.is_trap l.state e
