use Rattle.cp_waits.proofs.Words.{ℕ, sym, ◌∙◌, arith, refl, below_more, IsRanked, rank_in, passed_over_in, IsEdge, Edge}
use Rattle.cp_waits.proofs.Edges.{edge_within}
use Rattle.cp_waits.proofs.ranks.are_ranks.Goals as goal

pub returns-then-not-is_state_ranked : goal.returns-then-not-is_state_ranked
returns-then-not-is_state_ranked c =
    ((λ t. absurd (cc)), (λ all. sym c.if-not-is_state_ranked.true ∙ c.is_state_ranked.ensures.1 (λ e edge. all c.loop-state.state e edge)))

pub loop-state-preserved : goal.loop-state-preserved
loop-state-preserved c = λ i.
    let P : ℕ → Type 0 = λ n. (e : Edge) → IsEdge c.args.graph.now n e → IsRanked c.args.graph.now c.args.keeping (rank_in c.args.parts.now) (passed_over_in c.args.parts.now) n e in
    λ e less edge. below_more P c.loop-state.state (λ n h x y. c.loop-state.invariant n x h y) (λ x y. c.is_state_ranked.ensures.0 c.if-not-is_state_ranked.false x y) i less e edge

pub returns : goal.returns
returns c = (
  (λ t i e edge.
      let within = edge_within c.args.graph.now i e edge in
      c.loop-state.invariant i e (omega (arith, within)) edge),
  (λ t. refl),
)
