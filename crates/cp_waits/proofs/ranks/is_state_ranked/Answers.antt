use Rattle.std.proofs.Common.{◌≡◌, ℕ, ◌<◌, ◌≤◌, slice_get, Some, sym, ◌∙◌, arith, refl, below_more}
use Rattle.cp_waits.proofs.Words.{IsRanked, rank_in, passed_over_in, first_edge, end_edge, Edge}
use Rattle.cp_waits.proofs.ranks.is_state_ranked.Goals as goal

pub returns-then-not-is_ranked_at : goal.returns-then-not-is_ranked_at
returns-then-not-is_ranked_at c = (
  (λ t. absurd (cc)),
  (λ all. let place = c.loop-place.place in
      let from : first_edge c.args.graph.now c.args.state ≤ place = omega arith in
      let less : place < end_edge c.args.graph.now c.args.state = omega arith in
      sym c.if-not-is_ranked_at.true ∙ c.is_ranked_at.ensures.1 (λ e at. all e (place, from, less, at))),
)

pub loop-place-preserved : goal.loop-place-preserved
loop-place-preserved c = λ k.
    let P : ℕ → Type 0 = λ n. (e : Edge) → first_edge c.args.graph.now c.args.state ≤ n → slice_get c.args.graph.now.edges.items n ≡ Some e → IsRanked c.args.graph.now c.args.keeping (rank_in c.args.parts.now) (passed_over_in c.args.parts.now) c.args.state e in
    λ e from less at. below_more P c.loop-place.place (λ n h x f a. c.loop-place.invariant n x f h a) (λ x f a. c.is_ranked_at.ensures.0 c.if-not-is_ranked_at.false x a) k less e from at

pub returns : goal.returns
returns c = (
  (λ t e edge.
      let less : edge.0 < c.loop-place.place = let h : edge.0 < end_edge c.args.graph.now c.args.state = edge.2 in omega arith in
      c.loop-place.invariant edge.0 e edge.1 less edge.3),
  (λ t. refl),
)
