-- Which states have edges.
use Rattle.cp_waits.proofs.Words.{◌≡◌, ◌<◌, ℕ, length, arith, inl, inr, cases_lt, Edge, Graph, IsEdge, end_edge}
use Rattle.std.proofs.lemmas.List.{get_or_past}

-- there is no edge past the last state
pub edge_within : (g : Graph) (i : ℕ) (e : Edge) → IsEdge g i e → i < length g.ends.items
edge_within g i e edge =
    elim (cases_lt i (length g.ends.items)) [
      | inl within ↦ within
      | inr past ↦ (let none : end_edge g i ≡ 0 = get_or_past g.ends.items i 0 past in let less : edge.0 < end_edge g i = edge.2 in absurd (omega arith))
    ]
