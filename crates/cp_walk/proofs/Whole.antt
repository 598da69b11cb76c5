-- The walk from the root is the table.
use Rattle.cp_walk.proofs.Words.{◌≡◌, ℕ, List, [], ◌∷◌, map, sym, refl, ap, ◌∙◌, System, Node, opened, Line, table, behind, walk}
use Rattle.cp_walk.proofs.Walks.{table_walk}

pub behind_none : (lines : List Line) → map (behind []) lines ≡ lines
behind_none [] = refl
behind_none (l ∷ ls) = ap (λ m. l ∷ m) (behind_none ls)

pub whole_walk : {S : Type 0} (sys : System S) (choices steps n : ℕ) (node : Node S) → n ≡ choices → opened sys steps ≡ node → walk sys steps n node ≡ table sys choices steps
whole_walk sys choices steps n node deep root = ap (λ k. walk sys steps k node) deep ∙ ap (walk sys steps choices) (sym root) ∙ sym (table_walk sys choices steps)
