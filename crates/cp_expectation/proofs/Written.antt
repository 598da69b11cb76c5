-- Texts of expectations, piece by piece.
use Rattle.std.proofs.Common.{◌≡◌, ◌∙◌, ◌≤◌, ℕ, List, [], ◌∷◌, ◌++◌, false, ◌==◌, length, take, codes, ap, IfOk, Result}
use Rattle.std.proofs.lemmas.List.{append_assoc, take_all}
use Rattle.std.proofs.lemmas.Result.{IfOk-weaker}
use Rattle.cp_run.specs.Table.{each}
use Rattle.cp_expectation.specs.Written.{item_text, items_text}
use Rattle.cp_expectation.specs.declared.expectation.OutputItem.{OutputItem}

-- the items so far are all, and there are some
pub items_whole : (k : ℕ) (items : List OutputItem) (old new : List ℕ) → (length items == 0) ≡ false → length items ≤ k → new ≡ old ++ each (λ j. codes " " ++ item_text j) (take k items) → new ≡ old ++ items_text items
items_whole k [] old new some le is = absurd (cc)
items_whole k (i ∷ is) old new some le e = e ∙ ap (λ l. old ++ each (λ j. codes " " ++ item_text j) l) (take_all k (i ∷ is) le)

-- a piece is appended, and then another
pub two_pieces : {T E : Type 0} (r : Result T E) (a b old one new : List ℕ) → one ≡ old ++ a → IfOk r (λ _. new ≡ one ++ b) → IfOk r (λ _. new ≡ old ++ (a ++ b))
two_pieces r a b old one new d = IfOk-weaker r (λ _. new ≡ one ++ b) (λ _. new ≡ old ++ (a ++ b)) (λ _ h. h ∙ ap (λ l. l ++ b) d ∙ append_assoc old a b)
