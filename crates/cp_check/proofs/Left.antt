-- What is left of a list that a loop walks.
use Rattle.cp_check.proofs.Words.{add-one, ◌≡◌, ℕ, ◌+◌, ◌<◌, ◌≤◌, List, [], ◌∷◌, length, get_or, drop, refl, drop-cons, drop_all}
use Rattle.cp_check.proofs.Judging.{first_append, refuses_second}

module _ {X : Type 0} (xs : List X) (i : ℕ) where
  pub one_left : (x : X) → i < length xs → x ≡ get_or xs i x → drop i xs ≡ x ∷ drop (i + 1) xs
  one_left x within here = rw (add-one, drop-cons xs i x, ← here) refl

  pub read_left : (d : X) → i < length xs → (get_or xs i d ≡ get_or xs i d) × (drop i xs ≡ get_or xs i d ∷ drop (i + 1) xs)
  read_left d within = (refl, rw (add-one, drop-cons xs i d) refl)

  pub none_left : length xs ≤ i → drop i xs ≡ []
  none_left = drop_all i xs

-- where each item may be refused
pub ruleset left = (one_left, none_left, first_append)

-- where the loop reads at an index
pub ruleset read = (read_left, none_left)

-- where what each item comes to is added to a total
pub ruleset left_total = (one_left, none_left, refuses_second)
