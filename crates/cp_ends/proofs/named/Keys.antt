-- Machines of one key are one.
use Rattle.std.proofs.Common.{◌≡◌, ◌∙◌, ℕ, true, ◌&&◌, List, [], ◌∷◌, refl, ap}
use Rattle.cp_ends.proofs.Vocabulary.{nat_eq, pointwise, key_of, Machine, same_key}
use Rattle.std.proofs.lemmas.Bool.{eqb-true, eq-eqb}
use Rattle.cp_key.proofs.Keys.{key_tells}
use Rattle.cp_resolved.proofs.frames.LeastCells.{right_true as both_second}
use Rattle.cp_resolved.proofs.counts.FewCells.{left_of as both_first}

one_list : (xs ys : List ℕ) → pointwise nat_eq xs ys ≡ true → xs ≡ ys
one_list [] [] h = refl
one_list (x ∷ xs) (y ∷ ys) h = ap (λ z. z ∷ xs) (eqb-true x y (both_first (nat_eq x y) (pointwise nat_eq xs ys) h)) ∙ ap (λ l. y ∷ l) (one_list xs ys (both_second (nat_eq x y) (pointwise nat_eq xs ys) h))
one_list x y h = absurd (cc)

list_self : (xs : List ℕ) → pointwise nat_eq xs xs ≡ true
list_self [] = refl
list_self (x ∷ xs) = ap (λ b. b && pointwise nat_eq xs xs) (eq-eqb x x refl) ∙ list_self xs

pub key_same : (m n : Machine) → same_key m n ≡ true → m ≡ n
unfolding same_key
key_same m n h = key_tells m n (one_list (key_of m) (key_of n) h)

pub key_self : (m : Machine) → same_key m m ≡ true
unfolding same_key
key_self m = list_self (key_of m)
