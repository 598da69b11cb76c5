-- The last element of a list is overwritten.
use Rattle.std.proofs.Common.{◌≡◌, ◌∙◌, ◌<◌, ◌-◌, List, [], ◌∷◌, ◌++◌, length, refl, reverse, drop, slice_set, ap, arith}
use Rattle.std.proofs.lemmas.List.{set_at, length-reverse, reverse-append, reverse-reverse}

-- of a list that is read from its end
overwritten_first : {X : Type 0} (r : List X) (e : X) → 0 < length r → reverse (slice_set (reverse r) (length r - 1) e) ≡ e ∷ drop 1 r
overwritten_first [] e h = absurd (omega (arith, h))
overwritten_first (y ∷ r) e h =
    let n : length (y ∷ r) - 1 ≡ length r = omega arith in
    let back : reverse (y ∷ r) ≡ reverse r ++ y ∷ [] = reverse-append (y ∷ []) r in
    let set : slice_set (reverse r ++ y ∷ []) (length r) e ≡ reverse r ++ e ∷ [] = set_at (reverse r) y [] e (length r) (length-reverse r) in
    let all : reverse (reverse r ++ e ∷ []) ≡ e ∷ reverse (reverse r) = reverse-append (reverse r) (e ∷ []) in
    rw (n, back, set, all, reverse-reverse) refl

pub overwritten : {X : Type 0} (xs : List X) (e : X) → 0 < length xs → reverse (slice_set xs (length xs - 1) e) ≡ e ∷ drop 1 (reverse xs)
overwritten xs e h =
    let len : length (reverse xs) ≡ length xs = length-reverse xs in
    let some : 0 < length (reverse xs) = rw len h in
    let twice : slice_set xs (length xs - 1) e ≡ slice_set (reverse (reverse xs)) (length (reverse xs) - 1) e = rw (reverse-reverse, len) refl in
    ap reverse twice ∙ overwritten_first (reverse xs) e some
