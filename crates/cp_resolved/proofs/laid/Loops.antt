-- A loop begins again at the first item of its statement, which needs no more than the loop.
use Rattle.std.proofs.Common.{◌≡◌, ℕ, ◌<◌, ◌≤◌, max, nat_lt, Bool, true, false, if◌then◌else◌, List, [], ◌∷◌, ◌++◌, refl, arith, rules}
use Rattle.cp_layout.specs.Layers.{Pending, pending_need_from}
use Rattle.cp_resolved.proofs.laid.Settled.{greatest}

-- the greatest of two
larger : (n m : ℕ) (b : Bool) → nat_lt n m ≡ b → (n ≤ (if b then m else n)) × (m ≤ (if b then m else n)) × ((c : ℕ) → n ≤ c → m ≤ c → (if b then m else n) ≤ c)
larger n m true e = let lt : n < m = search (rules, e) in (omega (arith, lt), omega arith, λ c u v. v)
larger n m false e = let le : m ≤ n = search (rules, e) in (omega arith, le, λ c u v. u)

from_on : (n : ℕ) (ps : List Pending) → n ≤ pending_need_from n ps
from_on n [] = omega arith
from_on n (p ∷ ps) =
    let h = larger n p.need (nat_lt n p.need) refl in
    let u : n ≤ (if nat_lt n p.need then p.need else n) = h.0 in
    let v : (if nat_lt n p.need then p.need else n) ≤ pending_need_from n (p ∷ ps) = from_on (if nat_lt n p.need then p.need else n) ps in
    omega (arith, u, v)

abbrev pub AreBelow : ℕ → List Pending → Type 0
AreBelow b [] = Unit {0}
AreBelow b (p ∷ ps) = (p.need ≤ b) × AreBelow b ps

pub below_need : (n : ℕ) (ps : List Pending) → AreBelow (pending_need_from n ps) ps
below_need n [] = tt
below_need n (p ∷ ps) =
    let h = larger n p.need (nat_lt n p.need) refl in
    let u : p.need ≤ (if nat_lt n p.need then p.need else n) = h.1 in
    let v : (if nat_lt n p.need then p.need else n) ≤ pending_need_from n (p ∷ ps) = from_on (if nat_lt n p.need then p.need else n) ps in
    (omega (arith, u, v), below_need (if nat_lt n p.need then p.need else n) ps)

pub need_below : (n b : ℕ) (ps : List Pending) → n ≤ b → AreBelow b ps → pending_need_from n ps ≤ b
need_below n b [] le h = le
need_below n b (p ∷ ps) le h = need_below (if nat_lt n p.need then p.need else n) b ps ((larger n p.need (nat_lt n p.need) refl).2 b le h.0) h.1

pub below_more : (b c : ℕ) (ps : List Pending) → b ≤ c → AreBelow b ps → AreBelow c ps
below_more b c [] le h = tt
below_more b c (p ∷ ps) le h = let u : p.need ≤ b = h.0 in (omega (arith, u, le), below_more b c ps le h.1)

-- with the loop as the last of them
pub greatest_last : (n : ℕ) (ps : List Pending) (w : Pending) → AreBelow w.need ps → greatest n (ps ++ w ∷ []) ≤ max n w.need
greatest_last n [] w h = omega arith
greatest_last n (p ∷ ps) w h = let u : p.need ≤ w.need = h.0 in let v = greatest_last n ps w h.1 in omega (arith, u, v)
