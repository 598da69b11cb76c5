-- Whoever is inside a monitor is its holder.
use Rattle.std.proofs.Common.{◌≡◌, ℕ, zero, suc, ◌<◌, Bool, true, false, if◌then◌else◌, List, [], ◌∷◌, length, Some, ap, refl, arith}
use Rattle.cp_meaning.proofs.Words.{Process, process_at, is_inside, after}
use Rattle.cp_meaning.specs.Readings.{first_inside, HolderLaw}
use Rattle.cp_meaning.proofs.OwnershipLemmas.{reached}

first_told : (m : ℕ) (ps : List Process) (q : ℕ) → q < length ps → is_inside m (process_at ps q) ≡ true → ((k : ℕ) → k < length ps → is_inside m (process_at ps k) ≡ true → k ≡ q) → first_inside m ps ≡ Some q
first_told m [] q lt h one = absurd (omega arith)
first_told m (p ∷ ps) zero lt h one = go (is_inside m p) h
  where
    go : (b : Bool) → b ≡ true → (if b then Some 0 else after (first_inside m ps)) ≡ Some 0
    go true e = refl
    go false e = absurd (let bad : false ≡ true = e in cc)
first_told m (p ∷ ps) (suc q) lt h one = go (is_inside m p) refl (first_told m ps q (omega arith) h (λ k l i. (let same = one (suc k) (omega arith) i in omega arith)))
  where
    go : (b : Bool) → is_inside m p ≡ b → first_inside m ps ≡ Some q → (if b then Some 0 else after (first_inside m ps)) ≡ Some (suc q)
    go true e rest = absurd (let same = one 0 (omega arith) e in omega arith)
    go false e rest = ap after rest

pub holder : HolderLaw
holder p ok g s before m q mon lt h =
    let old = (reached p ok g s before).1 in
    first_told m s.processes q lt h (λ k l i. old.orderly.one_inside m (mon) k q l lt i h)
