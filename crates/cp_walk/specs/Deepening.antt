-- One turn of `to_depth`.
use Rattle.std.specs.Prelude.{◌≡◌, ◌≤◌, ◌<◌, ◌-◌, ◌^◌, ℕ, List, length, drop, sum_by, false, Option, None, Some}
use Rattle.cp_run.specs.System.{System}
use Rattle.cp_walk.specs.Cutting.{is_due, deeper, deepened, word_at}

-- no word before this place is to be split
abbrev pub Settled : {S : Type 0} → System S → (choices steps d : ℕ) → List (List ℕ) → ℕ → Type 0
Settled sys choices steps d words at = (k : ℕ) → k < at → is_due sys choices steps d (word_at words k) ≡ false

-- what is left to do, as a number
abbrev pub weight : List (List ℕ) → ℕ → ℕ
weight words at = sum_by (λ w. 4097 ^ (21 - length w)) (drop at words)

-- after a turn at a place: no split fits, or the next place
abbrev pub Advanced : {S : Type 0} → System S → (choices steps d : ℕ) → List (List ℕ) → ℕ → List (List ℕ) → Option ℕ → Type 0
Advanced sys choices steps d words at new None = (new ≡ words) × (deeper sys choices steps d words ≡ None)
Advanced sys choices steps d words at new (Some next) = (next ≤ length new) × Settled sys choices steps d new next × (weight new next < weight words at) × ((n : ℕ) × (deepened sys choices steps d n words ≡ Some new))
