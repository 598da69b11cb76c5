-- The number that digits spell.
use Rattle.std.proofs.Common.{ℕ, ◌≤◌, ◌+◌, ◌*◌, ◌-◌, List, [], ◌∷◌, arith}
use Rattle.cp_text.specs.Values.{number_from}

pub number_over : (value : ℕ) (digits : List ℕ) → value ≤ number_from value digits
number_over value [] = omega arith
number_over value (b ∷ bs) = let h : value * 10 + (b - 48) ≤ number_from (value * 10 + (b - 48)) bs = number_over (value * 10 + (b - 48)) bs in omega arith
