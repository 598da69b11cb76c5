-- Schedule words and how they are spelled.
use Rattle.std.specs.Prelude.{ℕ, ◌≤◌, List, [], ◌∷◌, ◌++◌, codes, decimal, length, All, flat_map}

-- at most so many numbers of at most 15
abbrev pub IsWord : ℕ → List ℕ → Type 0
IsWord most w = (length w ≤ most) × All (λ n. n ≤ 15) w

-- the text of a schedule word: its numbers joined by periods (46)
abbrev pub spelled : List ℕ → List ℕ
spelled [] = codes "none"
spelled (n ∷ ns) = decimal n ++ flat_map (λ m. 46 ∷ decimal m) ns
