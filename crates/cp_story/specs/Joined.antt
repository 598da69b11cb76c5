-- Texts of the elements of a list.
use Rattle.std.specs.Prelude.{ℕ, List, [], ◌∷◌, ◌++◌}

-- this before the first, and that before each later one
abbrev pub joined : {A : Type 0} → (before between : List ℕ) → (A → List ℕ) → List A → List ℕ
joined before between text [] = []
joined before between text (x ∷ xs) = before ++ text x ++ joined between between text xs
