-- Places that are noted.
use Rattle.std.specs.Prelude.{◌≡◌, ◌==◌, ℕ, Bool, true, List}
use Rattle.std.specs.List.{list_any}

-- whether a place is among these
abbrev pub among : List ℕ → ℕ → Bool
among places place = list_any (λ noted. noted == place) places

-- what is among the first places is among the others
abbrev pub KeepNoted : List ℕ → List ℕ → Type 0
KeepNoted before after = (place : ℕ) → among before place ≡ true → among after place ≡ true
