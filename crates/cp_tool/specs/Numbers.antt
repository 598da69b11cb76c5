-- Texts of numbers.
use Rattle.std.specs.Prelude.{◌≡◌, ℕ, ◌≤◌, List, Option, MatchOption}
use Rattle.std.specs.Str.Parse.{IsNumeral, digits_value, without_leading_plus}

-- the text is a decimal number, which a plus may stand before
abbrev pub Reads : List ℕ → ℕ → Type 0
Reads text n = IsNumeral 10 (without_leading_plus text) × (digits_value 10 (without_leading_plus text) ≡ n)

-- the number that the text has, or the default where there is no text; in its range
abbrev pub IsChosen : ℕ → ℕ → ℕ → Option (List ℕ) → ℕ → Type 0
IsChosen default low high text n = MatchOption text (n ≡ default) (λ t. Reads t n) × (low ≤ n) × (n ≤ high)
