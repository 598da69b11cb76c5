-- Where words stop to spell expectations.
use Rattle.std.specs.Prelude.{◌+◌, ◌<◌, ◌≤◌, ℕ, ◌++◌, length, take}
use Rattle.cp_expectation.specs.Spelling.{Words, Spells}
use Rattle.cp_expectation.specs.declared.reading.Misread.{Misread}
use Rattle.cp_expectation.specs.declared.reading.Misread.TheVariants.{Unexpected, Memory}

-- with some words behind them they spell something
abbrev pub CanGoOn : {E : Type 0} → (Words → E → Type 0) → Words → Type 0
CanGoOn {E = E} spells ws = (more : Words) × (e : E) × spells (ws ++ more) e

-- The words before this place can go on; with the word that stands there they can't, or they end there.
abbrev pub StopsAt : {E : Type 0} → (Words → E → Type 0) → Words → ℕ → Type 0
StopsAt spells ws place = (place ≤ length ws) × CanGoOn spells (take place ws) × (place < length ws → ¬ (CanGoOn spells (take (place + 1) ws)))

abbrev pub IsMisread : Words → Misread → Type 0
IsMisread ws (Unexpected wanted place) = StopsAt Spells ws place
IsMisread ws Memory = Unit {0}
