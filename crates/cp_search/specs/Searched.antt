-- What is known when a search has come to its end.
use Rattle.std.specs.Prelude.{ℕ, suc, Bool, true, false, Option, None, Some}

-- the answer of a search: it stopped at this state, or at none
abbrev pub IsSearched : Type 0 → (ℕ → Type 0) → Option ℕ → Type 0
IsSearched over stops None = over
IsSearched over stops (Some at) = stops at

-- the state of this number was expanded; `false` where there was no room to
abbrev pub IsTaken : (ℕ → Type 0) → (ℕ → Type 0) → ℕ → Bool → Type 0
IsTaken before stops at true = before (suc at)
IsTaken before stops at false = stops at
