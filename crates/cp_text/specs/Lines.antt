-- The lines of a text's tokens.
use Rattle.std.specs.Prelude.{ℕ, ◌-◌, List, length, map, min, slice_get, unwrap_or}
use Rattle.cp_text.specs.declared.token.Token.{Token}

abbrev pub lines : List Token → List ℕ
lines ts = map (λ t. t.line) ts

-- the line of token `at`; at the count that of the last token, 1 if there is none
abbrev pub line_of : List Token → ℕ → ℕ
line_of ts at = unwrap_or (slice_get (lines ts) (min at (length ts - 1))) 1
