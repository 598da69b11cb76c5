-- The places of a text's tokens and of its faults.
use Rattle.std.specs.Prelude.{◌≡◌, ℕ, ◌+◌, ◌≤◌, List, length, map, take}
use Rattle.cp_text.specs.declared.token.ByteRange.{ByteRange}
use Rattle.cp_text.specs.declared.token.Token.{Token}
use Rattle.cp_text.specs.Bytes.{line_feeds}

abbrev pub ranges : List Token → List ByteRange
ranges ts = map (λ t. t.range) ts

-- a place of a text is in the line of this number
pub record IsInLine (text : List ℕ) (line from : ℕ) : Type 0 where
  pub within : from ≤ length text
  pub on_line : line ≡ 1 + line_feeds (take from text)

-- these bytes are bytes of a text, and begin in the line of this number
pub record StandsAt (text : List ℕ) (line : ℕ) (range : ByteRange) : Type 0 where
  pub within : range.from + range.len ≤ length text
  pub begins : IsInLine text line range.from
