-- Where the pieces of a text stand.
use Rattle.std.specs.Prelude.{ℕ, ◌+◌, List, length}
use Rattle.cp_text.specs.declared.token.ByteRange.{ByteRange}
use Rattle.cp_text.specs.declared.token.Kind.{Kind}
use Rattle.cp_text.specs.declared.token.Spot.{Spot}
use Rattle.cp_text.specs.declared.token.Token.{Token}
use Rattle.cp_text.specs.Bytes.{line_feeds}

abbrev pub spot_of : ℕ → ℕ → Spot
spot_of line from = record { line = line; from = from }

-- where a text begins
abbrev pub beginning : Spot
beginning = spot_of 1 0

-- no place of a text
abbrev pub nowhere : Spot
nowhere = spot_of 0 0

-- where the piece that begins at a spot ends
abbrev pub after : Spot → List ℕ → Spot
after spot piece = spot_of (spot.line + line_feeds piece) (spot.from + length piece)

-- the bytes of a piece that begins at a spot
abbrev pub range_at : Spot → List ℕ → ByteRange
range_at spot piece = record { from = spot.from; len = length piece }

-- a piece as a token of this kind
abbrev pub token_of : Spot → List ℕ → Kind → Token
token_of spot piece k = record { kind = k; line = spot.line; range = range_at spot piece }
