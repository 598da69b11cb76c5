-- The lines of a source: the number of the line of a place, and the text of the line of a number.
use Rattle.std.specs.Prelude.{◌≡◌, ℕ, ◌+◌, ◌-◌, ◌==◌, ◌⊎◌, ◌≤◌, List, [], slice_index, slice_index_or, take, length}
use Rattle.std.specs.List.{slice_split}
use Rattle.std.specs.Str.Lines.{strip_carriage_return}
use Rattle.cp_text.specs.Bytes.{line_feeds}

-- the number of the line of a place, counted from 1
abbrev pub line_in : List ℕ → ℕ → ℕ
line_in source at = line_feeds (take at source) + 1

-- the number of the last line
abbrev pub last_line : List ℕ → ℕ
last_line source = line_in source (length source)

-- a line begins at this place
abbrev pub BeginsLine : List ℕ → ℕ → Type 0
BeginsLine source at = (at ≡ 0) ⊎ (slice_index source (at - 1) ≡ 10)

-- the line of this number begins at this place
pub record IsLineStart (source : List ℕ) (number at : ℕ) : Type 0 where
  pub within : at ≤ length source
  pub begins : BeginsLine source at
  pub line : line_in source at ≡ number

-- the text of the line of this number, without what ends it
abbrev pub line_text : List ℕ → ℕ → List ℕ
line_text source number = strip_carriage_return (slice_index_or (slice_split (λ b. b == 10) source) (number - 1) [])

-- what stands before a place on its line
abbrev pub text_before : List ℕ → ℕ → List ℕ
text_before source at = slice_index_or (slice_split (λ b. b == 10) (take at source)) (line_in source at - 1) []
