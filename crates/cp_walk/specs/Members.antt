-- The words of a cutting, and the rows that begin with each.
use Rattle.std.specs.Prelude.{◌≤◌, ℕ, List, [], length, map, Option, None, Some, slice_get}
use Rattle.arrayvec.specs.ArrayVec.{ArrayVec}
use Rattle.cp_slots.specs.Tables.{Tables}
use Rattle.cp_run.specs.declared.limits.Limits.{Limits}
use Rattle.cp_run.specs.Slots.{slots}
use Rattle.cp_run.specs.Table.{Line}
use Rattle.cp_walk.specs.Cutting.{rows_behind, IsCutting, Parts}
use Rattle.cp_walk.specs.declared.row.Row.{Row}

abbrev pub words_of : List (ArrayVec ℕ) → List (List ℕ)
words_of words = map (λ w. w.items) words

abbrev pub row_of : Line → Row
row_of l = record { word = record { items = l.word }; outcome = l.outcome }

abbrev pub lines_behind : Tables → Limits → Option (ArrayVec ℕ) → List Line
lines_behind r l None = []
lines_behind r l (Some word) = rows_behind (slots r l.discipline) l.choices l.steps word.items

-- the rows that begin with the member of this number
abbrev pub member_rows : Tables → Limits → List (ArrayVec ℕ) → ℕ → List Row
member_rows r l words i = map row_of (lines_behind r l (slice_get words i))

-- at most 4,096 words, which cut the table of a program under limits
pub record CutsTable (r : Tables) (l : Limits) (words : List (ArrayVec ℕ)) : Type 0 where
  pub few : length words ≤ 4096
  pub cutting : IsCutting (slots r l.discipline) l.choices l.steps (words_of words)
  pub parts : Parts (slots r l.discipline) l.choices l.steps (words_of words)
