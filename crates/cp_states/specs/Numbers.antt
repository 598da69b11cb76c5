-- The numbers of a row.
use Rattle.std.specs.Prelude.{ℕ, List, slice_index_or}

abbrev pub number_at : List ℕ → ℕ → ℕ
number_at row k = slice_index_or row k 0
