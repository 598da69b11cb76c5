-- The report of tallies.
use Rattle.std.specs.Prelude.{ℕ, List, ◌++◌, length, sum_by, codes}
use Rattle.cp_natural.specs.Decimal.{number_text}
use Rattle.cp_run.specs.Table.{each}
use Rattle.cp_walk.specs.Groups.{Tally, tally_text}
use Rattle.cp_walk.specs.Text.{Spellings}

-- how many rows the tallies are of
abbrev pub rows_in : List Tally → ℕ
rows_in ts = sum_by (λ t. t.count) ts

-- the report of a table by its tallies
abbrev pub told_text : Spellings → List Tally → List ℕ
told_text names ts = codes "schedules " ++ number_text (rows_in ts) ++ codes "\n" ++ codes "outcomes " ++ number_text (length ts) ++ codes "\n" ++ each (tally_text names) ts
