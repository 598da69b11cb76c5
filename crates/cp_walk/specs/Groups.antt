-- The outcomes of a table with their first rows and counts.
use Rattle.std.specs.Prelude.{ℕ, ◌+◌, List, ◌++◌, map, Option, None, Some, codes}
use Rattle.cp_natural.specs.Decimal.{number_text}
use Rattle.cp_run.specs.Table.{Line}
use Rattle.cp_walk.specs.Report.{outcome_numbers, outcomes_of, count_of}
use Rattle.cp_walk.specs.Rows.{line_of}
use Rattle.cp_walk.specs.Text.{Spellings, word_text, outcome_text}
use Rattle.cp_walk.specs.declared.groups.RowGroup.{RowGroup}

pub record Tally : Type 0 where
  pub first : Line
  pub count : ℕ

abbrev pub tally_of : List Line → Line → List ℕ × Tally
tally_of lines first = (outcome_numbers first.outcome, record { first = first; count = count_of lines first })

-- for each distinct outcome, in order: its numbers, its first row, and its count
abbrev pub tallies_of : List Line → List (List ℕ × Tally)
tallies_of lines = map (tally_of lines) (outcomes_of lines)

-- what is known of an outcome after one row more
abbrev pub tally_with : Option Tally → Line → Tally
tally_with None l = record { first = l; count = 1 }
tally_with (Some t) l = record { first = t.first; count = t.count + 1 }

abbrev pub tally : RowGroup → Tally
tally g = record { first = line_of g.first.now; count = g.count }

abbrev pub tally_text : Spellings → Tally → List ℕ
tally_text names t = number_text t.count ++ codes " first " ++ word_text t.first.word ++ codes " " ++ outcome_text names t.first.outcome ++ codes "\n"
