use Rattle.cp_walk.proofs.Words.{◌≡◌, ◌++◌, string_bytes, take, each, line_of}
use Rattle.cp_walk.specs.Report.{row_text}
use Rattle.cp_walk.proofs.reports.push_rows.Given as goal

abbrev pub invariant-loop-row : goal.invariant-loop-row
invariant-loop-row l = string_bytes l.text ≡ string_bytes l.initial.text ++ each (λ row. row_text l.program.names (line_of row)) (take l.row-index l.rows)
