use Rattle.std.proofs.Common.{◌≡◌, ◌++◌, drop, map}
use Rattle.std.specs.String.{string_bytes}
use Rattle.cp_run.specs.Table.{each}
use Rattle.cp_story.specs.Columns.{row_seen, row_text}
use Rattle.cp_story.proofs.tables.push_lines.Given as goal

-- what is written, with what is left, is all
abbrev pub invariant-loop-row : goal.invariant-loop-row
invariant-loop-row l = string_bytes l.initial.text ++ each (row_text l.widths) (map row_seen l.rows) ≡ string_bytes l.text ++ each (row_text l.widths) (map row_seen (drop l.row-index l.rows))
