use Rattle.std.proofs.Common.{◌≡◌, drop, map}
use Rattle.std.specs.Prelude.{max}
use Rattle.cp_story.specs.Columns.{row_seen, width}
use Rattle.cp_story.proofs.tables.width.Given as goal

-- what was found, with what is left, is all
abbrev pub invariant-loop-row : goal.invariant-loop-row
invariant-loop-row l = width (map row_seen l.rows) l.column ≡ max l.widest (width (map row_seen (drop l.row-index l.rows)) l.column)
