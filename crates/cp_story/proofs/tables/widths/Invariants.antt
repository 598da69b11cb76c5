use Rattle.std.proofs.Common.{◌≡◌, map}
use Rattle.cp_legend.specs.Names.{at_each}
use Rattle.cp_story.specs.Columns.{row_seen, width}
use Rattle.cp_story.proofs.tables.widths.Given as goal

-- those that are gathered
abbrev pub invariant-loop-column : goal.invariant-loop-column
invariant-loop-column l = l.widths.items ≡ at_each (width (map row_seen l.rows)) l.column
