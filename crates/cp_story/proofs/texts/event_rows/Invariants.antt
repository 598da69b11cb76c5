use Rattle.std.proofs.Common.{◌≡◌, ◌+◌, ◌++◌, drop, map}
use Rattle.cp_legend.specs.Names.{legend_seen}
use Rattle.cp_story.specs.Columns.{row_seen}
use Rattle.cp_story.specs.Text.{event_rows}
use Rattle.cp_story.proofs.texts.event_rows.Given as goal

-- what is gathered, with what is left, is all
abbrev pub invariant-loop-place : goal.invariant-loop-place
invariant-loop-place l = event_rows (legend_seen l.legend) l.named 1 l.events ≡ map row_seen l.rows.items ++ event_rows (legend_seen l.legend) l.named (l.place + 1) (drop l.place l.events)
