use Rattle.std.proofs.Common.{◌≡◌, ◌++◌, [], drop, map}
use Rattle.std.specs.String.{string_bytes}
use Rattle.cp_story.specs.Columns.{cells_text}
use Rattle.cp_story.proofs.tables.push_cells.Given as goal

-- what is written, with what is left, is all
abbrev pub invariant-loop-column : goal.invariant-loop-column
invariant-loop-column l = string_bytes l.initial.text ++ cells_text l.widths 0 [] (map string_bytes l.cells) ≡ string_bytes l.text ++ cells_text l.widths l.column (string_bytes l.before) (map string_bytes (drop l.column l.cells))
