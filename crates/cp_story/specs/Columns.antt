-- Rows of a table, in columns.
use Rattle.std.specs.Prelude.{ℕ, ◌+◌, ◌-◌, ◌==◌, max, if◌then◌else◌, List, [], ◌∷◌, ◌++◌, map, length, replicate, take, drop, Option, Some, None, slice_get, slice_index_or, codes}
use Rattle.std.specs.String.{string_bytes}
use Rattle.cp_legend.specs.Names.{at_each}
use Rattle.cp_run.specs.Table.{each}
use Rattle.cp_story.specs.declared.tables.TableRow.{TableRow}

-- its cells, each a text
abbrev pub Row : Type 0
Row = List (List ℕ)

abbrev pub row_seen : TableRow → Row
row_seen r = map string_bytes r.cells.items

unfoldable pub blanks : ℕ → List ℕ
blanks n = replicate n 32

-- ---- widths

abbrev pub width_of : Option (List ℕ) → ℕ
width_of None = 0
width_of (Some c) = length c

-- a column is as wide as its widest cell
abbrev pub width : List Row → (column : ℕ) → ℕ
width [] n = 0
width (r ∷ rs) n = max (width_of (slice_get r n)) (width rs n)

-- of the six columns
abbrev pub widths : List Row → List ℕ
widths rows = at_each (width rows) 6

-- ---- a row

-- what is left of a cell's column, and two blanks; a column with no text takes no room
abbrev pub gap : (width : ℕ) → List ℕ → List ℕ
gap w c = blanks (w - length c) ++ (if w == 0 then [] else codes "  ")

-- A cell's text is written with the blanks before it. Blanks before no text wait for the next cell, so that no line ends with some.
abbrev pub cell_text : (before : List ℕ) → List ℕ → List ℕ
cell_text before c = if length c == 0 then [] else before ++ c

abbrev pub left_before : (before : List ℕ) → List ℕ → List ℕ
left_before before c = if length c == 0 then before else []

-- the cells from a column on
abbrev pub cells_text : (widths : List ℕ) → (column : ℕ) → (before : List ℕ) → Row → List ℕ
cells_text ws n before [] = []
cells_text ws n before (c ∷ cs) = cell_text before c ++ cells_text ws (n + 1) (left_before before c ++ gap (slice_index_or ws n 0) c) cs

abbrev pub row_text : (widths : List ℕ) → Row → List ℕ
row_text ws r = cells_text ws 0 [] r ++ codes "\n"

-- all rows, a line for each; before the row with which a round begins stands a heading
abbrev pub rows_text : (again : Option ℕ) → List Row → List ℕ
rows_text None rows = each (row_text (widths rows)) rows
rows_text (Some first) rows = each (row_text (widths rows)) (take first rows) ++ codes "again and again:\n" ++ each (row_text (widths rows)) (drop first rows)
