use Rattle.cp_walk.proofs.Words.{◌≡◌, map, take, tallies_of, line_of}
use Rattle.cp_walk.proofs.Grouping.{held}
use Rattle.cp_walk.proofs.groups.group_rows.Given as goal

abbrev pub invariant-loop-row : goal.invariant-loop-row
invariant-loop-row l = map held l.groups.entries ≡ tallies_of (map line_of (take l.row-index l.rows))
