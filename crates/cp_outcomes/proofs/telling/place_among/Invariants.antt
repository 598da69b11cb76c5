use Rattle.std.proofs.Common.{◌≡◌, ◌≤◌, length, map, take}
use Rattle.std.specs.List.{filter}
use Rattle.cp_merged.specs.Code.{tally_of}
use Rattle.cp_outcomes.specs.Told.{is_of}
use Rattle.cp_outcomes.proofs.telling.place_among.Given as goal

abbrev pub invariant-loop-place : goal.invariant-loop-place
invariant-loop-place l = record {
  counted : l.before ≡ length (filter (is_of l.stopped) (map tally_of (take l.place l.tallies)));
  few : l.before ≤ l.index;
}
