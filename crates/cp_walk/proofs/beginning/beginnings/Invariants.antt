use Rattle.std.proofs.Common.{◌≡◌, ◌≤◌, ◌+◌, ◌*◌, length, take}
use Rattle.cp_walk.specs.Beginnings.{words_of_rows}
use Rattle.cp_walk.proofs.Counted.{added, last_of}
use Rattle.cp_walk.proofs.beginning.beginnings.Given as goal

abbrev pub invariant-loop-row : goal.invariant-loop-row
invariant-loop-row l =
    record {
      last : l.last ≡ last_of l.initial.last (words_of_rows (take l.row-index l.rest));
      count : l.count ≡ 1 + length l.initial.last + added l.initial.last (words_of_rows (take l.row-index l.rest));
      few : l.count ≤ 21 + 20 * l.row-index;
    }
