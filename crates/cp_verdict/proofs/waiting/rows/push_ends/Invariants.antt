use Rattle.std.proofs.Common.{◌≡◌, ◌++◌, map, take}
use Rattle.cp_verdict.specs.waiting.Rows.{HaveShortWords, end_row, row_seen}
use Rattle.cp_verdict.proofs.waiting.rows.push_ends.Given as goal

abbrev pub invariant-loop-number : goal.invariant-loop-number
invariant-loop-number l =
    record {
      rows : map row_seen l.rows.items ≡ map row_seen l.initial.rows.items ++ map end_row (take l.number l.ends.known.entries);
      short : HaveShortWords l.initial.rows.items → HaveShortWords l.rows.items;
    }
