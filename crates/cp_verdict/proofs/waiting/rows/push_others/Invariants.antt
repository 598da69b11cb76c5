use Rattle.std.proofs.Common.{◌≡◌, ◌++◌, map, take}
use Rattle.cp_verdict.specs.waiting.Rows.{HaveShortWords, other_row, others_in, row_seen}
use Rattle.cp_verdict.proofs.waiting.rows.push_others.Given as goal

abbrev pub invariant-loop-one : goal.invariant-loop-one
invariant-loop-one l =
    record {
      rows : map row_seen l.rows.items ≡ map row_seen l.initial.rows.items ++ map other_row (others_in (take l.one-index l.seen));
      short : HaveShortWords l.initial.rows.items → HaveShortWords l.rows.items;
    }
