use Rattle.std.proofs.Common.{◌≡◌, map, take}
use Rattle.cp_verdict.specs.Judged.{line_of}
use Rattle.cp_verdict.specs.waiting.Rows.{HaveShortWords, waiting_line}
use Rattle.cp_verdict.proofs.waiting.rows.first_rows.Given as goal

abbrev pub invariant-loop-one : goal.invariant-loop-one
invariant-loop-one l =
    record {
      short : HaveShortWords l.rows.items;
      rows : map waiting_line l.rows.items ≡ map line_of (take l.one-index l.seen);
    }
