use Rattle.std.proofs.Common.{take, arith}
use Rattle.cp_refusal.proofs.Lines.{line_more, line_same, line_of_front}
use Rattle.cp_refusal.proofs.page.line_number.Goals as goal
use Rattle.cp_refusal.proofs.page.line_number.Goals.{then-byte-eq10, else-byte-eq10}

pub loop-byte-preserved : goal.loop-byte-preserved
loop-byte-preserved c =
    let items = take c.min.result c.args.source.now in
    let at = c.loop-byte.byte-index in
    elim c.if-byte-eq10.branch [
      | then-byte-eq10 w ↦ line_more items at c.loop-byte.number c.if-byte-eq10.number c.loop-byte-test.true w.if-byte-eq10.true c.loop-byte.invariant (omega arith)
      | else-byte-eq10 w ↦ line_same items at c.loop-byte.number c.if-byte-eq10.number c.loop-byte-test.true w.if-byte-eq10.false c.loop-byte.invariant (omega arith)
    ]

pub returns : goal.returns
returns c = line_of_front c.args.source.now c.args.at c.loop-byte.byte-index c.min.result c.loop-byte.number c.min.ensures c.loop-byte-test.false c.loop-byte.invariant
