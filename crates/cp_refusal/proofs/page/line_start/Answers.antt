use Rattle.std.proofs.Common.{arith}
use Rattle.cp_refusal.proofs.Lines.{begins_after, line_more, line_same, start_at_end, start_found}
use Rattle.cp_refusal.proofs.page.line_start.Goals as goal
use Rattle.cp_refusal.proofs.page.line_start.Goals.{then-byte-eq10, else-byte-eq10}

pub loop-place-preserved : goal.loop-place-preserved
loop-place-preserved c =
    let s = c.args.source.now in
    let at = c.loop-place.place in
    let n = c.loop-place.line in
    let m = c.if-byte-eq10.line in
    elim c.if-byte-eq10.branch [
      | then-byte-eq10 w ↦ (line_more s at n m c.loop-place-test.true w.if-byte-eq10.true c.loop-place.invariant.0 (omega arith), (λ low. omega arith), (λ _. begins_after s at w.if-byte-eq10.true))
      | else-byte-eq10 w ↦ (line_same s at n m c.loop-place-test.true w.if-byte-eq10.false c.loop-place.invariant.0 (omega arith), (λ low. omega arith), (λ high. absurd (omega arith)))
    ]

pub returns-then-line-number : goal.returns-then-line-number
returns-then-line-number c = start_found c.args.source.now c.args.number c.loop-place.line c.loop-place.place (omega arith) c.loop-place.invariant.0 c.loop-place.invariant.1 c.loop-place.invariant.2 c.if-line-number.true

pub returns : goal.returns
returns c = start_at_end c.args.source.now c.args.number c.loop-place.line c.loop-place.place (omega arith) c.loop-place.invariant.0 c.loop-place.invariant.1 c.loop-place.invariant.2
