use Rattle.std.proofs.Common.{arith}
use Rattle.cp_refusal.proofs.Shown.{plain_front}
use Rattle.cp_refusal.proofs.characters.length.Goals as goal

pub loop-at-preserved : goal.loop-at-preserved
loop-at-preserved c = λ all.
    let so_far = c.loop-at.invariant all in
    let first = plain_front c.args.bytes.now c.loop-at.at c.front_of.result.shown c.front_of.result.len c.loop-at-test.true c.front_of.ensures all in
    (omega (arith, first.1), omega (arith, so_far.1))

pub loop-at-preserved-then-left-gt0 : goal.loop-at-preserved-then-left-gt0
loop-at-preserved-then-left-gt0 c = λ all. let so_far = c.loop-at.invariant all in absurd (omega (arith, so_far.0))
