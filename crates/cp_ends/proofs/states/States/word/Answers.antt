use Rattle.std.proofs.Common.{◌∙◌, ℕ, suc, sym, subst, arith}
use Rattle.cp_ends.specs.Holds.{origin_at}
use Rattle.cp_ends.proofs.Unwinding.{ReadsAll, reads_start, reads_more, reads_done, reads_most}
use Rattle.cp_ends.proofs.states.States.word.Goals as goal
use Rattle.cp_ends.proofs.states.States.word.Goals.{else-loop-test, then-loop-test+in_default}

pub loop-init : goal.loop-init
loop-init c = reads_start c.args.self.now c.args.origin c.new-word.result.items c.new-word.ensures.items

pub loop-preserved : goal.loop-preserved
loop-preserved c =
    let kept = c.args.self.now in
    let o = c.args.origin in
    let on = reads_more kept o c.in-Choice.state c.in-Choice.number c.loop.word.items c.loop.counter (subst (λ from. ReadsAll kept o from c.loop.word.items c.loop.counter) c.in-Choice.is c.loop.invariant) in
    let read = subst (λ l. ReadsAll kept o (origin_at kept.known.entries c.in-Choice.state) l (suc c.loop.counter)) (sym c.in_ok-push.ensures.items) on in
    let from = subst (λ k. ReadsAll kept o k c.push.new.self.items (suc c.loop.counter)) (sym c.origin-from.ensures) read in
    subst (λ (n : ℕ). ReadsAll kept o c.origin-from.result c.push.new.self.items n) (omega arith) from

pub returns : goal.returns
returns c = λ r states word h is.
    (let kept = c.args.self.now in
    let o = c.args.origin in
    c.reverse.ensures.items ∙ elim c.loop-test.branch [
      | else-loop-test w ↦ reads_most kept o c.loop.from c.loop.word.items c.loop.counter (omega (arith, w.loop-test.false, c.len-end.ensures.len)) c.loop.invariant r states word h is
      | then-loop-test+in_default w ↦ reads_done kept o c.loop.word.items c.loop.counter (subst (λ from. ReadsAll kept o from c.loop.word.items c.loop.counter) w.in_default.is c.loop.invariant) r states word h is
    ])
