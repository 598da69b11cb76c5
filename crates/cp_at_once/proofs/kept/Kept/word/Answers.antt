use Rattle.std.proofs.Common.{◌∙◌, ◌++◌, suc, reverse, sym, ap, subst, arith}
use Rattle.cp_at_once.proofs.Unwinding.{ReadsAll, reads_done, reads_more, reads_most, reads_start}
use Rattle.cp_at_once.proofs.kept.Kept.word.Goals as goal
use Rattle.cp_at_once.proofs.kept.Kept.word.Goals.{else-loop-test, then-loop-test+in_default}

pub loop-init : goal.loop-init
loop-init c = reads_start c.args.self.now.known.entries c.args.origin.now c.push_backwards.new.word.items (c.in_ok-push_backwards.ensures ∙ ap (λ l. l ++ reverse c.as_slice.result.now) c.new-word.ensures.items ∙ ap reverse c.as_slice.ensures.value)

pub loop-preserved : goal.loop-preserved
loop-preserved c =
    let es = c.args.self.now.known.entries in
    let o = c.args.origin.now in
    let on = reads_more es o c.in-Some.state c.loop.word.items c.push_origin.new.word.items c.loop.counter (subst (λ from. ReadsAll es o from c.loop.word.items c.loop.counter) c.in-Some.is c.loop.invariant) c.in_ok-from.ensures.word in
    let from = subst (λ k. ReadsAll es o k c.push_origin.new.word.items (suc c.loop.counter)) (sym c.in_ok-from.ensures.from) on in
    subst (λ n. ReadsAll es o c.in_ok-from.from c.push_origin.new.word.items n) (omega arith) from

pub returns : goal.returns
returns c = λ r states word h is.
    (let es = c.args.self.now.known.entries in
    let o = c.args.origin.now in
    c.reverse.ensures.items ∙ elim c.loop-test.branch [
      | else-loop-test w ↦ reads_most es o c.loop.from c.loop.word.items c.loop.counter (omega (arith, w.loop-test.false, c.len-end.ensures.len)) c.loop.invariant r states word h is
      | then-loop-test+in_default w ↦ reads_done es o c.loop.word.items c.loop.counter (subst (λ from. ReadsAll es o from c.loop.word.items c.loop.counter) w.in_default.is c.loop.invariant) r states word h is
    ])
