use Rattle.cp_machine.proofs.Words.{◌≡◌, ◌∙◌, ap, sym, arith, length, vec_len, drop, true, false, length-reverse, above, from_end, is_inner, top_first}
use Rattle.cp_machine.proofs.StackLemmas.{end_on_top, end_below, inner_is_some}
use Rattle.cp_machine.proofs.queue.drop_to_end.Goals as goal

pub loop-stack-preserved : goal.loop-stack-preserved
loop-stack-preserved c =
    let es = top_first c.loop-stack.stack in
    let e : es ≡ above c.top.result (drop 1 es) = rw c.deref.ensures.value at c.top.ensures in
    let inner : is_inner c.top.result ≡ true = sym c.is_inner.ensures ∙ c.loop-stack-test.true in
    record {
      same = ap from_end c.drop_top.ensures.entries ∙ sym (end_below c.top.result es (drop 1 es) e inner) ∙ c.loop-stack.invariant.same;
      room = omega (arith, c.drop_top.ensures.room, c.loop-stack.invariant.room);
    }

pub loop-stack-smaller : goal.loop-stack-smaller
loop-stack-smaller c =
    let es = top_first c.loop-stack.stack in
    let e : es ≡ above c.top.result (drop 1 es) = rw c.deref.ensures.value at c.top.ensures in
    let inner : is_inner c.top.result ≡ true = sym c.is_inner.ensures ∙ c.loop-stack-test.true in
    let some = inner_is_some c.top.result es (drop 1 es) e inner in
    let turned = length-reverse c.loop-stack.stack.items in
    let len : vec_len c.loop-stack.stack ≡ length c.loop-stack.stack.items = c.loop-stack.stack.ok.0 in
    c.drop_top.ensures.fewer (omega (arith, some, turned, len))

pub returns-clause-entries : goal.returns-clause-entries
returns-clause-entries c =
    let es = top_first c.loop-stack.stack in
    let e : es ≡ above c.top.result (drop 1 es) = rw c.deref.ensures.value at c.top.ensures in
    let ends : is_inner c.top.result ≡ false = sym c.is_inner.ensures ∙ c.loop-stack-test.false in
    sym (end_on_top c.top.result es (drop 1 es) e ends) ∙ c.loop-stack.invariant.same
