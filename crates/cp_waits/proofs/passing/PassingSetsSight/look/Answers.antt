use Rattle.cp_waits.proofs.Words.{◌≡◌, ◌∙◌, arith, in_call_on_slots, is_ready, length, not, subst, waits_on_slots}
use Rattle.cp_waits.proofs.Insides.{below_none}
use Rattle.cp_waits.specs.Passings.{IsLook}
use Rattle.cp_waits.proofs.passing.PassingSetsSight.look.Goals as goal

pub loop-pid-init : goal.loop-pid-init
loop-pid-init g c = λ r m look.
    (let none = c.of_nobody-seen.ensures in
    record {
      few = omega arith;
      wait = λ q lt. none.wait q ∙ below_none q (waits_on_slots m q);
      wait_once = λ q lt. none.wait_once q ∙ below_none q (waits_on_slots m q);
      stay = λ q lt. none.stay q ∙ below_none q (in_call_on_slots m q);
      step = λ q lt. none.step q;
      served = λ q lt. none.served q ∙ below_none q (not (is_ready m q));
    })

pub loop-pid-preserved : goal.loop-pid-preserved
loop-pid-preserved g c = λ r m look. (let count = c.processes-pid-end.ensures.count r m look in c.with_process-seen.ensures r m look (omega (arith, count, c.loop-pid-test.true)) (c.loop-pid.invariant r m look))

pub returns : goal.returns
returns g c = λ r m look. (let count = c.processes-pid-end.ensures.count r m look in let at : c.loop-pid.pid ≡ length r.processes = omega (arith, count) in subst (λ n. IsLook n m c.loop-pid.seen) at (c.loop-pid.invariant r m look))
