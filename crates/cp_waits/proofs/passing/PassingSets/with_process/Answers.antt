use Rattle.cp_waits.proofs.Words.{ap, arith, has, in_call_on_slots, is_ready, not, refl, sym, waits_on_slots}
use Rattle.cp_waits.proofs.Insides.{those_more}
use Rattle.cp_waits.proofs.passing.PassingSets.with_process.Goals as goal

pub returns : goal.returns
returns g c = λ r m look lt at.
    (let pid = c.args.pid in
    let self = c.args.self in
    record {
      few = omega (arith, c.requires.few);
      wait = those_more (has self.wait) _ (waits_on_slots m) pid _ _ refl (sym (c.waits-waits.ensures r m look)) at.wait (λ q le. c.with_if.ensures q le);
      wait_once = those_more (has self.wait_once) _ (waits_on_slots m) pid _ _ refl (sym (c.waits-waits.ensures r m look)) at.wait_once (λ q le. c.with_if-2.ensures q le);
      stay = those_more (has self.stay) _ (in_call_on_slots m) pid _ _ refl (sym (c.is_inside.ensures r m look)) at.stay (λ q le. c.with_if-3.ensures q le);
      step = at.step;
      served = those_more (has self.served) _ (λ q. not (is_ready m q)) pid _ _ refl (ap not (sym (c.is_ready.ensures r m look))) at.served (λ q le. c.with_if-4.ensures q le);
    })
