use Rattle.cp_waits.proofs.Words.{◌∙◌, arith, length, silent_slots, in_call_on_slots, waits_on_slots}
use Rattle.cp_waits.proofs.Insides.{below_only}
use Rattle.cp_waits.proofs.Seeing.{seen_due}
use Rattle.cp_waits.proofs.passing.PassingSetsSight.due.Goals as goal

pub returns : goal.returns
returns c = λ r discipline m look.
    (let n = length r.processes in
    let few = look.few in
    seen_due (silent_slots r discipline) in_call_on_slots waits_on_slots m _
    (λ q lt. look.wait q (omega (arith, lt, few)) ∙ below_only n q (waits_on_slots m q) lt)
    (λ q lt. look.wait_once q (omega (arith, lt, few)) ∙ below_only n q (waits_on_slots m q) lt)
    (λ q lt. look.stay q (omega (arith, lt, few)) ∙ below_only n q (in_call_on_slots m q) lt)
    (λ q lt. look.step q (omega (arith, lt, few)))
    (λ q lt. c.nobody.ensures q))
