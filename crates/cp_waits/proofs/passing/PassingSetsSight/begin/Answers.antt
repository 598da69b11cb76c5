use Rattle.cp_waits.proofs.Words.{◌≡◌, ◌<◌, true, length, silent_slots, in_call_on_slots, waits_on_slots, has, ℕ}
use Rattle.cp_waits.proofs.Insides.{everybody_is}
use Rattle.cp_waits.proofs.Seeing.{are_all, are_none, seen_nothing}
use Rattle.cp_waits.proofs.passing.PassingSetsSight.begin.Goals as goal

pub returns : goal.returns
returns c = λ discipline.
    (let r = c.args.program.now in
    let quiet = silent_slots r discipline in
    let none = c.of_nobody.ensures in
    let all : (q : ℕ) → q < length r.processes → has c.below-everybody.result q ≡ true = λ q lt. everybody_is c.below-everybody.result c.processes.result q (length r.processes) c.processes.ensures.value c.processes.ensures.sound.few c.below-everybody.ensures lt in
    seen_nothing quiet in_call_on_slots waits_on_slots _
    (are_all quiet.processes _ all)
    (are_none quiet.processes _ (λ q lt. none.wait_once q))
    (are_all quiet.processes _ all)
    (are_none quiet.processes _ (λ q lt. none.step q))
    (are_none quiet.processes _ (λ q lt. none.served q)))
