use Rattle.cp_endless_laws.proofs.slots.Ready.{slots_stay_ready}
use Rattle.cp_endless_laws.proofs.laws.law_slots_stay_ready.Goals as goal

pub returns : goal.returns
returns c = slots_stay_ready
