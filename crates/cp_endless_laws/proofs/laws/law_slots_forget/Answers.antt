use Rattle.cp_endless_laws.proofs.slots.Output.{slots_forget}
use Rattle.cp_endless_laws.proofs.laws.law_slots_forget.Goals as goal

pub returns : goal.returns
returns c = slots_forget
