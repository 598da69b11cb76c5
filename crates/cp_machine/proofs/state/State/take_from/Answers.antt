use Rattle.cp_machine.proofs.LocalSteps.{own_same}
use Rattle.cp_machine.proofs.state.State.take_from.Goals as goal

pub returns-clause-own : goal.returns-clause-own
returns-clause-own c = λ r mine theirs. own_same r c.args.other.now c.take_state.new.to theirs c.take_state.ensures.same (c.take_state.ensures.reserved r mine.reserved theirs.reserved)
