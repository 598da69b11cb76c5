use Rattle.cp_machine.specs.Premises.{IsGate}
use Rattle.cp_machine.proofs.PremiseLemmas.{thread_gate}
use Rattle.cp_machine.proofs.end.return_to.Goals as goal

pub returns-in-Some-clause-reserved : goal.returns-in-Some-clause-reserved
returns-in-Some-clause-reserved c = λ r h. c.let_in.ensures.reserved r (c.leave.ensures.reserved r h)

pub let_in-requires : goal.let_in-requires
let_in-requires c =
    let gate : IsGate c.args.state.now c.in-Some.monitor = rw c.in-Some.is at c.requires.gate in
    thread_gate c.args.state.now c.leave.new.state c.args.pid _ c.in-Some.monitor c.leave.ensures.after gate
