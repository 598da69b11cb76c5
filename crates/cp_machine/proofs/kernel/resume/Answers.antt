use Rattle.cp_machine.proofs.Words.{refl, ◌<◌, length}
use Rattle.cp_machine.proofs.PremiseLemmas.{gate_kept}
use Rattle.cp_machine.proofs.kernel.resume.Goals as goal

pub let_in-requires : goal.let_in-requires
let_in-requires c = gate_kept c.args.state.now _ c.args.monitor refl refl c.requires.gate

pub hand_over-requires : goal.hand_over-requires
hand_over-requires c =
    let within : c.in-Some.pid < length c.args.state.now.processes.items = rw c.in-Some.is at c.waiter_of-waiter.ensures.within in
    record { within = within; gate = gate_kept c.args.state.now _ c.args.monitor refl refl c.requires.gate }
