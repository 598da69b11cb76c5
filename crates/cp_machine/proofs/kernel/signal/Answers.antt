use Rattle.cp_machine.proofs.Words.{refl}
use Rattle.cp_machine.proofs.PremiseLemmas.{gate_kept}
use Rattle.cp_machine.proofs.kernel.signal.Goals as goal

pub bring_to_gate-requires-clause-enters : goal.bring_to_gate-requires-clause-enters
bring_to_gate-requires-clause-enters c = record { within = c.requires.enters.within; gate = gate_kept c.args.state.now _ c.args.monitor refl refl c.requires.enters.gate }
