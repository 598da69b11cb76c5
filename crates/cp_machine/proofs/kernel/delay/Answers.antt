use Rattle.cp_machine.proofs.Words.{◌∙◌, ap, length, length-set}
use Rattle.cp_machine.proofs.PremiseLemmas.{gate_kept}
use Rattle.cp_machine.proofs.kernel.delay.Goals as goal

pub let_in-requires : goal.let_in-requires
let_in-requires c = gate_kept c.args.state.now c.set_status.new.state c.args.monitor (ap (λ k. k.monitors) c.set_status.ensures.after) (ap (λ k. length k.threads) c.set_status.ensures.after ∙ length-set _ c.args.pid _) c.requires.enters.gate
