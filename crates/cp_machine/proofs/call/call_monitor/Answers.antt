use Rattle.cp_machine.proofs.Words.{◌∙◌, ap, sym, Kernel, enter_caller, Machine, Stepped, length, length-set}
use Rattle.cp_machine.specs.declared.event.Kernel.TheVariants.{Enter}
use Rattle.cp_machine.proofs.CallOutcomes.{count_within}
use Rattle.cp_machine.proofs.PremiseLemmas.{gate_kept}
use Rattle.cp_machine.proofs.call.call_monitor.Goals as goal

pub returns-clause-reserved : goal.returns-clause-reserved
returns-clause-reserved c = λ r h. c.enter.ensures.reserved r (c.open_call.ensures.reserved r h)

pub returns-clause-after : goal.returns-clause-after
returns-clause-after c =
    let in_kernel : Machine → Stepped = λ n. record { machine = n; event = Kernel Enter } in
    ap in_kernel (sym (c.enter.ensures.after ∙ ap (λ n. enter_caller n c.args.pid c.args.monitor) c.open_call.ensures.after))

pub open_call-requires : goal.open_call-requires
open_call-requires c = c.requires.calls

pub enter-requires : goal.enter-requires
enter-requires c =
    let after = c.open_call.ensures.after in
    let count = ap (λ k. length k.threads) after ∙ length-set _ c.args.pid _ ∙ length-set _ c.args.pid _ in
    record {
      within = count_within c.args.state.now c.open_call.new.state c.args.pid count c.requires.calls.opens.replaces.within;
      gate = gate_kept c.args.state.now c.open_call.new.state c.args.monitor (ap (λ k. k.monitors) after) count c.requires.gate;
    }
