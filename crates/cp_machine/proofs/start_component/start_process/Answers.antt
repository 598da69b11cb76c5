use Rattle.cp_machine.proofs.Words.{subst, sym, AllFitComponent, machine_of, memory_at, FitsComponent, ap, length, ◌∙◌}
use Rattle.cp_machine.proofs.parameters.NamingLemmas.{replaced_fits}
use Rattle.cp_machine.proofs.CallOutcomes.{set_within}
use Rattle.cp_machine.proofs.start_component.start_process.Goals as goal

pub returns-clause-reserved : goal.returns-clause-reserved
returns-clause-reserved c = λ r h. c.set_status.ensures.reserved r (c.bind_parameters.ensures.reserved r (c.replace.ensures.reserved r h))

pub bind_parameters-requires-clause-fit : goal.bind_parameters-requires-clause-fit
bind_parameters-requires-clause-fit c =
    let n = machine_of c.replace.new.state in
    subst (λ k. AllFitComponent (memory_at n c.args.pid) n.bindings k.base c.args.arguments.now c.replace.new.state.bounds.items) (sym c.component-base.ensures.value)
    (subst (λ bounds. FitsComponent c.args.program.now n c.args.pid c.args.component c.args.arguments.now bounds.items) (sym c.replace.ensures.bounds)
    (replaced_fits c.args.program.now c.args.state.now n c.args.pid c.args.component _ c.args.arguments.now c.args.state.now.bounds.items c.requires.starts.1.opens.replaces.within c.replace.ensures.after c.requires.starts.1.fit))

pub status_of-requires : goal.status_of-requires
status_of-requires c = c.requires.process

pub returns-then-ne-clause-reserved : goal.returns-then-ne-clause-reserved
returns-then-ne-clause-reserved c = λ r h. h

pub component-base-requires : goal.component-base-requires
component-base-requires c = c.requires.starts.1.opens.there

pub bind_parameters-requires-clause-pid : goal.bind_parameters-requires-clause-pid
bind_parameters-requires-clause-pid c = set_within c.args.state.now c.replace.new.state c.args.pid c.args.pid _ (ap (λ k. k.threads) c.replace.ensures.after) c.requires.starts.1.opens.replaces.within

pub bind_parameters-requires-clause-count : goal.bind_parameters-requires-clause-count
bind_parameters-requires-clause-count c = ap (λ b. length b.items) c.replace.ensures.bounds ∙ c.requires.starts.1.count

pub set_status-requires : goal.set_status-requires
set_status-requires c = record { pid = set_within c.replace.new.state c.bind_parameters.new.state c.args.pid c.args.number _ (ap (λ k. k.threads) c.bind_parameters.ensures.after) (set_within c.args.state.now c.replace.new.state c.args.pid c.args.number _ (ap (λ k. k.threads) c.replace.ensures.after) c.requires.process) }

pub replace-requires : goal.replace-requires
replace-requires c = c.requires.starts.1.opens.replaces
