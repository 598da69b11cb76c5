use Rattle.cp_machine.proofs.Words.{◌≡◌, ◌∙◌, sym, ProcessState, is_delayed_at, thread_of, position}
use Rattle.cp_machine.proofs.KernelLemmas.{position_map}
use Rattle.cp_machine.proofs.kernel.waiter_of.Goals as goal

pub returns-in-None-clause-waiter : goal.returns-in-None-clause-waiter
returns-in-None-clause-waiter c =
    let place : c.place_in_queue.result ≡ position (λ (p : ProcessState). is_delayed_at c.args.cell p.status) c.args.state.now.processes.items = rw c.deref.ensures.value at c.place_in_queue.ensures.place in
    sym c.in-None.is ∙ place ∙ sym (position_map thread_of (λ t. is_delayed_at c.args.cell t.status) c.args.state.now.processes.items)

pub returns-in-Some-clause-waiter : goal.returns-in-Some-clause-waiter
returns-in-Some-clause-waiter c =
    let place : c.place_in_queue.result ≡ position (λ (p : ProcessState). is_delayed_at c.args.cell p.status) c.args.state.now.processes.items = rw c.deref.ensures.value at c.place_in_queue.ensures.place in
    sym c.in-Some.is ∙ place ∙ sym (position_map thread_of (λ t. is_delayed_at c.args.cell t.status) c.args.state.now.processes.items)
