use Rattle.std.proofs.Common.{◌≡◌, ◌∙◌, sym}
use Rattle.std.specs.Prelude.{position}
use Rattle.cp_machine.specs.declared.process.ProcessState.{ProcessState}
use Rattle.cp_machine.specs.Machine.{is_delayed_at, thread_of}
use Rattle.cp_machine.proofs.KernelLemmas.{position_map}
use Rattle.cp_story.proofs.aim.waiter_of.Goals as goal

pub returns-in-None : goal.returns-in-None
returns-in-None c =
    let place : c.place_in_queue.result ≡ position (λ (p : ProcessState). is_delayed_at c.args.cell p.status) c.args.state.now.processes.items = rw c.deref.ensures.value at c.place_in_queue.ensures.place in
    sym c.in-None.is ∙ place ∙ sym (position_map thread_of (λ t. is_delayed_at c.args.cell t.status) c.args.state.now.processes.items)

pub returns-in-Some : goal.returns-in-Some
returns-in-Some c =
    let place : c.place_in_queue.result ≡ position (λ (p : ProcessState). is_delayed_at c.args.cell p.status) c.args.state.now.processes.items = rw c.deref.ensures.value at c.place_in_queue.ensures.place in
    sym c.in-Some.is ∙ place ∙ sym (position_map thread_of (λ t. is_delayed_at c.args.cell t.status) c.args.state.now.processes.items)
