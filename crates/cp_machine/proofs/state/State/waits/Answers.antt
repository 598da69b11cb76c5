use Rattle.std.proofs.Common.{sym, ◌∙◌}
use Rattle.cp_machine.specs.Machine.{is_waiting, thread_of}
use Rattle.cp_machine.proofs.ListLemmas.{list_any_map}
use Rattle.cp_machine.proofs.state.State.waits.Goals as goal

pub returns : goal.returns
returns c = rw c.deref.ensures.value at c.any_waits.ensures ∙ sym (list_any_map thread_of (λ t. is_waiting t.status) c.args.self.now.processes.items)
