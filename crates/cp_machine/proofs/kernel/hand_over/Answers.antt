use Rattle.cp_machine.proofs.Words.{◌≡◌, ◌∙◌, refl, map-set, machine_of, monitor_at, monitor_of}
use Rattle.cp_machine.proofs.KernelLemmas.{guard_read}
use Rattle.cp_machine.proofs.kernel.hand_over.Goals as goal

pub returns-clause-after : goal.returns-clause-after
returns-clause-after c =
    let read : monitor_at (machine_of c.args.state.now) c.args.monitor ≡ monitor_of c.index_mut-guard.result.now = guard_read _ _ _ c.requires.gate.there c.index_mut-guard.ensures.value in
    c.set_status.ensures.after ∙ rw (map-set, read) refl
