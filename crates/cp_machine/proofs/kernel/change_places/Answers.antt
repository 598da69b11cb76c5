use Rattle.cp_machine.proofs.Words.{◌≡◌, ◌∙◌, ap, arith, length, refl, map-set, Machine, Monitor, machine_of, monitor_at, monitor_of, with_status, Ready}
use Rattle.cp_machine.proofs.KernelLemmas.{guard_read}
use Rattle.cp_machine.proofs.kernel.change_places.Goals as goal

pub insert-requires : goal.insert-requires
insert-requires c =
    let read : monitor_at (machine_of c.args.state.now) c.args.monitor ≡ monitor_of c.index_mut-guard.result.now = guard_read _ _ _ c.requires.enters.gate.there c.index_mut-guard.ensures.value in
    (omega arith, (omega arith, omega (arith, ap (λ (m : Monitor). length m.line) read, c.requires.enters.gate.room)))

pub returns-clause-after : goal.returns-clause-after
returns-clause-after c =
    let read : monitor_at (machine_of c.args.state.now) c.args.monitor ≡ monitor_of c.index_mut-guard.result.now = guard_read _ _ _ c.requires.enters.gate.there c.index_mut-guard.ensures.value in
    c.set_status-2.ensures.after ∙ (ap (λ (m : Machine). with_status m c.args.resumed Ready) c.set_status.ensures.after ∙ rw (map-set, read, c.insert.ensures.items) refl)
