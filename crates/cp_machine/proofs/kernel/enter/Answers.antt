use Rattle.cp_machine.proofs.Words.{◌≡◌, ◌∙◌, ap, arith, length, refl, map-set, Monitor, machine_of, monitor_at, monitor_of}
use Rattle.cp_machine.proofs.KernelLemmas.{guard_read}
use Rattle.cp_machine.proofs.kernel.enter.Goals as goal

pub push-requires : goal.push-requires
push-requires c =
    let read : monitor_at (machine_of c.args.state.now) c.args.monitor ≡ monitor_of c.index_mut-guard.result.now = guard_read _ _ _ c.requires.gate.there c.index_mut-guard.ensures.value in
    omega (arith, ap (λ (m : Monitor). length m.line) read, c.requires.gate.room)

pub returns-in-None-clause-after : goal.returns-in-None-clause-after
returns-in-None-clause-after c =
    let read : monitor_at (machine_of c.args.state.now) c.args.monitor ≡ monitor_of c.index_mut-guard.result.now = guard_read _ _ _ c.requires.gate.there c.index_mut-guard.ensures.value in
    rw (map-set, read, c.in-None.is, read) refl

pub returns-in-Some-clause-after : goal.returns-in-Some-clause-after
returns-in-Some-clause-after c =
    let read : monitor_at (machine_of c.args.state.now) c.args.monitor ≡ monitor_of c.index_mut-guard.result.now = guard_read _ _ _ c.requires.gate.there c.index_mut-guard.ensures.value in
    c.set_status.ensures.after ∙ rw (map-set, read, c.push.ensures.items, c.in-Some.is, read) refl
