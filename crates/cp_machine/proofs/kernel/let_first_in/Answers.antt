use Rattle.cp_machine.proofs.Words.{◌≡◌, ◌∙◌, ◌<◌, arith, length, refl, subst, length-map, map-set, Monitor, machine_of, monitor_at, monitor_of, thread_of, IsFirstKnown}
use Rattle.cp_machine.proofs.KernelLemmas.{guard_read}
use Rattle.cp_machine.proofs.kernel.let_first_in.Goals as goal

pub returns-in-Some-clause-after : goal.returns-in-Some-clause-after
returns-in-Some-clause-after c =
    let read : monitor_at (machine_of c.args.state.now) c.args.monitor ≡ monitor_of c.index_mut-guard.result.now = guard_read _ _ _ c.requires.there c.index_mut-guard.ensures.value in
    c.set_status.ensures.after ∙ rw (map-set, read, c.in-Some.ensures.first, c.take_first.ensures.holder, c.in-Some.is) refl

pub returns-in_default-clause-after : goal.returns-in_default-clause-after
returns-in_default-clause-after c =
    let read : monitor_at (machine_of c.args.state.now) c.args.monitor ≡ monitor_of c.index_mut-guard.result.now = guard_read _ _ _ c.requires.there c.index_mut-guard.ensures.value in
    rw (map-set, read, c.take_first.ensures.holder, c.in_default.is, c.in_default.ensures.same, c.in_default.ensures.empty) refl

pub set_status-requires : goal.set_status-requires
set_status-requires c =
    let m = machine_of c.args.state.now in
    let read : monitor_at m c.args.monitor ≡ monitor_of c.index_mut-guard.result.now = guard_read _ _ _ c.requires.there c.index_mut-guard.ensures.value in
    let known : IsFirstKnown (length m.threads) (monitor_of c.index_mut-guard.result.now).line = subst (λ (x : Monitor). IsFirstKnown (length m.threads) x.line) read (c.requires.first) in
    let first : c.in-Some.pid < length m.threads = subst (IsFirstKnown (length m.threads)) c.in-Some.ensures.first known in
    omega (arith, first, length-map c.args.state.now.processes.items thread_of)
