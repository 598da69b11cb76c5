use Rattle.cp_machine.proofs.Words.{◌≡◌, ◌<◌, ◌∙◌, ap, length, refl, sym, get_or-map, map-set, machine_of, monitor_at, monitor_of, no_monitor}
use Rattle.cp_machine.proofs.admit.admit_process.Goals as goal

pub returns-in-Some-clause-after : goal.returns-in-Some-clause-after
returns-in-Some-clause-after c =
    let within : c.in-Some.monitor < length c.args.state.now.guards.items = rw c.in-Some.is at c.requires.gate in
    let read : monitor_at (machine_of c.args.state.now) c.in-Some.monitor ≡ monitor_of c.index_mut-guard.result.now = get_or-map monitor_of c.args.state.now.guards.items c.in-Some.monitor c.index_mut-guard.result.now no_monitor within ∙ ap monitor_of (sym c.index_mut-guard.ensures.value) in
    c.set_status.ensures.after ∙ rw (map-set, c.take_in.ensures, c.in-Some.is, read) refl
