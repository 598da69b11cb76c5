use Rattle.cp_machine.proofs.Words.{◌≡◌, ◌∙◌, ◌≤◌, ◌<◌, arith, ap, length, refl, sym, map-set, Monitor, machine_of, monitor_at, monitor_of}
use Rattle.cp_machine.proofs.KernelLemmas.{guard_read, one_in_few, one_in_many}
use Rattle.cp_machine.proofs.kernel.let_one_in.Goals as goal

pub returns-then-len-gt1-clause-after : goal.returns-then-len-gt1-clause-after
returns-then-len-gt1-clause-after c =
    let read : monitor_at (machine_of c.args.state.now) c.args.monitor ≡ monitor_of c.index_mut-guard.result.now = guard_read _ _ _ c.requires.there c.index_mut-guard.ensures.value in
    let first : monitor_at (machine_of c.args.state.now) c.args.monitor ≡ monitor_of c.index.result.now = guard_read _ _ _ c.requires.there c.index.ensures in
    let long : 1 < length (monitor_at (machine_of c.args.state.now) c.args.monitor).line = omega (arith, ap (λ (m : Monitor). length m.line) first, c.len.ensures.value, c.if-len-gt1.true) in
    rw (one_in_many _ _ _ long, map-set, read) refl

pub returns-else-len-gt1-clause-after : goal.returns-else-len-gt1-clause-after
returns-else-len-gt1-clause-after c =
    let first : monitor_at (machine_of c.args.state.now) c.args.monitor ≡ monitor_of c.index.result.now = guard_read _ _ _ c.requires.there c.index.ensures in
    let short : length (monitor_at (machine_of c.args.state.now) c.args.monitor).line ≤ 1 = omega (arith, ap (λ (m : Monitor). length m.line) first, c.len.ensures.value, c.if-len-gt1.false) in
    c.let_first_in.ensures.after ∙ sym (one_in_few _ _ _ short)
