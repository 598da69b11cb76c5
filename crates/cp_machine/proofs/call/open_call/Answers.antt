use Rattle.cp_machine.proofs.Words.{subst, sym, machine_of, open_frame, thread_at, under, rest_of, Return, Frame, ap, length, ◌∙◌, FitsOwn}
use Rattle.cp_machine.proofs.parameters.NamingLemmas.{opened_fits}
use Rattle.cp_machine.proofs.CallOutcomes.{set_within}
use Rattle.cp_machine.specs.Memory.{frame_bound}
use Rattle.cp_machine.proofs.call.open_call.Goals as goal

pub returns-clause-reserved : goal.returns-clause-reserved
returns-clause-reserved c = λ r h. c.bind_arguments.ensures.reserved r (c.open.ensures.reserved r h)

pub bind_arguments-requires-clause-fit : goal.bind_arguments-requires-clause-fit
bind_arguments-requires-clause-fit c =
    subst (λ bounds. FitsOwn (machine_of c.open.new.state) c.args.pid c.args.arguments.now bounds.items) (sym c.open.ensures.bounds)
    (opened_fits c.args.program.now c.args.state.now _ c.args.pid c.args.callee.routine c.args.component _ _ c.args.arguments.now c.args.state.now.bounds.items c.requires.opens.replaces.within c.open.ensures.after c.requires.fit)

pub frame_of-requires : goal.frame_of-requires
frame_of-requires c = c.requires.opens.replaces.within

pub bind_arguments-requires-clause-pid : goal.bind_arguments-requires-clause-pid
bind_arguments-requires-clause-pid c = set_within c.args.state.now c.open.new.state c.args.pid c.args.pid _ (ap (λ k. k.threads) c.open.ensures.after) c.requires.opens.replaces.within

pub bind_arguments-requires-clause-count : goal.bind_arguments-requires-clause-count
bind_arguments-requires-clause-count c = ap (λ b. length b.items) c.open.ensures.bounds ∙ c.requires.count

pub returns-clause-after : goal.returns-clause-after
returns-clause-after c =
    let m = machine_of c.args.state.now in
    let opening = (λ (f : Frame). open_frame c.args.program.now m c.args.pid c.args.callee.routine c.args.component (Return f c.args.callee.result c.args.monitor) (rest_of c.args.item.now.next (under m c.args.pid))) in
    let given = c.args.arguments.now in
    let bounds = c.open.new.state.bounds.items in
    c.bind_arguments.ensures.after ∙ ap (λ n. frame_bound n c.args.pid given bounds) c.open.ensures.after ∙ ap (λ f. frame_bound (opening f) c.args.pid given bounds) c.frame_of.ensures ∙ ap (λ b. frame_bound (opening (thread_at m.threads c.args.pid).frame) c.args.pid given b.items) c.open.ensures.bounds

pub open-requires : goal.open-requires
open-requires c = c.requires.opens
