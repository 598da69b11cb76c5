use Rattle.cp_machine.proofs.Words.{subst, sym, AllFitComponent, machine_of, memory_at, FitsComponent, ◌<◌, length, Machine, open_frame, is_uninitialised, phase_at}
use Rattle.cp_machine.proofs.Words.{thread_at, under, with_phase, parameters_bound, rest_of, local, InitEnd, Initialising, component_at, Frame, ap, false, true, ◌∙◌, ◌≡◌}
use Rattle.cp_machine.proofs.parameters.NamingLemmas.{begun_fits}
use Rattle.cp_machine.proofs.CallOutcomes.{begins_if, not_false, not_true, set_within, uninitialised_is}
use Rattle.cp_machine.proofs.start_component.start_inside.Goals as goal

pub returns-clause-reserved : goal.returns-clause-reserved
returns-clause-reserved c = λ r h. c.set_phase.ensures.reserved r (c.bind_parameters.ensures.reserved r (c.open.ensures.reserved r h))

pub bind_parameters-requires-clause-fit : goal.bind_parameters-requires-clause-fit
bind_parameters-requires-clause-fit c =
    let n = machine_of c.open.new.state in
    subst (λ k. AllFitComponent (memory_at n c.args.pid) n.bindings k.base c.args.arguments.now c.open.new.state.bounds.items) (sym c.component-base.ensures.value)
    (subst (λ bounds. FitsComponent c.args.program.now n c.args.pid c.args.component c.args.arguments.now bounds.items) (sym c.open.ensures.bounds)
    (begun_fits c.args.program.now c.args.state.now n c.args.pid c.args.routine c.args.component _ _ c.args.arguments.now c.args.state.now.bounds.items c.requires.opens.replaces.within c.open.ensures.after c.requires.fit))

pub set_phase-requires : goal.set_phase-requires
set_phase-requires c =
    let P : Machine → Type 0 = λ m. c.args.component < length m.phases in
    record { known = subst P (sym c.bind_parameters.ensures.after) (subst P (sym c.open.ensures.after) c.requires.opens.known) }

pub phase_of-requires : goal.phase_of-requires
phase_of-requires c = c.requires.opens.known

pub returns-then-ne-clause-after : goal.returns-then-ne-clause-after
returns-then-ne-clause-after c =
    let m = machine_of c.args.state.now in
    let test : is_uninitialised (phase_at m c.args.component) ≡ false = ap is_uninitialised (sym c.phase_of.ensures) ∙ sym (uninitialised_is c.phase_of.result) ∙ not_true _ (sym c.ne.ensures ∙ c.if-ne.true) in
    begins_if c.args.program.now m c.args.pid c.args.item.now.line c.args.routine c.args.component c.args.arguments.now c.args.state.now.bounds.items (rest_of c.args.item.now.next (under m c.args.pid)) false test

pub returns-then-ne-clause-reserved : goal.returns-then-ne-clause-reserved
returns-then-ne-clause-reserved c = λ r h. h

pub frame_of-requires : goal.frame_of-requires
frame_of-requires c = c.requires.opens.replaces.within

pub component-base-requires : goal.component-base-requires
component-base-requires c = c.requires.opens.there

pub bind_parameters-requires-clause-pid : goal.bind_parameters-requires-clause-pid
bind_parameters-requires-clause-pid c = set_within c.args.state.now c.open.new.state c.args.pid c.args.pid _ (ap (λ k. k.threads) c.open.ensures.after) c.requires.opens.replaces.within

pub bind_parameters-requires-clause-count : goal.bind_parameters-requires-clause-count
bind_parameters-requires-clause-count c = ap (λ b. length b.items) c.open.ensures.bounds ∙ c.requires.count

pub returns-clause-after : goal.returns-clause-after
returns-clause-after c =
    let m = machine_of c.args.state.now in
    let r = c.args.program.now in
    let opening = λ (f : Frame). open_frame r m c.args.pid c.args.routine c.args.component (InitEnd f c.args.component) (rest_of c.args.item.now.next (under m c.args.pid)) in
    let frame = (thread_at m.threads c.args.pid).frame in
    let given = c.args.arguments.now in
    let bounds = c.open.new.state.bounds.items in
    let base = c.component-base.result.base in
    let begun = λ (n : Machine). with_phase n c.args.component Initialising in
    let test : is_uninitialised (phase_at m c.args.component) ≡ true = ap is_uninitialised (sym c.phase_of.ensures) ∙ sym (uninitialised_is c.phase_of.result) ∙ not_false _ (sym c.ne.ensures ∙ c.if-ne.false) in
    let bound = c.bind_parameters.ensures.after ∙ ap (λ n. parameters_bound n c.args.pid base given bounds) c.open.ensures.after ∙ ap (λ f. parameters_bound (opening f) c.args.pid base given bounds) c.frame_of.ensures ∙ ap (λ k. parameters_bound (opening frame) c.args.pid k.base given bounds) c.component-base.ensures.value ∙ ap (λ b. parameters_bound (opening frame) c.args.pid (component_at r c.args.component).base given b.items) c.open.ensures.bounds in
    begins_if c.args.program.now m c.args.pid c.args.item.now.line c.args.routine c.args.component c.args.arguments.now c.args.state.now.bounds.items (rest_of c.args.item.now.next (under m c.args.pid)) true test ∙ ap local (sym (c.set_phase.ensures.after ∙ ap begun bound))

pub open-requires : goal.open-requires
open-requires c = c.requires.opens
