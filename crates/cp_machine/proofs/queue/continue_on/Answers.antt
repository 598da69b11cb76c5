use Rattle.cp_machine.proofs.Words.{◌≡◌, ◌∙◌, ◌<◌, length, subst, ap, sym, component_at, frame_at, machine_of, Frame}
use Rattle.cp_slots.specs.declared.tables.ComponentKind.TheVariants as kind
use Rattle.cp_machine.proofs.PremiseLemmas.{item_component, item_replaces, item_waits}
use Rattle.cp_machine.proofs.queue.continue_on.Goals as goal

pub continue_in-requires : goal.continue_in-requires
continue_in-requires c =
    let r = c.args.program.now in
    let is : (component_at r (frame_at (machine_of c.args.state.now) c.args.pid).component).kind ≡ kind.Monitor c.in-Monitor.monitor = ap (λ (f : Frame). (component_at r f.component).kind) (sym c.frame_of-component.ensures) ∙ ap (λ x. x.kind) (sym c.component.ensures.value) ∙ c.in-Monitor.is in
    item_waits c.requires.taken.1 c.args.cell c.in-Monitor.monitor c.requires.cell is

pub frame_of-component-requires : goal.frame_of-component-requires
frame_of-component-requires c = c.requires.taken.1.within

pub component-requires : goal.component-requires
component-requires c = subst (λ (f : Frame). f.component < length c.args.program.now.components) (sym c.frame_of-component.ensures) (item_component c.requires.taken.1)

pub replace-requires : goal.replace-requires
replace-requires c = item_replaces c.requires.taken.1
