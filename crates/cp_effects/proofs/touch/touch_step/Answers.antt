use Rattle.std.proofs.Common.{◌<◌, length, subst, sym}
use Rattle.cp_store.specs.declared.memory.Frame.{Frame}
use Rattle.cp_machine.specs.Machine.{machine_of}
use Rattle.cp_effect_laws.specs.Touches.{HasComponent}
use Rattle.cp_parts.specs.Placed.{places_of}
use Rattle.cp_effects.specs.Touching.{noted_by}
use Rattle.cp_effects.proofs.Touching.{component_there, reaches_own, step_noted}
use Rattle.cp_effects.proofs.touch.touch_step.Goals as goal

pub touch_component-requires-clause-component : goal.touch_component-requires-clause-component
touch_component-requires-clause-component c = subst (λ (f : Frame). f.component < length c.args.program.now.components) (sym c.frame_of-frame.ensures) (component_there c.args.program.now c.args.state.now c.args.pid c.requires.pid c.requires.own)

pub returns-clause-step : goal.returns-clause-step
returns-clause-step c = λ is.
    (let r = c.args.program.now in
    let s = c.args.state.now in
    let l = places_of c.args.table.now in
    let own = c.touch_component.new.touched.places.items in
    step_noted l r (machine_of s) c.args.pid own c.touch_parameters.new.touched.places.items c.touch_end.new.touched.places.items c.touch_top.new.touched.places.items
    c.touch_parameters.ensures.kept c.touch_end.ensures.kept c.touch_top.ensures.kept
    (reaches_own r s c.args.pid c.requires.pid c.requires.own)
    (subst (λ (f : Frame). HasComponent (noted_by l own (machine_of s) c.args.pid) r f.component) c.frame_of-frame.ensures (c.touch_component.ensures.component c.if-not-touch_component.false))
    (c.touch_parameters.ensures.behind c.if-not-touch_parameters.false)
    (c.touch_end.ensures.end c.if-not-touch_end.false)
    (c.touch_top.ensures.top is))
