use Rattle.std.proofs.Common.{◌≡◌, ◌∙◌, ◌∷◌, Some, ap, arith, drop}
use Rattle.cp_machine.specs.declared.process.Entry.TheVariants.{InitEnd}
use Rattle.cp_machine.specs.Machine.{machine_of, thread_at}
use Rattle.cp_machine.specs.Stack.{above, from_end}
use Rattle.cp_effects.proofs.Touching.{end_component}
use Rattle.cp_effects.proofs.touch.touch_end.Goals as goal

pub of_component-requires : goal.of_component-requires
of_component-requires c =
    let s = c.args.state.now in
    let es = from_end (thread_at (machine_of s).threads c.args.pid).stack in
    let arm = c.in-Some-InitEnd in
    let is : es ≡ InitEnd arm.field-0-0 arm.component ∷ drop 1 es = c.end_of.ensures ∙ ap (λ x. above x (drop 1 es)) (arm.is ∙ ap Some arm.field-0-is) in
    let there = end_component c.requires.own.0 s c.args.pid c.requires.pid c.requires.own.1 arm.field-0-0 arm.component (drop 1 es) is in
    omega (arith, there, c.requires.own.2.components)
