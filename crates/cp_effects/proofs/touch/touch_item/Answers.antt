use Rattle.cp_machine.proofs.parameters.NamingLemmas.{taken_call, taken_start}
use Rattle.cp_machine.specs.Fits.{IsTaken}
use Rattle.cp_effects.proofs.touch.touch_item.Goals as goal

pub touch_target-requires-clause-owner : goal.touch_target-requires-clause-owner
touch_target-requires-clause-owner c =
    let arm = c.in-Call in
    let taken : IsTaken c.args.program.now c.args.state.now c.args.pid c.args.at c.item.result.now = record { own = c.requires.own; within = c.requires.pid; ready = c.requires.ready; same = c.item.ensures.value; top = c.requires.top } in
    (arm.routine, (taken_call c.args.program.now c.args.state.now c.args.pid c.args.at c.item.result.now taken arm.routine arm.component arm.is_entry arm.arguments arm.result arm.is).component)

pub touch_target-requires-in-Start-clause-owner : goal.touch_target-requires-in-Start-clause-owner
touch_target-requires-in-Start-clause-owner c =
    let arm = c.in-Start in
    let taken : IsTaken c.args.program.now c.args.state.now c.args.pid c.args.at c.item.result.now = record { own = c.requires.own; within = c.requires.pid; ready = c.requires.ready; same = c.item.ensures.value; top = c.requires.top } in
    (arm.routine, (taken_start c.args.program.now c.args.state.now c.args.pid c.args.at c.item.result.now taken arm.component arm.routine arm.arguments arm.is).component)
