use Rattle.cp_machine.proofs.CallerLemmas.{ready_within}
use Rattle.cp_effects.proofs.leg.watch_step.Goals as goal

pub touch_step-requires-clause-pid : goal.touch_step-requires-clause-pid
touch_step-requires-clause-pid c = ready_within c.args.state.now c.args.pid c.requires.ready

pub returns-clause-step : goal.returns-clause-step
returns-clause-step c = record { touches = c.touch_step.ensures.step c.if-not-touch_step.false; step = c.step.ensures.after }
