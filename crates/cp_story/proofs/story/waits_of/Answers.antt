use Rattle.cp_machine.specs.System.{machine_of}
use Rattle.cp_story.specs.Views.{past_of}
use Rattle.cp_story.specs.Waiting.{waiting_at, waits_at}
use Rattle.cp_story.proofs.Waits.{seen_more}
use Rattle.cp_story.proofs.story.waits_of.Goals as goal

pub loop-process-preserved : goal.loop-process-preserved
loop-process-preserved c = seen_more (waiting_at c.args.program.now (machine_of c.args.state.now) (past_of c.args.observer.now).calls) (waits_at (machine_of c.args.state.now)) c.loop-process.process _ _ c.loop-process.invariant c.in_ok-push_wait.ensures
