use Rattle.cp_machine.specs.System.{machine_of}
use Rattle.cp_run.proofs.Tracing.{ok_both}
use Rattle.cp_story.specs.Told.{lines_of}
use Rattle.cp_story.specs.Views.{telling_of}
use Rattle.cp_story.proofs.Telling.{step_seen}
use Rattle.cp_story.proofs.story.StorytellerObserve.see_step.Goals as goal

pub returns : goal.returns
returns c =
    let now = c.args.self.now in
    let new = c.push_step.new.self in
    ok_both c.push_step.result _ _ _ c.push_step.ensures.told c.push_step.ensures.lines (λ _ told line before x made h. step_seen c.args.job.now.program.now c.args.job.now.limits.discipline c.args.process before (machine_of c.args.state.now) c.args.event now.aim (telling_of now.observer now.events.items) (telling_of new.observer new.events.items) (lines_of now.events.items) (lines_of new.events.items) x told line h)
