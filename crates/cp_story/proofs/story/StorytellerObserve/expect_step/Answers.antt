use Rattle.std.proofs.Common.{◌∙◌, List, ap}
use Rattle.cp_machine.specs.System.{machine_of}
use Rattle.cp_run.specs.declared.line.TraceLine.{TraceLine}
use Rattle.cp_story.specs.Story.{Telling, expecting}
use Rattle.cp_story.proofs.Telling.{step_expected}
use Rattle.cp_story.proofs.story.StorytellerObserve.expect_step.Goals as goal

pub returns : goal.returns
returns c = λ x seen.
    (let now = c.args.self.now in
    let aim = c.aim_of-aim.result in
    let s = machine_of c.args.state.now in
    let p = c.args.process in
    let told = step_expected now.observer c.expect.new.self now.events.items aim s p c.in_ok-expect.ensures.seen in
    (c.aim_of-aim.ensures, told ∙ ap (λ (y : Telling × List TraceLine). expecting aim s p y.0) seen, ap (λ (y : Telling × List TraceLine). y.1) seen))
