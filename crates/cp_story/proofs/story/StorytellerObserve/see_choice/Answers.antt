use Rattle.std.proofs.Common.{◌∙◌, List, ap}
use Rattle.cp_machine.specs.System.{machine_of}
use Rattle.cp_run.specs.declared.line.TraceLine.{TraceLine}
use Rattle.cp_run.specs.Fold.{beside}
use Rattle.cp_run.specs.Slots.{slots}
use Rattle.cp_run.specs.Trace.{tracer}
use Rattle.cp_story.specs.Story.{Decision, Telling, choice_taken, teller}
use Rattle.cp_story.specs.Told.{lines_of}
use Rattle.cp_story.specs.Views.{telling_of}
use Rattle.cp_story.proofs.story.StorytellerObserve.see_choice.Goals as goal

pub returns : goal.returns
returns c = λ x seen.
    (let now = c.args.self.now in
    let r = c.args.job.now.program.now in
    let discipline = c.args.job.now.limits.discipline in
    ap (λ (d : Decision). (choice_taken (telling_of now.observer now.events.items) d, lines_of now.events.items)) c.choice_of.ensures ∙ ap (λ (y : Telling × List TraceLine). (beside (teller r discipline) (tracer (slots r discipline))).on_choice (machine_of c.args.state.now) c.args.number y) seen)
