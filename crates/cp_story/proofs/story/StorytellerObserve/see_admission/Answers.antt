use Rattle.std.proofs.Common.{◌∙◌, List, ap}
use Rattle.cp_machine.specs.System.{machine_of}
use Rattle.cp_run.proofs.Tracing.{ok_both}
use Rattle.cp_run.specs.declared.line.TraceLine.{TraceLine}
use Rattle.cp_run.specs.Fold.{beside}
use Rattle.cp_run.specs.Slots.{slots}
use Rattle.cp_run.specs.Trace.{tracer}
use Rattle.cp_story.specs.Story.{Telling, teller}
use Rattle.cp_story.proofs.Telling.{same_both}
use Rattle.cp_story.proofs.story.StorytellerObserve.see_admission.Goals as goal

pub returns : goal.returns
returns c =
    let r = c.args.job.now.program.now in
    let discipline = c.args.job.now.limits.discipline in
    ok_both c.push_event.result _ _ _ c.push_event.ensures.told c.push_event.ensures.lines (λ _ told line before x at seen. same_both _ _ _ _ told line ∙ ap (λ (y : Telling × List TraceLine). (beside (teller r discipline) (tracer (slots r discipline))).on_admission c.args.process (machine_of c.args.state.now) y) seen)
