use Rattle.std.proofs.Common.{◌∙◌, ◌≤◌, ap, length, map, sym}
use Rattle.std.proofs.lemmas.List.{take_all}
use Rattle.cp_machine.specs.declared.process.ProcessState.{ProcessState}
use Rattle.cp_story.proofs.Lists.{statuses_same}
use Rattle.cp_story.proofs.statuses.statuses_of.Goals as goal

pub returns : goal.returns
returns c =
    let ps = c.args.state.now.processes.items in
    let status = λ (p : ProcessState). p.status in
    let end : length ps ≤ c.loop-process.process-index = rw (← c.deref-process-items.ensures.value) c.loop-process-test.false in
    c.loop-process.invariant ∙ ap (map status) (take_all c.loop-process.process-index ps end) ∙ sym (statuses_same ps)
