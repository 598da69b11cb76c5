use Rattle.cp_run.specs.Slots.{slots}
use Rattle.cp_run.specs.Table.{table}
use Rattle.cp_endless_laws.specs.Silent.{waits_on_slots}
use Rattle.cp_verdict.specs.waiting.Who.{who_at}
use Rattle.cp_verdict.proofs.waiting.marking.mark_known.Goals as goal

pub returns-clause-mark : goal.returns-clause-mark
returns-clause-mark g c = λ told.
    (let job = c.args.job in
    let sys = slots job.program.now job.limits.discipline in
    c.in_ok-marked.ensures.marked (who_at sys waits_on_slots job.limits.choices job.limits.steps) (table sys job.limits.choices job.limits.steps) told c.in_ok-ends.ensures.ends)

pub returns-clause-rows : goal.returns-clause-rows
returns-clause-rows g c = λ none lines told. c.in_ok-marked.ensures.rows none lines told
