use Rattle.cp_run.specs.Slots.{slots}
use Rattle.cp_waiting_ends.proofs.Reaching.{ends_within}
use Rattle.cp_run.proofs.Tracing.{ok_both}
use Rattle.cp_waiting_ends.proofs.table.find_waiting.Goals as goal

pub returns-clause-ends : goal.returns-clause-ends
returns-clause-ends g c =
    let job = c.args.job.now in
    ok_both c.note_all.result _ _ _ c.note_all.ensures.reached c.note_all.ensures.words (λ x reached words. ends_within (slots job.program.now job.limits.discipline) job.limits.steps x.choices x.note reached words)
