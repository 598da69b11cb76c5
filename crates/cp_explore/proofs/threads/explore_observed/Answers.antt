use Rattle.cp_explore.proofs.Meant.{are_exclusive, meant_rows}
use Rattle.cp_explore.proofs.threads.explore_observed.Goals as goal

pub returns-clause-meaning : goal.returns-clause-meaning
returns-clause-meaning g c = (let job = c.args.cutting.now.job in meant_rows c.walk_on_threads.result job.program.now job.limits.discipline job.limits.choices job.limits.steps c.walk_on_threads.ensures.table)

pub returns-clause-exclusive : goal.returns-clause-exclusive
returns-clause-exclusive g c = (let job = c.args.cutting.now.job in are_exclusive job.program.now job.limits.discipline)
