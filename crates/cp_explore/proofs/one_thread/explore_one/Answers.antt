use Rattle.cp_explore.proofs.Meant.{are_exclusive, meant_rows}
use Rattle.cp_explore.proofs.one_thread.explore_one.Goals as goal

pub returns-clause-meaning : goal.returns-clause-meaning
returns-clause-meaning g c = (let job = c.args.job in meant_rows c.walk_on_one_thread.result job.program.now job.limits.discipline job.limits.choices job.limits.steps c.walk_on_one_thread.ensures.table)

pub returns-clause-exclusive : goal.returns-clause-exclusive
returns-clause-exclusive g c = (let job = c.args.job in are_exclusive job.program.now job.limits.discipline)
