use Rattle.cp_merged.proofs.Words.{◌<◌, ◌≤◌, length, rows_of, arith}
use Rattle.cp_merged.proofs.Exploring.{first_fault, reached_first}
use Rattle.cp_merged.proofs.layering.Layering.start.Goals as goal

pub returns-then-len-job-clause-fault : goal.returns-then-len-job-clause-fault
returns-then-len-job-clause-fault g c =
    let l = c.args.job.now.run.limits in
    let new = c.open.new.self in
    let many : c.args.job.now.most < length (rows_of new.frontier.layer) = omega arith in
    first_fault c.args.job.now.run.program.now l.discipline l.choices l.steps c.args.job.now.most new.known new.frontier.ended.entries (rows_of new.frontier.layer) many c.in-Ok-open.ensures.holds

pub returns-clause-reached : goal.returns-clause-reached
returns-clause-reached g c =
    let l = c.args.job.now.run.limits in
    let new = c.open.new.self in
    let few : length (rows_of new.frontier.layer) ≤ c.args.job.now.most = omega arith in
    reached_first c.args.job.now.run.program.now l.discipline l.choices l.steps c.args.job.now.most new.known new.frontier.ended.entries (rows_of new.frontier.layer) few c.in-Ok-open.ensures.holds
