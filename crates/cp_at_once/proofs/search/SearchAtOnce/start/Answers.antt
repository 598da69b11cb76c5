use Rattle.std.proofs.Common.{◌∙◌, ap, length}
use Rattle.cp_ends.specs.Answer.{slot_graph}
use Rattle.cp_at_once.proofs.search.SearchAtOnce.start.Goals as goal

pub returns-clause-nothing : goal.returns-clause-nothing
returns-clause-nothing c = c.in_ok-found.ensures.nothing (slot_graph c.args.job.now.run.program.now c.args.job.now.run.limits.discipline c.args.job.now.run.limits.steps) c.args.job.now.most

pub returns-clause-room : goal.returns-clause-room
returns-clause-room c =
    let nothing = c.in_ok-found.ensures.nothing (slot_graph c.args.job.now.run.program.now c.args.job.now.run.limits.discipline c.args.job.now.run.limits.steps) c.args.job.now.most in
    let row = ap length (c.in_ok-row.ensures.items ∙ c.deref.ensures.value) ∙ nothing.kept.known.standing.row.long in
    record { ruled = c.in_ok-found.ensures.ruled; row = row; from = ap length (c.in_ok-from.ensures.items ∙ c.deref-2.ensures.value) ∙ row }
