use Rattle.cp_ends.proofs.Vocabulary.{Found, slot_graph, subst, sym}
use Rattle.cp_ends.proofs.GoingOn.{search_answer, stop_noted}
use Rattle.cp_ends.specs.Answer.{IsSearch}
use Rattle.cp_ends.proofs.rows.search_rows.Goals as goal

pub returns : goal.returns
returns g c =
    let job = c.args.job.now in
    let r = job.run.program.now in
    let gr = slot_graph r job.run.limits.discipline job.run.limits.steps in
    let found = c.visit_rows.new.visit.found in
    let stopped = c.in_ok-stopped.stopped in
    subst (λ (x : Found). IsSearch r gr job.most x x.stopped) (sym c.into_found.ensures)
    (stop_noted r gr job.most found stopped stopped (search_answer r gr job.most found stopped c.in_ok-stopped.ensures))
