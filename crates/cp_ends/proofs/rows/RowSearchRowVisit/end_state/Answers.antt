use Rattle.cp_ends.proofs.Vocabulary.{◌≡◌, ◌+◌, ◌∙◌, subst, ap, arith, suc, slot_graph, ends_tests, searched, HoldsFew}
use Rattle.cp_ends.proofs.GoingOn.{all_gone}
use Rattle.cp_ends.proofs.rows.RowSearchRowVisit.end_state.Goals as goal

pub returns : goal.returns
returns g c =
    let job = c.args._job.now in
    let r = job.run.program.now in
    let gr = slot_graph r job.run.limits.discipline job.run.limits.steps in
    let found = c.args.self.now.found in
    let at = c.args._at in
    let next : suc at ≡ at + 1 = omega arith in
    let w = c.requires.2 in
    (w.room, subst (HoldsFew r job.most found) (all_gone r gr job.most found at c.requires.1 w.within ∙ ap (searched gr ends_tests) next) w.within.holds)
