use Rattle.cp_ends.proofs.Vocabulary.{◌≡◌, ◌+◌, arith, false, subst, suc, true}
use Rattle.cp_search.specs.Searched.{IsTaken}
use Rattle.cp_ends.proofs.visit.visit_rows.Goals as goal

pub loop-number-preserved : goal.loop-number-preserved
loop-number-preserved g c =
    let job = c.args.job.now in
    let n = c.loop-number.number in
    let room : c.in_ok-take_choices.field-0 ≡ true = search in
    let taken = subst (IsTaken (g.V.RowVisit.before c.take_choices.new.visit job) (g.V.RowVisit.stops c.take_choices.new.visit job) n) room c.in_ok-take_choices.ensures in
    let next : suc n ≡ n + 1 = omega arith in
    record { before = subst (g.V.RowVisit.before c.take_choices.new.visit job) next taken }

pub returns-then-not-branch : goal.returns-then-not-branch
returns-then-not-branch g c =
    let job = c.args.job.now in
    let full : c.in_ok-take_choices.field-0 ≡ false = search in
    subst (IsTaken (g.V.RowVisit.before c.take_choices.new.visit job) (g.V.RowVisit.stops c.take_choices.new.visit job) c.loop-number.number) full c.in_ok-take_choices.ensures
