use Rattle.cp_ends.proofs.Vocabulary.{◌∙◌, List, sym, ap, subst, Shown, ends_tests, with_shown, goal_at, Place, End, Holds, SlotFindings, States}
use Rattle.cp_ends.proofs.Vocabulary.{with_values}
use Rattle.cp_ends.specs.Rows.{IsStated}
use Rattle.cp_ends.specs.declared.found.Arrived.TheVariants.{Ended}
use Rattle.cp_ends.proofs.GoingOn.{came_to, ok_to}
use Rattle.cp_ends.proofs.found.Found.arrive_at.Goals as goal

pub returns-in_ok-add_end-in-Ended-clause-arrives : goal.returns-in_ok-add_end-in-Ended-clause-arrives
returns-in_ok-add_end-in-Ended-clause-arrives c = λ f word a m h is before stands to shown.
    (let r = c.args.job.now.run.program.now in
    let mid = c.add_values.new.self in
    let k : SlotFindings = with_shown f word a in
    let values : Holds r mid k = subst (λ (vs : List Shown). Holds r mid (record f { values = with_values ends_tests.value ends_tests.most f.values vs word })) shown (c.in_ok-add_values.ensures.values r f word h.holds is) in
    let ends = c.in_ok-add_end-in-Ended.ensures.ends r k word values is in
    came_to r c.args.job.now.most c.add_end.new.self f word a (End c.in-Ended.end) (ap (λ v. goal_at v m) (sym c.in-Ended.is) ∙ to) (Ended c.in-Ended.end) (record { holds = ends; few = h.few }))

pub returns-in-Choice-clause-arrives : goal.returns-in-Choice-clause-arrives
returns-in-Choice-clause-arrives c =
    ok_to c.add_halved.result _ _ c.add_halved.ensures.comes (λ arrived on f word a m h is before stands to shown.
    (let r = c.args.job.now.run.program.now in
    let mid = c.add_values.new.self in
    let k : SlotFindings = with_shown f word a in
    let values : Holds r mid k = subst (λ (vs : List Shown). Holds r mid (record f { values = with_values ends_tests.value ends_tests.most f.values vs word })) shown (c.in_ok-add_values.ensures.values r f word h.holds is) in
    let row = subst (λ (states : States). IsStated r states c.args.halved.numbers m) (sym c.add_values.ensures.states) (stands c.in-Choice.is) in
    came_to r c.args.job.now.most c.add_halved.new.self f word a (Place m) (ap (λ v. goal_at v m) (sym c.in-Choice.is) ∙ to) arrived (on k word m (record { holds = values; few = h.few }) is before row)))

pub returns-in-Choice-clause-halt : goal.returns-in-Choice-clause-halt
returns-in-Choice-clause-halt c = ok_to c.add_halved.result _ _ c.add_halved.ensures.halt (λ arrived is. is ∙ sym c.in-Choice.is)
