use Rattle.cp_at_once.proofs.Words.{◌≡◌, ◌∙◌, refl, sym, ap, goal_at, ok_to}
use Rattle.cp_at_once.proofs.Arriving.{ends_so, noted_choice, noted_end, shows_all}
use Rattle.cp_at_once.proofs.search.SearchAtOnce.note.Goals as goal

pub returns-in-Ended-clause-found : goal.returns-in-Ended-clause-found
returns-in-Ended-clause-found c =
    ok_to c.add_end.result _ _ c.add_end.ensures.end (λ _ on r g most states word a m h is arrives to shown.
    (let vs = c.as_slice.result.now in
    let same : vs ≡ a.shown = c.as_slice.ensures.value ∙ shown in
    let n = c.in_ok-add_values.ensures.values r g most states word h is (shows_all r g most c.args.self.now.found states word a vs same arrives) in
    let d = c.in-Ended.end in
    let goes = ap (λ v. goal_at v m) (sym c.in-Ended.is) ∙ to in
    noted_end r g most c.args.self.now.found states word a vs same c.add_values.new.self n c.add_end.new.self d goes (on r g most states word n.0 is (ends_so g word a d arrives goes))))

pub returns-in-Choice-clause-found : goal.returns-in-Choice-clause-found
returns-in-Choice-clause-found c = λ r g most states word a m h is arrives to shown.
    (let vs = c.as_slice.result.now in
    let same : vs ≡ a.shown = c.as_slice.ensures.value ∙ shown in
    let n = c.in_ok-add_values.ensures.values r g most states word h is (shows_all r g most c.args.self.now.found states word a vs same arrives) in
    noted_choice r g most c.args.self.now.found states word a vs same c.add_values.new.self n m (ap (λ v. goal_at v m) (sym c.in-Choice.is) ∙ to))

pub returns-in_err-add_values-clause-rest : goal.returns-in_err-add_values-clause-rest
returns-in_err-add_values-clause-rest c = (refl, refl, refl, c.add_values.ensures.kept)

pub returns-in-Ended-clause-rest : goal.returns-in-Ended-clause-rest
returns-in-Ended-clause-rest c = (refl, refl, refl, c.add_end.ensures.kept ∙ c.add_values.ensures.kept)

pub returns-in-Choice-clause-rest : goal.returns-in-Choice-clause-rest
returns-in-Choice-clause-rest c = (refl, refl, refl, c.add_values.ensures.kept)
