use Rattle.cp_ends.proofs.GoingOn.{ok_to}
use Rattle.cp_ends.proofs.Halves.{stated_by}
use Rattle.cp_ends.proofs.found.Found.add_state.Goals as goal

pub returns-clause-comes : goal.returns-clause-comes
returns-clause-comes c =
    ok_to c.add_halved.result _ _ c.add_halved.ensures.comes (λ arrived on f word m h word_is before is.
    (let r = c.args.job.now.run.program.now in
    let are = c.halve.ensures.kept r f.states h.holds.states in
    let stated = stated_by r c.args.self.now.states c.halve.new.self c.args.row.now c.in_ok-halved.halved.numbers m c.halve.ensures.cache c.halve.ensures.ruled c.in_ok-halved.ensures.halved is in
    on f word m (record { holds = record { states = are; ends = h.holds.ends; values = h.holds.values }; few = h.few }) word_is before stated))
