use Rattle.std.proofs.Common.{◌∙◌, ap, arith, length, subst, sym}
use Rattle.cp_at_once.proofs.Words.{slot_graph, ok_to, FoundAtOnce, HasLeg}
use Rattle.cp_ends.proofs.GoingOn.{ok_both}
use Rattle.cp_run.specs.Run.{those_below}
use Rattle.cp_ends.specs.Rows.{IsRowFor}
use Rattle.cp_at_once.specs.Following.{Within}
use Rattle.cp_at_once.proofs.Choices.{choice_taken, stops_here, within_else, within_more}
use Rattle.cp_at_once.proofs.search.SearchAtOnce.take.Goals as goal

pub copy_from_slice-requires : goal.copy_from_slice-requires
copy_from_slice-requires c = c.args.self.now.from.ok.0 ∙ c.requires.room.from ∙ sym c.requires.within.1.row_is.is.long

pub go-requires-clause-room : goal.go-requires-clause-room
go-requires-clause-room c = record { ruled = c.requires.room.ruled; row = c.requires.room.row; from = ap length c.copy_from_slice.ensures.items ∙ c.requires.within.1.row_is.is.long }

pub go-requires-clause-known : goal.go-requires-clause-known
go-requires-clause-known c = c.requires.within.1.within.holds.kept.known

pub go-requires-clause-from : goal.go-requires-clause-from
go-requires-clause-from c =
    let m = c.requires.within.0 in
    (m, subst (λ l. IsRowFor c.args.job.now.run.program.now c.args.self.now.found.kept.store l m) (sym c.copy_from_slice.ensures.items) c.requires.within.1.row_is, c.requires.within.2)

pub follow-requires-clause-known : goal.follow-requires-clause-known
follow-requires-clause-known c = c.in_ok-arrival.ensures.store.known c.requires.within.1.within.holds.kept.known

pub follow-requires-clause-row : goal.follow-requires-clause-row
follow-requires-clause-row c = λ due.
    (let m = c.requires.within.0 in
    let goes = c.in_ok-arrival.ensures.goes m (subst (λ l. IsRowFor c.args.job.now.run.program.now c.args.self.now.found.kept.store l m) (sym c.copy_from_slice.ensures.items) c.requires.within.1.row_is) c.requires.within.2 in
    (goes.after, goes.is due))

pub follow-requires-clause-numbers : goal.follow-requires-clause-numbers
follow-requires-clause-numbers c = let one = ap length c.choice.ensures.numbers in omega (arith, one)

pub returns-clause-within : goal.returns-clause-within
returns-clause-within c =
    let job = c.args.job.now in
    let r = job.run.program.now in
    let discipline = job.run.limits.discipline in
    let gr = slot_graph r discipline job.run.limits.steps in
    let Leg = HasLeg r discipline in
    let old = c.args.self.now.found in
    let mid = c.go.new.self.found in
    let h = c.follow.new.self.found in
    let at = c.args.at in
    let p = c.args.process in
    ok_both c.follow.result _ _ _ c.follow.ensures.found c.follow.ensures.store (λ is_room on stays room m here may.
    (let done = those_below p (gr.may m) in
    let goes = c.in_ok-arrival.ensures.goes m (subst (λ l. IsRowFor r old.kept.store l m) (sym c.copy_from_slice.ensures.items) here.row_is) may in
    let within = subst (λ (f : FoundAtOnce). Within r gr Leg job.most 8 f at m done) (sym c.in_ok-arrival.ensures.found) (within_else r gr Leg job.most old at m done here.within mid.kept.store c.in_ok-arrival.ensures.store) in
    record {
      row_is = stays.rows c.args.row.now m (c.in_ok-arrival.ensures.store.rows c.args.row.now m here.row_is);
      within = within_more r gr Leg job.most mid h at m done p within is_room room
          (choice_taken r gr Leg job.most mid h at m done p within may c.choice.result c.choice.ensures.state c.choice.ensures.numbers _ _ goes.goal goes.shown is_room (λ states word a held is arrives to shown. on states word a goes.after held is arrives goes.is to shown));
    }))

pub returns-clause-stops : goal.returns-clause-stops
returns-clause-stops c =
    let job = c.args.job.now in
    let r = job.run.program.now in
    let discipline = job.run.limits.discipline in
    let gr = slot_graph r discipline job.run.limits.steps in
    let Leg = HasLeg r discipline in
    let old = c.args.self.now.found in
    let mid = c.go.new.self.found in
    let h = c.follow.new.self.found in
    let at = c.args.at in
    let p = c.args.process in
    let m = c.requires.within.0 in
    let here = c.requires.within.1 in
    let may = c.requires.within.2 in
    ok_to c.follow.result _ _ c.follow.ensures.found (λ is_room on full.
    (let done = those_below p (gr.may m) in
    let goes = c.in_ok-arrival.ensures.goes m (subst (λ l. IsRowFor r old.kept.store l m) (sym c.copy_from_slice.ensures.items) here.row_is) may in
    let within = subst (λ (f : FoundAtOnce). Within r gr Leg job.most 8 f at m done) (sym c.in_ok-arrival.ensures.found) (within_else r gr Leg job.most old at m done here.within mid.kept.store c.in_ok-arrival.ensures.store) in
    stops_here r gr Leg job.most mid h at m done p within is_room full
    (choice_taken r gr Leg job.most mid h at m done p within may c.choice.result c.choice.ensures.state c.choice.ensures.numbers _ _ goes.goal goes.shown is_room (λ states word a held is arrives to shown. on states word a goes.after held is arrives goes.is to shown))))
