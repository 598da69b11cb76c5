use Rattle.cp_ends.proofs.Vocabulary.{◌≡◌, ◌∙◌, ap, subst, sym, slot_graph}
use Rattle.cp_run.specs.declared.outcome.Halt.{Halt}
use Rattle.cp_run.specs.declared.outcome.Halt.TheVariants.{Choice}
use Rattle.cp_ends.specs.Answer.{halt_of}
use Rattle.cp_ends.specs.Arrivals.{goal_at}
use Rattle.cp_ends.specs.ByRows.{TellsOf}
use Rattle.cp_ends.specs.declared.end.End.{End}
use Rattle.cp_ends.proofs.GoingOn.{Takes, number_so, stops_at, within_more}
use Rattle.cp_ends.proofs.RowsVisited.{halved_kept, row_kept, row_of_within, room_kept, takes_so}
use Rattle.cp_ends.proofs.rows.RowSearch.take_choice.Goals as goal

pub go-requires-clause-room : goal.go-requires-clause-room
go-requires-clause-room g c = c.requires.within.1.room

pub go-requires-clause-here : goal.go-requires-clause-here
go-requires-clause-here g c =
    let job = c.args.job.now in
    let w = c.requires.within in
    (_, w.0, w.1.within.holds.holds, row_of_within g.P.Sight.looks job.run.program.now job.run.limits.discipline job.run.limits.steps job.most c.args.self.now c.args.from.now c.args.at w.0 _ w.1, w.2)

pub go-requires-clause-halved : goal.go-requires-clause-halved
go-requires-clause-halved g c = c.requires.within.1.halved

pub returns-clause-within : goal.returns-clause-within
returns-clause-within g c = λ room m here may.
    (let job = c.args.job.now in
    let r = job.run.program.now in
    let discipline = job.run.limits.discipline in
    let steps = job.run.limits.steps in
    let gr = slot_graph r discipline steps in
    let old = c.args.self.now in
    let mid = c.go.new.self in
    let from = c.args.from.now in
    let at = c.args.at in
    let p = c.args.process in
    let row = row_of_within g.P.Sight.looks r discipline steps job.most old from at m _ here in
    let takes = takes_so g.P.Sight.looks r discipline steps job.most g.P.Sight.sees old mid c.arrive_at.new.self from at m p here c.in_ok-halt.halt c.in_ok-arrived.arrived c.in_ok-halt.ensures.kept (c.in_ok-halt.ensures.goes m row may here.look) (λ f word a k few is before stands goal shown. c.in_ok-arrived.ensures.arrives f word a k few is before stands goal (c.as_slice-values.ensures.value ∙ shown)) in
    record {
      room = room_kept g.P.Sight.looks r discipline steps job.most mid c.arrive_at.new.self c.in_ok-arrived.ensures.cache c.in_ok-arrived.ensures.ruled c.in_ok-halt.ensures.room;
      row_is = row_kept g.P.Sight.looks r discipline steps job.most mid c.arrive_at.new.self from.row.items m c.in_ok-arrived.ensures.cache (c.in_ok-halt.ensures.kept.rows from.row.items m row);
      halved = halved_kept g.P.Sight.looks r discipline steps job.most mid c.arrive_at.new.self from.numbers.numbers from.row.items c.in_ok-arrived.ensures.cache c.in_ok-arrived.ensures.ruled c.in_ok-arrived.ensures.lists (c.in_ok-halt.ensures.kept.halved from.numbers.numbers from.row.items here.halved);
      look = here.look;
      within = within_more r gr job.most old.found c.arrive_at.new.self at m p here.within c.in_ok-arrived.arrived takes room;
    })

pub returns-clause-stops : goal.returns-clause-stops
returns-clause-stops g c = λ full.
    (let job = c.args.job.now in
    let r = job.run.program.now in
    let discipline = job.run.limits.discipline in
    let steps = job.run.limits.steps in
    let gr = slot_graph r discipline steps in
    let old = c.args.self.now in
    let mid = c.go.new.self in
    let from = c.args.from.now in
    let at = c.args.at in
    let p = c.args.process in
    let m = c.requires.within.0 in
    let here = c.requires.within.1 in
    let may = c.requires.within.2 in
    let row = row_of_within g.P.Sight.looks r discipline steps job.most old from at m _ here in
    let goes = c.in_ok-halt.ensures.goes m row may here.look in
    let takes = takes_so g.P.Sight.looks r discipline steps job.most g.P.Sight.sees old mid c.arrive_at.new.self from at m p here c.in_ok-halt.halt c.in_ok-arrived.arrived c.in_ok-halt.ensures.kept goes (λ f word a k few is before stands goal shown. c.in_ok-arrived.ensures.arrives f word a k few is before stands goal (c.as_slice-values.ensures.value ∙ shown)) in
    stops_at r gr job.most old.found c.arrive_at.new.self at m p here.within c.requires.below may c.in_ok-arrived.arrived takes full)

pub returns-clause-told : goal.returns-clause-told
returns-clause-told g c = λ m here may.
    (let job = c.args.job.now in
    let r = job.run.program.now in
    let discipline = job.run.limits.discipline in
    let steps = job.run.limits.steps in
    let gr = slot_graph r discipline steps in
    let old = c.args.self.now in
    let mid = c.go.new.self in
    let from = c.args.from.now in
    let at = c.args.at in
    let p = c.args.process in
    let row = row_of_within g.P.Sight.looks r discipline steps job.most old from at m _ here in
    let goes = c.in_ok-halt.ensures.goes m row may here.look in
    let takes = takes_so g.P.Sight.looks r discipline steps job.most g.P.Sight.sees old mid c.arrive_at.new.self from at m p here c.in_ok-halt.halt c.in_ok-arrived.arrived c.in_ok-halt.ensures.kept goes (λ f word a k few is before stands goal shown. c.in_ok-arrived.ensures.arrives f word a k few is before stands goal (c.as_slice-values.ensures.value ∙ shown)) in
    let arrived = c.in_ok-arrived.arrived in
    let halts = c.in_ok-arrived.ensures.halt in
    record {
      last = goes.goes.after;
      seen = subst (λ (h : Halt End). TellsOf g.P.Sight.sees r discipline steps m p mid.told h goes.goes.after) (sym halts) goes.seen;
      number = λ number x at_number is.
          (let due : c.in_ok-halt.halt ≡ Choice = sym halts ∙ ap halt_of at_number in
          number_so r gr job.most old.found c.arrive_at.new.self at m p here.within number goes.goes.after x is (ap (λ (h : Halt End). goal_at h goes.goes.after) (sym due) ∙ goes.goes.goal) (subst (Takes r gr job.most old.found c.arrive_at.new.self at m p here.within) at_number takes));
    })
