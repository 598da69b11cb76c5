use Rattle.cp_ends.proofs.Vocabulary.{silent_slots, ◌≡◌, ◌∙◌, ◌++◌, [], ap, arith, length, refl, subst, sym, machine_of, slot_graph, Discipline, SlotArrival, searched}
use Rattle.cp_run.specs.declared.outcome.Halt.TheVariants.{Choice}
use Rattle.cp_stretches.specs.Cached.{IsCache}
use Rattle.cp_run.specs.declared.outcome.Halt.{Halt}
use Rattle.cp_ends.specs.Legs.{ComesTo, first_leg, with_round}
use Rattle.cp_ends.specs.declared.end.End.{End}
use Rattle.cp_ends.specs.declared.told.Told.{Told}
use Rattle.cp_ends.specs.Rows.{IsRowFor}
use Rattle.cp_ends.specs.Searched.{nothing}
use Rattle.cp_ends.proofs.GoingOn.{start_found}
use Rattle.cp_ends.proofs.RowsVisited.{room_kept, row_stands}
use Rattle.cp_ends.proofs.rows.RowSearch.open.Goals as goal

pub open-requires-clause-own : goal.open-requires-clause-own
open-requires-clause-own g c = c.requires.nothing.states.standing.own

pub find_row-requires-clause-cache : goal.find_row-requires-clause-cache
find_row-requires-clause-cache g c = subst (λ (d : Discipline). IsCache c.args.job.now.run.program.now d c.args.self.now.found.states.cache) c.requires.room.ruled c.requires.nothing.states.cached

pub find_row-requires-clause-room : goal.find_row-requires-clause-room
find_row-requires-clause-room g c = record { ruled = c.requires.room.ruled; row = c.requires.room.row }

pub arrive-requires : goal.arrive-requires
arrive-requires g c = λ due. omega (arith, ap length c.as_slice-row.ensures.value, c.in_ok-find_row.ensures.room.row)

pub returns-clause-room : goal.returns-clause-room
returns-clause-room g c =
    let job = c.args.job.now in
    room_kept g.P.Sight.looks job.run.program.now job.run.limits.discipline job.run.limits.steps job.most c.find_row.new.self c.arrive.new.self c.in_ok-arrived.ensures.cache c.in_ok-arrived.ensures.ruled c.in_ok-find_row.ensures.room

pub returns-clause-begun : goal.returns-clause-begun
unfolding searched
returns-clause-begun g c =
    let job = c.args.job.now in
    let r = job.run.program.now in
    let a : SlotArrival = (slot_graph r job.run.limits.discipline job.run.limits.steps).start in
    let mid = c.find_row.new.self in
    let state = c.open.new.state in
    let m = machine_of state in
    let kept = c.in_ok-find_row.ensures.kept c.args.self.now.found.states.standing in
    let stands : c.in_ok-halt.halt ≡ Choice → IsRowFor r mid.found.states c.as_slice-row.result.now m = λ due. row_stands r mid.found state mid.row.items c.as_slice-row.result.now c.as_slice-row.ensures.value c.open.ensures.own c.in_ok-halt.ensures.quiet (c.in_ok-halt.ensures.ruled due ∙ sym c.in_ok-find_row.ensures.room.ruled) c.in_ok-find_row.ensures.row in
    start_found r job.most c.arrive.new.self a c.in_ok-arrived.arrived c.requires.most
    (c.in_ok-arrived.ensures.arrives nothing [] a m (record { holds = kept.holds nothing c.requires.nothing; few = omega arith }) refl tt stands c.in_ok-halt.ensures.goal
    (c.as_slice-values.ensures.value ∙ ap (λ (t : Told g.row.P.Denot). t.values.items) c.find_row.ensures.told ∙ c.in_ok-halt.ensures.shown ∙ ap (λ l. l ++ a.shown) c.clear.ensures.items))

pub returns-clause-seen : goal.returns-clause-seen
returns-clause-seen g c =
    let job = c.args.job.now in
    let r = job.run.program.now in
    let discipline = job.run.limits.discipline in
    let quiet = silent_slots r discipline in
    let last = machine_of c.open.new.state in (
      last,
      subst (λ (h : Halt End). ComesTo quiet (λ w. g.P.Sight.sees w r discipline) job.run.limits.steps (first_leg quiet job.run.limits.steps) [] c.find_row.new.self.told.seen (with_round c.find_row.new.self.told.again h) last) (sym c.in_ok-arrived.ensures.halt)
          (subst (λ (t : Told g.row.P.Denot). ComesTo quiet (λ w. g.P.Sight.sees w r discipline) job.run.limits.steps (first_leg quiet job.run.limits.steps) [] t.seen (with_round t.again c.in_ok-halt.halt) last) (sym c.find_row.ensures.told) c.in_ok-halt.ensures.leg),
    )
