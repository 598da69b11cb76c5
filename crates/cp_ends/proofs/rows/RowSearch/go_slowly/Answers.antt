use Rattle.cp_ends.proofs.Vocabulary.{◌∙◌, ◌++◌, ap, refl, subst, sym, Machine, Discipline, machine_of, may, output_of, same_key, slots}
use Rattle.cp_run.specs.Silent.{without_output}
use Rattle.cp_stretches.specs.Cached.{IsCache, StandsFor}
use Rattle.cp_ends.specs.Arrivals.{next_arrival}
use Rattle.cp_ends.specs.ByRows.{TellsOf}
use Rattle.cp_ends.specs.declared.told.Told.{Told}
use Rattle.cp_ends.proofs.RowsVisited.{row_stands}
use Rattle.cp_ends.proofs.Rowwise.{stands_for}
use Rattle.cp_ends.proofs.rows.RowSearch.go_slowly.Goals as goal

pub stand-requires-clause-cache : goal.stand-requires-clause-cache
stand-requires-clause-cache g c = subst (λ (d : Discipline). IsCache c.args.job.now.run.program.now d c.args.self.now.found.states.cache) c.requires.room.ruled c.requires.here.2.states.cached

pub stand-requires-clause-standing : goal.stand-requires-clause-standing
stand-requires-clause-standing g c = c.requires.here.2.states.standing

pub stand-requires-clause-row : goal.stand-requires-clause-row
stand-requires-clause-row g c =
    let r = c.args.job.now.run.program.now in
    let kept = c.args.self.now.found.states in
    let m = c.requires.here.1 in
    (m, subst (StandsFor r c.args.job.now.run.limits.discipline kept.cache.store kept.cache.table m) (sym c.as_slice.ensures.value) (subst (λ (d : Discipline). StandsFor r d kept.cache.store kept.cache.table m c.args.from.now.row.items) c.requires.room.ruled (stands_for r kept c.args.from.now.row.items m c.requires.here.3)))

pub choose-requires-clause-own : goal.choose-requires-clause-own
choose-requires-clause-own g c = c.stand.ensures.standing.own

pub choose-requires-clause-may : goal.choose-requires-clause-may
choose-requires-clause-may g c =
    let r = c.args.job.now.run.program.now in
    let discipline = c.args.job.now.run.limits.discipline in
    let kept = c.args.self.now.found.states in
    let m = c.requires.here.1 in
    let same = c.stand.ensures.state m (subst (StandsFor r c.args.job.now.run.limits.discipline kept.cache.store kept.cache.table m) (sym c.as_slice.ensures.value) (subst (λ (d : Discipline). StandsFor r d kept.cache.store kept.cache.table m c.args.from.now.row.items) c.requires.room.ruled (stands_for r kept c.args.from.now.row.items m c.requires.here.3))) in
    ap (λ k. may (slots r discipline) k c.args.process) same ∙ c.requires.here.4

pub choose-requires-clause-quiet : goal.choose-requires-clause-quiet
choose-requires-clause-quiet g c =
    let r = c.args.job.now.run.program.now in
    let kept = c.args.self.now.found.states in
    let m = c.requires.here.1 in
    let same = c.stand.ensures.state m (subst (StandsFor r c.args.job.now.run.limits.discipline kept.cache.store kept.cache.table m) (sym c.as_slice.ensures.value) (subst (λ (d : Discipline). StandsFor r d kept.cache.store kept.cache.table m c.args.from.now.row.items) c.requires.room.ruled (stands_for r kept c.args.from.now.row.items m c.requires.here.3))) in
    ap output_of same ∙ c.requires.here.3.it.quiet

pub find_row-requires-clause-cache : goal.find_row-requires-clause-cache
find_row-requires-clause-cache g c = subst (λ (d : Discipline). IsCache c.args.job.now.run.program.now d c.args.self.now.found.states.cache) c.requires.room.ruled c.requires.here.2.states.cached

pub find_row-requires-clause-room : goal.find_row-requires-clause-room
find_row-requires-clause-room g c = record { ruled = c.requires.room.ruled; row = c.requires.room.row }

pub returns-clause-kept : goal.returns-clause-kept
returns-clause-kept g c = c.in_ok-find_row.ensures.kept c.args.self.now.found.states.standing

pub returns-clause-goes : goal.returns-clause-goes
returns-clause-goes g c = λ m is may.
    (let r = c.args.job.now.run.program.now in
    let discipline = c.args.job.now.run.limits.discipline in
    let steps = c.args.job.now.run.limits.steps in
    let p = c.args.process in
    let kept = c.args.self.now.found.states in
    let same = c.stand.ensures.state m (subst (StandsFor r c.args.job.now.run.limits.discipline kept.cache.store kept.cache.table m) (sym c.as_slice.ensures.value) (subst (λ (d : Discipline). StandsFor r d kept.cache.store kept.cache.table m c.args.from.now.row.items) c.requires.room.ruled (stands_for r kept c.args.from.now.row.items m is))) in
    let before = machine_of c.stand.new.standing.state in
    record {
      goes = record {
        after = machine_of c.choose.new.state;
        is = λ due. row_stands r c.find_row.new.self.found c.choose.new.state c.find_row.new.self.row.items _ refl c.choose.ensures.own c.in_ok-halt.ensures.quiet (c.in_ok-halt.ensures.ruled due ∙ ap (λ (k : Machine). k.discipline) same ∙ is.it.ruled ∙ c.requires.room.ruled ∙ sym c.in_ok-find_row.ensures.room.ruled) c.in_ok-find_row.ensures.row;
        goal = c.in_ok-halt.ensures.goal ∙ ap (λ k. (next_arrival (slots r discipline) without_output same_key steps k p).goal) same;
        shown = ap (λ (t : Told g.row.P.Denot). t.values.items) c.find_row.ensures.told ∙ c.in_ok-halt.ensures.shown ∙ ap (λ l. l ++ (next_arrival (slots r discipline) without_output same_key steps before p).shown) c.clear.ensures.items ∙ ap (λ k. (next_arrival (slots r discipline) without_output same_key steps k p).shown) same;
      };
      seen = subst (λ (t : Told g.row.P.Denot). TellsOf g.P.Sight.sees r discipline steps m p t c.in_ok-halt.halt (machine_of c.choose.new.state)) (sym c.find_row.ensures.told)
          (subst (λ (k : Machine). TellsOf g.P.Sight.sees r discipline steps k p c.choose.new.told c.in_ok-halt.halt (machine_of c.choose.new.state)) same c.in_ok-halt.ensures.leg);
    })
