use Rattle.cp_ends.proofs.Vocabulary.{[], subst, sym}
use Rattle.cp_ends.proofs.RowsVisited.{cache_within, stands_within}
use Rattle.cp_stretches.specs.Cached.{StandsFor}
use Rattle.cp_ends.proofs.rows.RowSearchRowVisit.candidates.Goals as goal

pub candidates-requires : goal.candidates-requires
candidates-requires g c =
    let job = c.args._job.now in
    let r = job.run.program.now in
    let discipline = job.run.limits.discipline in
    let steps = job.run.limits.steps in
    let self = c.args.self.now in
    let from = c.args.from.now in
    let w = c.requires in
    (r, discipline, w.0, cache_within g.P.Sight.looks r discipline steps job.most self from c.args._at w.0 [] w.1, subst (StandsFor r discipline self.found.states.cache.store self.found.states.cache.table w.0) (sym c.as_slice.ensures.value) (stands_within g.P.Sight.looks r discipline steps job.most self from c.args._at w.0 [] w.1))

pub returns : goal.returns
returns g c = λ m w.
    (let job = c.args._job.now in
    let r = job.run.program.now in
    let discipline = job.run.limits.discipline in
    let steps = job.run.limits.steps in
    let self = c.args.self.now in
    let from = c.args.from.now in
    c.candidates.ensures r discipline m (cache_within g.P.Sight.looks r discipline steps job.most self from c.args._at m [] w) (subst (StandsFor r discipline self.found.states.cache.store self.found.states.cache.table m) (sym c.as_slice.ensures.value) (stands_within g.P.Sight.looks r discipline steps job.most self from c.args._at m [] w)))
