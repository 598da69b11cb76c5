use Rattle.cp_stretches.proofs.Growing.{can_read}
use Rattle.cp_stretches.proofs.cache.LegCache.candidates.Goals as goal

pub candidates-requires : goal.candidates-requires
candidates-requires c =
    let self = c.args.self.now in
    (c.requires.0, self.store, c.requires.2, can_read c.requires.0 c.requires.1 self c.requires.2 c.args.row.now c.requires.3 c.requires.4)

pub returns : goal.returns
returns c = λ r discipline m cache stands.
    (let self = c.args.self.now in
    c.candidates.ensures r self.store m discipline (can_read r discipline self m c.args.row.now cache stands))
