use Rattle.std.proofs.Common.{refl}
use Rattle.cp_stretches.proofs.Growing.{cache_on}
use Rattle.cp_stretches.proofs.cache.LegCache.start.Goals as goal

pub row_of-requires : goal.row_of-requires
row_of-requires c = (c.args.job.now.program.now, c.requires.placed, c.in_ok-state.ensures.own.fits)

pub returns-clause-cache : goal.returns-clause-cache
returns-clause-cache c =
    let self = c.args.self.now in
    cache_on c.args.job.now.program.now c.args.job.now.limits.discipline self (record self { store = c.row_of.new.self }) c.requires c.row_of.ensures.kept refl refl (λ known. known)

pub returns-clause-standing : goal.returns-clause-standing
returns-clause-standing c = record { own = c.in_ok-state.ensures.own; row = c.in_ok-row.ensures.row }
