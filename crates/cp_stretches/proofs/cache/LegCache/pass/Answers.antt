use Rattle.cp_stretches.proofs.cache.LegCache.pass.Goals as goal

pub returns-clause-turn : goal.returns-clause-turn
returns-clause-turn c = λ r s m discipline can not. c.turn_after.ensures r s m discipline can not
