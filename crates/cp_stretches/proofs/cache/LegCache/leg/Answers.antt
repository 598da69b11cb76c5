use Rattle.std.proofs.Common.{subst}
use Rattle.cp_parts.proofs.Keeping.{store_same}
use Rattle.cp_stretches.specs.Telling.{IfSought, IsSought}
use Rattle.cp_stretches.proofs.Growing.{legs_on}
use Rattle.cp_stretches.proofs.Knowing.{pid_within, row_long}
use Rattle.cp_stretches.proofs.cache.LegCache.leg.Goals as goal

pub look-requires-clause-pid : goal.look-requires-clause-pid
look-requires-clause-pid c = pid_within c.args.job.now.program.now c.args.job.now.limits.discipline c.args.self.now c.requires.row.0 c.args.row.now c.args.pid c.requires.cache c.requires.row.1

pub look-requires-clause-long : goal.look-requires-clause-long
look-requires-clause-long c = row_long c.args.job.now.program.now c.args.job.now.limits.discipline c.args.self.now c.requires.row.0 c.args.row.now c.args.pid c.requires.cache c.requires.row.1

pub returns-in-Leg-clause-told : goal.returns-in-Leg-clause-told
returns-in-Leg-clause-told c =
    c.in_ok-looked.ensures.told c.args.self.now.store c.args.job.now.program.now c.args.job.now.limits.discipline c.in-Leg.leg c.requires.cache.placed c.requires.cache.known c.in-Leg.is

pub returns-in-Leg-clause-cache : goal.returns-in-Leg-clause-cache
returns-in-Leg-clause-cache c =
    let self = c.args.self.now in
    legs_on c.args.job.now.program.now c.args.job.now.limits.discipline self c.look.new.self c.requires.cache
    (λ known. c.look.ensures.known self.store self.table c.args.job.now.program.now c.args.job.now.limits.discipline known)

pub returns-in-TooMuch-clause-cache : goal.returns-in-TooMuch-clause-cache
returns-in-TooMuch-clause-cache c =
    let self = c.args.self.now in
    legs_on c.args.job.now.program.now c.args.job.now.limits.discipline self c.look.new.self c.requires.cache
    (λ known. c.look.ensures.known self.store self.table c.args.job.now.program.now c.args.job.now.limits.discipline known)

pub learn-requires-clause-cache : goal.learn-requires-clause-cache
learn-requires-clause-cache c =
    let self = c.args.self.now in
    legs_on c.args.job.now.program.now c.args.job.now.limits.discipline self c.look.new.self c.requires.cache
    (λ known. c.look.ensures.known self.store self.table c.args.job.now.program.now c.args.job.now.limits.discipline known)

pub returns-in-Leg-clause-kept : goal.returns-in-Leg-clause-kept
returns-in-Leg-clause-kept c = store_same c.args.self.now.store

pub returns-in-TooMuch-clause-kept : goal.returns-in-TooMuch-clause-kept
returns-in-TooMuch-clause-kept c = store_same c.args.self.now.store

pub learn-requires-clause-sought : goal.learn-requires-clause-sought
learn-requires-clause-sought c =
    let self = c.args.self.now in
    subst (λ l. IfSought l (λ k. IsSought c.look.new.self.effects self.table c.args.row.now c.args.pid k)) c.in-Nothing.is c.in_ok-looked.ensures.sought
