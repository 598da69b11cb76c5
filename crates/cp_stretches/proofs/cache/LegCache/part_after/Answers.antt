use Rattle.std.proofs.Common.{◌∙◌, sym}
use Rattle.cp_states.specs.Numbers.{number_at}
use Rattle.cp_parts.proofs.Keeping.{store_same}
use Rattle.cp_effects.specs.Admitting.{guard_position}
use Rattle.cp_effects.proofs.Admitted.{known_admission}
use Rattle.cp_stretches.proofs.Growing.{admissions_kept}
use Rattle.cp_stretches.proofs.cache.LegCache.part_after.Goals as goal

pub returns-in-Some-clause-admission : goal.returns-in-Some-clause-admission
returns-in-Some-clause-admission c =
    let r = c.args.job.now.program.now in
    let self = c.args.self.now in
    known_admission self.store self.table r c.number_key.new.self (c.number_key.ensures.known self.store self.table r c.requires.cache.admissions) c.in_ok-key.key c.args.pid c.args.monitor
    (number_at c.args.row.now (guard_position self.table c.args.monitor)) c.in-Some.part c.in_ok-key.ensures.key (sym c.at.ensures ∙ c.in-Some.is)

pub returns-in-Some-clause-cache : goal.returns-in-Some-clause-cache
returns-in-Some-clause-cache c =
    let self = c.args.self.now in
    admissions_kept c.args.job.now.program.now c.args.job.now.limits.discipline self c.number_key.new.self c.requires.cache (λ known. c.number_key.ensures.known self.store self.table c.args.job.now.program.now known)

pub returns-in-Some-clause-kept : goal.returns-in-Some-clause-kept
returns-in-Some-clause-kept c = store_same c.args.self.now.store

pub learn_admission-requires-clause-cache : goal.learn_admission-requires-clause-cache
learn_admission-requires-clause-cache c =
    let self = c.args.self.now in
    admissions_kept c.args.job.now.program.now c.args.job.now.limits.discipline self c.number_key.new.self c.requires.cache (λ known. c.number_key.ensures.known self.store self.table c.args.job.now.program.now known)

pub learn_admission-requires-clause-key : goal.learn_admission-requires-clause-key
learn_admission-requires-clause-key c = c.in_ok-key.ensures.key
