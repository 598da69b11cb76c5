use Rattle.std.proofs.Common.{◌∙◌, ap, arith}
use Rattle.std.proofs.lemmas.Result.{IfOk-weaker}
use Rattle.cp_machine.specs.Machine.{is_some}
use Rattle.cp_parts.proofs.Keeping.{store_same}
use Rattle.cp_stretches.proofs.Admitting.{begins_free, may_enter}
use Rattle.cp_stretches.proofs.Growing.{can_read}
use Rattle.cp_stretches.proofs.Statuses.{pending_few, pending_is}
use Rattle.cp_stretches.proofs.cache.LegCache.begin.Goals as goal

pub pending_monitor-requires-clause-long : goal.pending_monitor-requires-clause-long
pending_monitor-requires-clause-long c = omega (arith, c.requires.row.1.stands.long)

pub pending_monitor-requires-clause-few : goal.pending_monitor-requires-clause-few
pending_monitor-requires-clause-few c =
    let r = c.args.job.now.program.now in
    let self = c.args.self.now in
    let m = c.requires.row.0 in
    let row = c.args.row.now in
    pending_few r self.store self.table self.numbers m row (can_read r c.args.job.now.limits.discipline self m row c.requires.cache c.requires.row.1)

pub enter-requires-clause-row : goal.enter-requires-clause-row
enter-requires-clause-row c =
    let r = c.args.job.now.program.now in
    let discipline = c.args.job.now.limits.discipline in
    let self = c.args.self.now in
    let m = c.requires.row.0 in
    let stands = c.requires.row.1 in
    let row = c.args.row.now in
    let pending = pending_is r self.store self.table self.numbers m row (can_read r discipline self m row c.requires.cache stands) c.pending_monitor.result c.pending_monitor.ensures ∙ c.in-Some.is in
    (m, may_enter r discipline self.store self.table m row c.args.process c.in-Some.monitor stands pending c.requires.row.2)

pub returns-in-Some-clause-begins : goal.returns-in-Some-clause-begins
returns-in-Some-clause-begins c = IfOk-weaker c.enter.result _ _ (λ turn begins m stands is.
    (let r = c.args.job.now.program.now in
    let discipline = c.args.job.now.limits.discipline in
    let self = c.args.self.now in
    let row = c.args.row.now in
    let pending = pending_is r self.store self.table self.numbers m row (can_read r discipline self m row c.requires.cache stands) c.pending_monitor.result c.pending_monitor.ensures ∙ c.in-Some.is in
    begins m (may_enter r discipline self.store self.table m row c.args.process c.in-Some.monitor stands pending is))) c.enter.ensures.begins

pub returns-in-None-clause-begins : goal.returns-in-None-clause-begins
returns-in-None-clause-begins c = λ m stands is.
    (let r = c.args.job.now.program.now in
    let discipline = c.args.job.now.limits.discipline in
    let self = c.args.self.now in
    let row = c.args.row.now in
    let pending = pending_is r self.store self.table self.numbers m row (can_read r discipline self m row c.requires.cache stands) c.pending_monitor.result c.pending_monitor.ensures ∙ c.in-None.is in
    begins_free r discipline self.store self.table m row c.args.process stands (ap is_some pending) is)

pub returns-in-None-clause-kept : goal.returns-in-None-clause-kept
returns-in-None-clause-kept c = store_same c.args.self.now.store
