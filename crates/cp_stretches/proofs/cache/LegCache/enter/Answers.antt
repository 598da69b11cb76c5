use Rattle.std.proofs.Common.{◌≡◌, ◌∙◌, ◌+◌, ◌<◌, ap, arith, length, subst, sym}
use Rattle.cp_machine.specs.Opening.{admit_waiting}
use Rattle.cp_parts.specs.Placed.{place_count}
use Rattle.cp_stretches.specs.Numbers.{CanRead}
use Rattle.cp_stretches.specs.Stretching.{Begins, MayEnter}
use Rattle.cp_stretches.proofs.Admitting.{admitted_long, begins_let_in, guard_within, pid_waits, stands_let_in}
use Rattle.cp_stretches.proofs.Growing.{can_read, may_enter_on}
use Rattle.cp_stretches.proofs.cache.LegCache.enter.Goals as goal

pub returns-clause-begins : goal.returns-clause-begins
returns-clause-begins c = λ m may.
    (let r = c.args.job.now.program.now in
    let discipline = c.args.job.now.limits.discipline in
    let old = c.args.self.now in
    let self = c.part_after.new.self in
    let s = self.store in
    let t = self.table in
    let pid = c.args.pid in
    let monitor = c.args.monitor in
    let row = c.args.row.now in
    let part = c.in_ok-part.part in
    let cache = c.in_ok-part.ensures.cache in
    let known = c.in_ok-part.ensures.admission in
    let may_now : MayEnter r discipline s t m row pid monitor = subst (λ u. MayEnter r discipline s u m row pid monitor) (sym c.part_after.ensures.table) (may_enter_on old.store s c.part_after.ensures.kept r discipline old.table m row pid monitor may) in
    let after = admit_waiting m pid in
    let stands = stands_let_in r discipline s t m row pid monitor part cache.placed may_now known in
    let new = c.write_admission.new.row in
    let read : CanRead r s t self.numbers after new = subst (CanRead r s t self.numbers after) (sym c.write_admission.ensures) (can_read r discipline self after _ cache stands) in
    subst (λ xs. Begins r discipline s t m pid c.settled_turn.result xs) (sym c.write_admission.ensures)
    (begins_let_in r discipline s t m row pid monitor part cache.placed may_now known c.settled_turn.result (c.settled_turn.ensures r s after discipline pid read)))

pub write_admission-requires : goal.write_admission-requires
write_admission-requires c =
    let r = c.args.job.now.program.now in
    let discipline = c.args.job.now.limits.discipline in
    let old = c.args.self.now in
    let m = c.requires.row.0 in
    let may = c.requires.row.1 in
    let row = c.args.row.now in
    let pid = c.args.pid in
    let monitor = c.args.monitor in
    let table = sym c.part_after.ensures.table in
    record {
      pid = subst (λ t. pid < t.processes) table (pid_waits r discipline old m row pid monitor c.requires.cache may);
      monitor = subst (λ t. monitor < t.monitors) table (guard_within r discipline old m row pid monitor c.requires.cache may);
      long = subst (λ t. length row ≡ t.processes + 1 + place_count t) table may.machine.stands.long;
    }

pub settled_turn-requires : goal.settled_turn-requires
settled_turn-requires c =
    let self = c.part_after.new.self in
    let row = c.args.row.now in
    let long : length row ≡ self.table.processes + 1 + place_count self.table = subst (λ t. length row ≡ t.processes + 1 + place_count t) (sym c.part_after.ensures.table) c.requires.row.1.machine.stands.long in
    let new : length c.write_admission.new.row ≡ length row = ap length c.write_admission.ensures ∙ admitted_long self.store self.table c.args.pid c.args.monitor c.in_ok-part.part row in
    omega (arith, long, new)
