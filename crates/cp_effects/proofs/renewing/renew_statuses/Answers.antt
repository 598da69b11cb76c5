use Rattle.std.proofs.Common.{◌<◌, arith, length, subst, sym}
use Rattle.std.proofs.lemmas.List.{length-map}
use Rattle.cp_machine.specs.Machine.{Thread, machine_of, thread_of}
use Rattle.cp_parts.specs.Parts.{IsStatusNumber}
use Rattle.cp_parts.proofs.Keeping.{store_on, store_same}
use Rattle.cp_parts.proofs.Making.{thread_there}
use Rattle.cp_effects.specs.Renewing.{HasNewStatuses}
use Rattle.cp_effects.proofs.Renewed.{statuses_next, statuses_none}
use Rattle.cp_effects.proofs.renewing.renew_statuses.Goals as goal

pub loop-at-init : goal.loop-at-init
loop-at-init c = record { kept = store_same c.args.store.now; has = statuses_none c.args.store.now (machine_of c.args.state.now) c.args.row.now }

pub bounds-row-at : goal.bounds-row-at
bounds-row-at c =
    let ps = c.args.state.now.processes.items in
    omega (arith, c.requires, c.loop-at.invariant.has.long, length-map ps thread_of)

pub loop-at-preserved : goal.loop-at-preserved
loop-at-preserved c =
    let ps = c.args.state.now.processes.items in
    let l = c.loop-at in
    let u = c.number_status.new.self in
    let m = machine_of c.args.state.now in
    let there = thread_there ps l.at c.index.result.now (omega arith) c.index.ensures in
    let lt : l.at < length l.row = omega (arith, c.requires, l.invariant.has.long, length-map ps thread_of) in
    record {
      kept = store_on c.args.store.now l.store u l.invariant.kept c.number_status.ensures.kept;
      has = statuses_next l.store u m c.args.row.now l.row l.at c.in_ok-number.number c.number_status.ensures.kept lt (subst (λ (x : Thread). IsStatusNumber u x.status c.in_ok-number.number) (sym there) c.in_ok-number.ensures.number) l.invariant.has;
    }

pub returns-clause-statuses : goal.returns-clause-statuses
returns-clause-statuses c =
    let ps = c.args.state.now.processes.items in
    subst (HasNewStatuses c.loop-at.store (machine_of c.args.state.now) c.args.row.now c.loop-at.row) (omega (arith, length-map ps thread_of)) c.loop-at.invariant.has

pub returns-in_err-number-clause-kept : goal.returns-in_err-number-clause-kept
returns-in_err-number-clause-kept c = store_on c.args.store.now c.loop-at.store c.number_status.new.self c.loop-at.invariant.kept c.number_status.ensures.kept
