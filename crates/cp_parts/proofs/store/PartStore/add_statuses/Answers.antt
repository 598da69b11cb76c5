use Rattle.std.proofs.Common.{rules, ◌≡◌, ◌+◌, ◌++◌, ◌∷◌, [], arith, subst, sym}
use Rattle.std.proofs.lemmas.List.{length-map}
use Rattle.cp_machine.specs.Machine.{Thread, machine_of, thread_of}
use Rattle.cp_parts.specs.Parts.{HasStatuses, IsStatusNumber}
use Rattle.cp_parts.proofs.Keeping.{statuses_more, store_on, store_same}
use Rattle.cp_parts.proofs.Making.{thread_there}
use Rattle.cp_parts.proofs.store.PartStore.add_statuses.Goals as goal

pub loop-at-init : goal.loop-at-init
loop-at-init c = record { kept = store_same c.args.self.now; has = record { long = c.requires; each = λ q lt. absurd (omega (arith, lt)) } }

pub loop-at-preserved : goal.loop-at-preserved
loop-at-preserved c =
    let ps = c.args.state.now.processes.items in
    let l = c.loop-at in
    let u = c.number_status.new.self in
    let there = thread_there ps l.at c.index.result.now (omega arith) c.index.ensures in
    let pushed : c.push.new.self.items ≡ l.row.items ++ c.in_ok-number.number ∷ [] = search rules in
    record {
      kept = store_on c.args.self.now l.self u l.invariant.kept c.number_status.ensures.kept;
      has = subst (λ xs. HasStatuses u (machine_of c.args.state.now) xs (l.at + 1)) (sym pushed) (statuses_more l.self u (machine_of c.args.state.now) l.row.items l.at c.in_ok-number.number c.number_status.ensures.kept l.invariant.has (subst (λ (x : Thread). IsStatusNumber u x.status c.in_ok-number.number) (sym there) c.in_ok-number.ensures.number));
    }

pub returns-clause-statuses : goal.returns-clause-statuses
returns-clause-statuses c =
    let ps = c.args.state.now.processes.items in
    subst (HasStatuses c.loop-at.self (machine_of c.args.state.now) c.loop-at.row.items) (omega (arith, length-map ps thread_of)) c.loop-at.invariant.has

pub returns-in_err-number-clause-kept : goal.returns-in_err-number-clause-kept
returns-in_err-number-clause-kept c = store_on c.args.self.now c.loop-at.self c.number_status.new.self c.loop-at.invariant.kept c.number_status.ensures.kept

pub returns-in_err-push-clause-kept : goal.returns-in_err-push-clause-kept
returns-in_err-push-clause-kept c = store_on c.args.self.now c.loop-at.self c.number_status.new.self c.loop-at.invariant.kept c.number_status.ensures.kept
