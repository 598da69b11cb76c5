use Rattle.cp_machine.specs.declared.process.Status.TheVariants.{Ended, Unstarted}
use Rattle.cp_parts.proofs.Keeping.{store_on}
use Rattle.cp_stretches.proofs.Growing.{status_stays}
use Rattle.cp_stretches.proofs.numbers.StatusNumbers.new.Goals as goal

pub returns-clause-numbers : goal.returns-clause-numbers
returns-clause-numbers c =
    let first = c.number_status.new.self in
    let second = c.number_status-2.new.self in
    let last = c.gate_numbers.new.store in
    record {
      ready = last.is_ready;
      unstarted = status_stays second last c.gate_numbers.ensures.kept Unstarted c.in_ok-unstarted.unstarted (status_stays first second c.number_status-2.ensures.kept Unstarted c.in_ok-unstarted.unstarted c.in_ok-unstarted.ensures.number);
      ended = status_stays second last c.gate_numbers.ensures.kept Ended c.in_ok-ended.ended c.in_ok-ended.ensures.number;
      gates = c.in_ok-at_gate.ensures.long;
      at_gate = c.in_ok-at_gate.ensures.each;
    }

pub returns-clause-kept : goal.returns-clause-kept
returns-clause-kept c =
    let s = c.args.store.now in
    let first = c.number_status.new.self in
    let second = c.number_status-2.new.self in
    store_on s second c.gate_numbers.new.store (store_on s first second c.number_status.ensures.kept c.number_status-2.ensures.kept) c.gate_numbers.ensures.kept

pub returns-in_err-ended-clause-kept : goal.returns-in_err-ended-clause-kept
returns-in_err-ended-clause-kept c = store_on c.args.store.now c.number_status.new.self c.number_status-2.new.self c.number_status.ensures.kept c.number_status-2.ensures.kept

pub returns-in_err-at_gate-clause-kept : goal.returns-in_err-at_gate-clause-kept
returns-in_err-at_gate-clause-kept c =
    let s = c.args.store.now in
    let first = c.number_status.new.self in
    let second = c.number_status-2.new.self in
    store_on s second c.gate_numbers.new.store (store_on s first second c.number_status.ensures.kept c.number_status-2.ensures.kept) c.gate_numbers.ensures.kept
