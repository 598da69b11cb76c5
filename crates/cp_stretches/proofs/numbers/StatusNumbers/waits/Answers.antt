use Rattle.std.proofs.Common.{◌≡◌, ◌∙◌, ◌<◌, arith, false, sym}
use borrow.Author.Count.{below_more}
use Rattle.cp_machine.specs.Machine.{is_waiting}
use Rattle.cp_states.specs.Numbers.{number_at}
use Rattle.cp_effect_laws.specs.Parts.{status_at}
use Rattle.cp_stretches.proofs.Statuses.{rests_rests, waits_at, waits_nowhere, waits_waits}
use Rattle.cp_stretches.proofs.numbers.StatusNumbers.waits.Goals as goal

pub loop-process-init : goal.loop-process-init
loop-process-init c = λ r s m can q lt. absurd (omega (arith, lt))

pub loop-process-preserved : goal.loop-process-preserved
loop-process-preserved c = λ r s m can.
    (let n = c.args.self.now in
    let row = c.args.row.now in
    let p = c.loop-process.process in
    let lt : p < c.args.table.now.processes = omega arith in
    below_more (λ q. is_waiting (status_at m q) ≡ false) p (c.loop-process.invariant r s m can)
    (rests_rests s r.monitors n (status_at m p) (number_at row p) can.numbers (can.stands.statuses p lt) (sym c.rests.ensures ∙ c.if-not-rests.false)))

pub returns-then-not-rests : goal.returns-then-not-rests
returns-then-not-rests c = λ r s m can.
    (let n = c.args.self.now in
    let row = c.args.row.now in
    let p = c.loop-process.process in
    let lt : p < c.args.table.now.processes = omega arith in
    sym (waits_at r s c.args.table.now n m row can p lt (waits_waits s r.monitors n (status_at m p) (number_at row p) can.numbers (can.stands.statuses p lt) (sym c.rests.ensures ∙ c.if-not-rests.true))))

pub returns : goal.returns
returns c = λ r s m can. sym (waits_nowhere r s c.args.table.now c.args.self.now m c.args.row.now can (λ q lt. c.loop-process.invariant r s m can q (omega (arith, lt))))
