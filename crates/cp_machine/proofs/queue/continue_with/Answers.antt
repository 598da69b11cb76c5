use Rattle.cp_machine.proofs.Words.{◌≡◌, ◌∙◌, ap, arith, subst, sym, machine_of, under, Permanent, HasCells, fault, local, outcome, rules}
use Rattle.cp_machine.proofs.CallOutcomes.{continue_fails, continue_goes}
use Rattle.cp_machine.proofs.PremiseLemmas.{item_replaces, takes_reads}
use Rattle.cp_machine.proofs.queue.continue_with.Goals as goal

pub returns-in_err-cell-clause-after : goal.returns-in_err-cell-clause-after
returns-in_err-cell-clause-after c =
    let m = machine_of c.args.state.now in
    let told : outcome c.from_residual.result m c.args.pid c.args.item.now.line ≡ fault m c.args.pid c.args.item.now.line c.in_err-cell.field-0.0 = search rules in
    continue_fails c.args.program.now m c.args.pid c.args.item.now.line c.args.place.now c.args.item.now.next (under m c.args.pid) c.in_err-cell.field-0.0 (sym c.address_of.ensures.value ∙ c.in_err-cell.was {u = tt}) ∙ sym told

pub returns-in_err-cell-clause-reserved : goal.returns-in_err-cell-clause-reserved
returns-in_err-cell-clause-reserved c = λ r h. h

pub returns-in-Local-clause-after : goal.returns-in-Local-clause-after
returns-in-Local-clause-after c =
    let m = machine_of c.args.state.now in
    continue_goes c.args.program.now m c.args.pid c.args.item.now.line c.args.place.now c.args.item.now.next (under m c.args.pid) _ _ (sym c.address_of.ensures.value ∙ c.in_ok-cell.was {u = tt}) c.in-Local.is ∙ ap local (sym c.replace.ensures.after)

pub returns-in-Local-clause-reserved : goal.returns-in-Local-clause-reserved
returns-in-Local-clause-reserved c = c.replace.ensures.reserved

pub continue_at-requires-clause-cell : goal.continue_at-requires-clause-cell
continue_at-requires-clause-cell c =
    let m = machine_of c.args.state.now in
    let has : HasCells m c.args.pid (Permanent c.in-Permanent.cell) 1 = subst (λ a. HasCells m c.args.pid a 1) c.in-Permanent.is (c.in_ok-cell.ensures.cells 1 (takes_reads (c.args.program.now, c.requires))) in
    omega (arith, has)

pub returns-in-Permanent-clause-after : goal.returns-in-Permanent-clause-after
returns-in-Permanent-clause-after c =
    let m = machine_of c.args.state.now in
    continue_goes c.args.program.now m c.args.pid c.args.item.now.line c.args.place.now c.args.item.now.next (under m c.args.pid) _ _ (sym c.address_of.ensures.value ∙ c.in_ok-cell.was {u = tt}) c.in-Permanent.is ∙ c.continue_at.ensures.after

pub address_of-requires : goal.address_of-requires
address_of-requires c = record { pid = c.requires.taken.within; reach = (1, takes_reads (c.args.program.now, c.requires)) }

pub continue_at-requires-clause-taken : goal.continue_at-requires-clause-taken
continue_at-requires-clause-taken c = (c.requires.at, c.requires.taken)

pub replace-requires : goal.replace-requires
replace-requires c = item_replaces c.requires.taken
