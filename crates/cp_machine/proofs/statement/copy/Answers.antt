use Rattle.cp_machine.proofs.Words.{◌≡◌, ◌∙◌, ap, rules, sym, machine_of, under, with_stack, cells_put, rest_of, fault, local, outcome}
use Rattle.cp_machine.proofs.Outcomes.{copy_done, copy_from_fails, copy_to_fails, replaced_has, replaced_within}
use Rattle.cp_machine.proofs.PremiseLemmas.{takes_reads, takes_replaces, takes_within}
use Rattle.cp_machine.proofs.statement.copy.Goals as goal

pub returns-clause-after : goal.returns-clause-after
returns-clause-after c =
    let m = machine_of c.args.state.now in
    let rest = rest_of c.args.item.now.next (under m c.args.pid) in
    let put : machine_of c.put_cells.new.state ≡ cells_put (with_stack m c.args.pid rest) c.args.pid c.in_ok-to.to c.in_ok-from.from c.args.size = c.put_cells.ensures.after ∙ ap (λ n. cells_put n c.args.pid c.in_ok-to.to c.in_ok-from.from c.args.size) c.replace.ensures.after in
    copy_done m c.args.pid c.args.item.now.line c.args.target.now c.args.source.now c.args.size rest c.in_ok-from.from c.in_ok-to.to (sym c.address_of.ensures.value ∙ c.in_ok-from.was {u = tt}) (sym c.address_of-2.ensures.value ∙ c.in_ok-to.was {u = tt}) ∙ ap local (sym put)

pub returns-clause-reserved : goal.returns-clause-reserved
returns-clause-reserved c = λ r h. c.put_cells.ensures.reserved r (c.replace.ensures.reserved r h)

pub returns-in_err-from-clause-after : goal.returns-in_err-from-clause-after
returns-in_err-from-clause-after c =
    let m = machine_of c.args.state.now in
    let rest = rest_of c.args.item.now.next (under m c.args.pid) in
    let told : outcome c.from_residual.result m c.args.pid c.args.item.now.line ≡ fault m c.args.pid c.args.item.now.line c.in_err-from.field-0.0 = search rules in
    copy_from_fails m c.args.pid c.args.item.now.line c.args.target.now c.args.source.now c.args.size rest c.in_err-from.field-0.0 (sym c.address_of.ensures.value ∙ c.in_err-from.was {u = tt}) ∙ sym told

pub returns-in_err-to-clause-after : goal.returns-in_err-to-clause-after
returns-in_err-to-clause-after c =
    let m = machine_of c.args.state.now in
    let rest = rest_of c.args.item.now.next (under m c.args.pid) in
    let told : outcome c.from_residual-in_err-to.result m c.args.pid c.args.item.now.line ≡ fault m c.args.pid c.args.item.now.line c.in_err-to.field-0.0 = search rules in
    copy_to_fails m c.args.pid c.args.item.now.line c.args.target.now c.args.source.now c.args.size rest c.in_ok-from.from c.in_err-to.field-0.0 (sym c.address_of.ensures.value ∙ c.in_ok-from.was {u = tt}) (sym c.address_of-2.ensures.value ∙ c.in_err-to.was {u = tt}) ∙ sym told

pub returns-in_err-from-clause-reserved : goal.returns-in_err-from-clause-reserved
returns-in_err-from-clause-reserved c = λ r h. h

pub returns-in_err-to-clause-reserved : goal.returns-in_err-to-clause-reserved
returns-in_err-to-clause-reserved c = λ r h. h

pub put_cells-requires-clause-pid : goal.put_cells-requires-clause-pid
put_cells-requires-clause-pid c = replaced_within c.args.state.now c.replace.new.state c.args.pid _ c.replace.ensures.after (takes_within c.requires)

pub put_cells-requires-clause-to : goal.put_cells-requires-clause-to
put_cells-requires-clause-to c = replaced_has c.args.state.now c.replace.new.state c.args.pid _ c.in_ok-to.to c.args.size c.replace.ensures.after (takes_within c.requires) (c.in_ok-to.ensures.cells c.args.size (takes_reads c.requires).1)

pub put_cells-requires-clause-from : goal.put_cells-requires-clause-from
put_cells-requires-clause-from c = replaced_has c.args.state.now c.replace.new.state c.args.pid _ c.in_ok-from.from c.args.size c.replace.ensures.after (takes_within c.requires) (c.in_ok-from.ensures.cells c.args.size (takes_reads c.requires).0)

pub address_of-requires : goal.address_of-requires
address_of-requires c = record { pid = takes_within c.requires; reach = (c.args.size, (takes_reads c.requires).0) }

pub address_of-requires-2 : goal.address_of-requires-2
address_of-requires-2 c = record { pid = takes_within c.requires; reach = (c.args.size, (takes_reads c.requires).1) }

pub replace-requires : goal.replace-requires
replace-requires c = takes_replaces c.requires
