use Rattle.cp_machine.proofs.Words.{◌≡◌, ◌∙◌, Err, Ok, Result, ap, of_z, rules, sym, to_z, w16, ℤ, ErrorName, check_range, machine_of, under, with_stack, number_put, rest_of, fault, local, outcome}
use Rattle.cp_machine.proofs.Outcomes.{assign_done, assign_left_fails, assign_range_fails, assign_right_fails, replaced_has, replaced_within}
use Rattle.cp_machine.proofs.PremiseLemmas.{takes_reads, takes_replaces, takes_within}
use Rattle.cp_machine.proofs.statement.assign.Goals as goal

pub returns-clause-reserved : goal.returns-clause-reserved
returns-clause-reserved c = λ r h. c.put_number.ensures.reserved r (c.replace.ensures.reserved r h)

pub returns-clause-after : goal.returns-clause-after
returns-clause-after c =
    let m = machine_of c.args.state.now in
    let rest = rest_of c.args.item.now.next (under m c.args.pid) in
    let low_is : to_z w16 (of_z w16 c.args.low.now) ≡ c.args.low.now = search rules in
    let high_is : to_z w16 (of_z w16 c.args.high.now) ≡ c.args.high.now = search rules in
    let right_is : to_z w16 (of_z w16 c.in_ok-right.right) ≡ c.in_ok-right.right = search rules in
    let value_is : to_z w16 (of_z w16 c.in_ok-value.value) ≡ c.in_ok-value.value = search rules in
    let range : ◌≡◌ {A = Result ℤ ErrorName} (check_range c.args.low.now c.args.high.now c.in_ok-right.right) (Ok c.in_ok-value.value) = cc (low_is, high_is, right_is, c.check_range.ensures, c.in_ok-value.was {u = tt}) in
    let put : machine_of c.put_number.new.state ≡ number_put (with_stack m c.args.pid rest) c.args.pid c.in_ok-left.left c.in_ok-value.value = c.put_number.ensures.after ∙ ap (λ n. number_put n c.args.pid c.in_ok-left.left (to_z w16 (of_z w16 c.in_ok-value.value))) c.replace.ensures.after ∙ ap (λ z. number_put (with_stack m c.args.pid rest) c.args.pid c.in_ok-left.left z) value_is in
    assign_done m c.args.pid c.args.item.now.line c.args.target.now c.args.value.now c.args.low.now c.args.high.now rest c.in_ok-right.right c.in_ok-left.left c.in_ok-value.value (sym c.value_here.ensures ∙ c.in_ok-right.was {u = tt}) (sym c.address_of.ensures.value ∙ c.in_ok-left.was {u = tt}) range ∙ ap local (sym put)

pub returns-in_err-right-clause-after : goal.returns-in_err-right-clause-after
returns-in_err-right-clause-after c =
    let m = machine_of c.args.state.now in
    let rest = rest_of c.args.item.now.next (under m c.args.pid) in
    let told : outcome c.from_residual.result m c.args.pid c.args.item.now.line ≡ fault m c.args.pid c.args.item.now.line c.in_err-right.field-0.0 = search rules in
    assign_right_fails m c.args.pid c.args.item.now.line c.args.target.now c.args.value.now c.args.low.now c.args.high.now rest c.in_err-right.field-0.0 (sym c.value_here.ensures ∙ c.in_err-right.was {u = tt}) ∙ sym told

pub returns-in_err-left-clause-after : goal.returns-in_err-left-clause-after
returns-in_err-left-clause-after c =
    let m = machine_of c.args.state.now in
    let rest = rest_of c.args.item.now.next (under m c.args.pid) in
    let told : outcome c.from_residual-in_err-left.result m c.args.pid c.args.item.now.line ≡ fault m c.args.pid c.args.item.now.line c.in_err-left.field-0.0 = search rules in
    assign_left_fails m c.args.pid c.args.item.now.line c.args.target.now c.args.value.now c.args.low.now c.args.high.now rest c.in_ok-right.right c.in_err-left.field-0.0 (sym c.value_here.ensures ∙ c.in_ok-right.was {u = tt}) (sym c.address_of.ensures.value ∙ c.in_err-left.was {u = tt}) ∙ sym told

pub returns-in_err-value-clause-after : goal.returns-in_err-value-clause-after
returns-in_err-value-clause-after c =
    let m = machine_of c.args.state.now in
    let rest = rest_of c.args.item.now.next (under m c.args.pid) in
    let low_is : to_z w16 (of_z w16 c.args.low.now) ≡ c.args.low.now = search rules in
    let high_is : to_z w16 (of_z w16 c.args.high.now) ≡ c.args.high.now = search rules in
    let right_is : to_z w16 (of_z w16 c.in_ok-right.right) ≡ c.in_ok-right.right = search rules in
    let told : outcome c.from_residual-in_err-value.result m c.args.pid c.args.item.now.line ≡ fault m c.args.pid c.args.item.now.line c.in_err-value.field-0.0 = search rules in
    let range : ◌≡◌ {A = Result ℤ ErrorName} (check_range c.args.low.now c.args.high.now c.in_ok-right.right) (Err c.in_err-value.field-0.0) = cc (low_is, high_is, right_is, c.check_range.ensures, c.in_err-value.was {u = tt}) in
    assign_range_fails m c.args.pid c.args.item.now.line c.args.target.now c.args.value.now c.args.low.now c.args.high.now rest c.in_ok-right.right c.in_ok-left.left c.in_err-value.field-0.0 (sym c.value_here.ensures ∙ c.in_ok-right.was {u = tt}) (sym c.address_of.ensures.value ∙ c.in_ok-left.was {u = tt}) range ∙ sym told

pub returns-in_err-left-clause-reserved : goal.returns-in_err-left-clause-reserved
returns-in_err-left-clause-reserved c = λ r h. h

pub returns-in_err-right-clause-reserved : goal.returns-in_err-right-clause-reserved
returns-in_err-right-clause-reserved c = λ r h. h

pub returns-in_err-value-clause-reserved : goal.returns-in_err-value-clause-reserved
returns-in_err-value-clause-reserved c = λ r h. h

pub put_number-requires-clause-pid : goal.put_number-requires-clause-pid
put_number-requires-clause-pid c = replaced_within c.args.state.now c.replace.new.state c.args.pid _ c.replace.ensures.after (takes_within c.requires)

pub put_number-requires-clause-cells : goal.put_number-requires-clause-cells
put_number-requires-clause-cells c = replaced_has c.args.state.now c.replace.new.state c.args.pid _ c.in_ok-left.left 1 c.replace.ensures.after (takes_within c.requires) (c.in_ok-left.ensures.cells 1 (takes_reads c.requires).1)

pub value_here-requires : goal.value_here-requires
value_here-requires c = record { pid = takes_within c.requires; reads = (takes_reads c.requires).0 }

pub address_of-requires : goal.address_of-requires
address_of-requires c = record { pid = takes_within c.requires; reach = (1, (takes_reads c.requires).1) }

pub replace-requires : goal.replace-requires
replace-requires c = takes_replaces c.requires
