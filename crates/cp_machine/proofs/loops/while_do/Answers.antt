use Rattle.cp_machine.proofs.CallOutcomes.{while_fails, while_goes}
use Rattle.cp_machine.proofs.Words.{machine_of, under, fault, local, outcome, is_true, Bool, ap, false, of_z, rules, sym, to_z, true, w16, ◌∙◌, ◌≡◌}
use Rattle.cp_machine.proofs.PremiseLemmas.{takes_fits, takes_list, takes_reads, takes_replaces, takes_within}
use Rattle.cp_machine.proofs.loops.while_do.Goals as goal

pub returns-in_err-value-clause-after : goal.returns-in_err-value-clause-after
returns-in_err-value-clause-after c =
    let m = machine_of c.args.state.now in
    let told : outcome c.from_residual.result m c.args.pid c.args.item.now.line ≡ fault m c.args.pid c.args.item.now.line c.in_err-value.field-0.0 = search rules in
    while_fails m c.args.pid c.args.item.now.line c.args.test.now c.args.list c.args.again c.args.item.now.next (under m c.args.pid) c.in_err-value.field-0.0 (sym c.value_of.ensures ∙ c.in_err-value.was {u = tt}) ∙ sym told

pub returns-in_err-value-clause-reserved : goal.returns-in_err-value-clause-reserved
returns-in_err-value-clause-reserved c = λ r h. h

pub returns-then-is_true-clause-after : goal.returns-then-is_true-clause-after
returns-then-is_true-clause-after c =
    let m = machine_of c.args.state.now in
    let value_is : to_z w16 (of_z w16 c.in_ok-value.value) ≡ c.in_ok-value.value = search rules in
    let test : ◌≡◌ {A = Bool} (is_true c.in_ok-value.value) true = cc (value_is, c.is_true.ensures, c.if-is_true.true) in
    while_goes m c.args.pid c.args.item.now.line c.args.test.now c.args.list c.args.again c.args.item.now.next (under m c.args.pid) c.in_ok-value.value true (sym c.value_of.ensures ∙ c.in_ok-value.was {u = tt}) test ∙ ap local (sym c.replace_by.ensures.after)

pub returns-then-is_true-clause-reserved : goal.returns-then-is_true-clause-reserved
returns-then-is_true-clause-reserved c = c.replace_by.ensures.reserved

pub returns-else-is_true-clause-after : goal.returns-else-is_true-clause-after
returns-else-is_true-clause-after c =
    let m = machine_of c.args.state.now in
    let value_is : to_z w16 (of_z w16 c.in_ok-value.value) ≡ c.in_ok-value.value = search rules in
    let test : ◌≡◌ {A = Bool} (is_true c.in_ok-value.value) false = cc (value_is, c.is_true.ensures, c.if-is_true.false) in
    while_goes m c.args.pid c.args.item.now.line c.args.test.now c.args.list c.args.again c.args.item.now.next (under m c.args.pid) c.in_ok-value.value false (sym c.value_of.ensures ∙ c.in_ok-value.was {u = tt}) test ∙ ap local (sym c.replace.ensures.after)

pub returns-else-is_true-clause-reserved : goal.returns-else-is_true-clause-reserved
returns-else-is_true-clause-reserved c = c.replace.ensures.reserved

pub value_of-requires : goal.value_of-requires
value_of-requires c = record { pid = takes_within c.requires; reads = takes_reads c.requires }

pub replace-requires : goal.replace-requires
replace-requires c = takes_replaces c.requires

pub replace_by-requires : goal.replace_by-requires
replace_by-requires c = takes_list c.requires c.args.list (takes_fits c.requires).0
