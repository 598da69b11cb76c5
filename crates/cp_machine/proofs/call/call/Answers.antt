use Rattle.cp_machine.proofs.Words.{subst, sym, ◌≡◌, ◌∙◌, Ok, ap, machine_of, arguments_of, arith, component_of, call_by, under}
use Rattle.cp_machine.proofs.Words.{rest_of, fault, outcome, Err, rules, bounds_or, FitsNew}
use Rattle.cp_machine.proofs.CallOutcomes.{call_arguments_fail, call_component_fails, call_goes}
use Rattle.cp_machine.proofs.PremiseLemmas.{call_can, call_most, call_opens, open_kept}
use Rattle.cp_machine.proofs.call.call.Goals as goal

pub returns-clause-reserved : goal.returns-clause-reserved
returns-clause-reserved c = λ r h. c.call_by.ensures.reserved r (c.arguments_of.ensures.reserved r h)

pub returns-in_err-component-clause-after : goal.returns-in_err-component-clause-after
returns-in_err-component-clause-after c =
    let m = machine_of c.args.state.now in
    let told : outcome c.from_residual.result m c.args.pid c.args.item.now.line ≡ fault m c.args.pid c.args.item.now.line c.in_err-component.field-0.0 = search rules in
    call_component_fails c.args.program.now m c.args.pid c.args.item.now.line c.args.callee.routine c.args.place.now c.args.callee.is_entry c.args.arguments.now c.args.callee.result (rest_of c.args.item.now.next (under m c.args.pid)) c.in_err-component.field-0.0 (sym c.component_of.ensures ∙ c.in_err-component.was) ∙ sym told

pub returns-in_err-component-clause-reserved : goal.returns-in_err-component-clause-reserved
returns-in_err-component-clause-reserved c = λ r h. h

pub returns-in_err-arguments_of-clause-after : goal.returns-in_err-arguments_of-clause-after
returns-in_err-arguments_of-clause-after c =
    let m = machine_of c.args.state.now in
    let n = machine_of c.arguments_of.new.state in
    let told : outcome c.from_residual-in_err-arguments_of.result n c.args.pid c.args.item.now.line ≡ fault n c.args.pid c.args.item.now.line c.in_err-arguments_of.field-0.0 = search rules in
    let found : component_of m c.args.pid c.args.place.now ≡ Ok c.in_ok-component.component = sym c.component_of.ensures ∙ c.in_ok-component.was in
    let fails : arguments_of m c.args.pid c.args.arguments.now ≡ Err c.in_err-arguments_of.field-0.0 = c.arguments_of.ensures.bounds ∙ ap (λ o. bounds_or o c.arguments_of.new.state.bounds.items) c.in_err-arguments_of.was in
    call_arguments_fail c.args.program.now m c.args.pid c.args.item.now.line c.args.callee.routine c.args.place.now c.args.callee.is_entry c.args.arguments.now c.args.callee.result (rest_of c.args.item.now.next (under m c.args.pid)) c.in_ok-component.component c.in_err-arguments_of.field-0.0 found fails ∙ ap (λ k. fault k c.args.pid c.args.item.now.line c.in_err-arguments_of.field-0.0) (sym c.arguments_of.ensures.same) ∙ sym told

pub returns-in_err-arguments_of-clause-reserved : goal.returns-in_err-arguments_of-clause-reserved
returns-in_err-arguments_of-clause-reserved c = c.arguments_of.ensures.reserved

pub returns-clause-after : goal.returns-clause-after
returns-clause-after c =
    let m = machine_of c.args.state.now in
    let bounds = c.arguments_of.new.state.bounds.items in
    let found : component_of m c.args.pid c.args.place.now ≡ Ok c.in_ok-component.component = sym c.component_of.ensures ∙ c.in_ok-component.was in
    let given : arguments_of m c.args.pid c.args.arguments.now ≡ Ok bounds = c.arguments_of.ensures.bounds ∙ ap (λ o. bounds_or o bounds) c.in_ok-arguments_of.was in
    call_goes c.args.program.now m c.args.pid c.args.item.now.line c.args.callee.routine c.args.place.now c.args.callee.is_entry c.args.arguments.now c.args.callee.result (rest_of c.args.item.now.next (under m c.args.pid)) c.in_ok-component.component bounds found given ∙ ap (λ k. call_by c.args.program.now k c.args.pid c.args.item.now.line c.args.callee.is_entry c.args.callee.routine c.in_ok-component.component c.args.arguments.now bounds c.args.callee.result (rest_of c.args.item.now.next (under k c.args.pid))) (sym c.arguments_of.ensures.same) ∙ c.call_by.ensures.after

pub component_of-requires : goal.component_of-requires
component_of-requires c = record { pid = c.requires.2.taken.within; finds = (call_can c.requires).component.found }

pub arguments_of-requires : goal.arguments_of-requires
arguments_of-requires c = record { pid = c.requires.2.taken.within; reads = (call_can c.requires).reads; room = omega (arith, call_most c.requires, c.requires.2.taken.own.reserved.bounds) }

pub call_by-requires : goal.call_by-requires
call_by-requires c =
    let r = c.args.program.now in
    let s = c.args.state.now in
    let m = machine_of s in
    let component = c.in_ok-component.component in
    let bounds = c.arguments_of.new.state.bounds.items in
    let found : component_of m c.args.pid c.args.place.now ≡ Ok component = sym c.component_of.ensures ∙ c.in_ok-component.was in
    let given : arguments_of m c.args.pid c.args.arguments.now ≡ Ok bounds = c.arguments_of.ensures.bounds ∙ ap (λ o. bounds_or o bounds) c.in_ok-arguments_of.was in
    let can = call_can c.requires in
    let there = (can.component.owner component found).0 in
    record {
      opens = open_kept r s c.arguments_of.new.state c.args.pid c.args.callee.routine component c.arguments_of.ensures.same c.arguments_of.ensures.processes (call_opens c.requires component there);
      count = c.in_ok-arguments_of.ensures.count;
      fit = subst (λ k. FitsNew r k c.args.pid c.args.callee.routine component c.args.arguments.now bounds) (sym c.arguments_of.ensures.same) (can.fit component bounds given);
    }
