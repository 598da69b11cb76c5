use Rattle.cp_machine.proofs.Words.{◌≡◌, ◌∙◌, ap, sym, component_at, call_in, machine_of, under, rest_of, local, subst}
use Rattle.cp_slots.specs.declared.tables.ComponentKind.TheVariants as kind
use Rattle.cp_machine.specs.Premises.{HasPartyOf}
use Rattle.cp_machine.proofs.call.call_entry.Goals as goal

pub returns-in-Monitor-clause-after : goal.returns-in-Monitor-clause-after
returns-in-Monitor-clause-after c =
    let m = machine_of c.args.state.now in
    let is : (component_at c.args.program.now c.args.component).kind ≡ (kind.Monitor c.in-Monitor.monitor) = ap (λ x. x.kind) (sym c.component.ensures.value) ∙ c.in-Monitor.is in
    ap (λ k. call_in c.args.program.now m c.args.pid k c.args.callee.routine c.args.component c.args.arguments.now c.args.state.now.bounds.items c.args.callee.result (rest_of c.args.item.now.next (under m c.args.pid))) is ∙ c.call_monitor.ensures.after

pub returns-in-Class-clause-after : goal.returns-in-Class-clause-after
returns-in-Class-clause-after c =
    let m = machine_of c.args.state.now in
    let is : (component_at c.args.program.now c.args.component).kind ≡ kind.Class = ap (λ x. x.kind) (sym c.component.ensures.value) ∙ c.in-Class.is in
    ap (λ k. call_in c.args.program.now m c.args.pid k c.args.callee.routine c.args.component c.args.arguments.now c.args.state.now.bounds.items c.args.callee.result (rest_of c.args.item.now.next (under m c.args.pid))) is ∙ ap local (sym c.open_call.ensures.after)

pub returns-in-Process-clause-after : goal.returns-in-Process-clause-after
returns-in-Process-clause-after c =
    let m = machine_of c.args.state.now in
    let is : (component_at c.args.program.now c.args.component).kind ≡ (kind.Process c.in-Process.field-0) = ap (λ x. x.kind) (sym c.component.ensures.value) ∙ c.in-Process.is in
    ap (λ k. call_in c.args.program.now m c.args.pid k c.args.callee.routine c.args.component c.args.arguments.now c.args.state.now.bounds.items c.args.callee.result (rest_of c.args.item.now.next (under m c.args.pid))) is ∙ ap local (sym c.replace.ensures.after)

pub returns-in-Monitor-clause-reserved : goal.returns-in-Monitor-clause-reserved
returns-in-Monitor-clause-reserved c = c.call_monitor.ensures.reserved

pub returns-in-Class-clause-reserved : goal.returns-in-Class-clause-reserved
returns-in-Class-clause-reserved c = c.open_call.ensures.reserved

pub returns-in-Process-clause-reserved : goal.returns-in-Process-clause-reserved
returns-in-Process-clause-reserved c = c.replace.ensures.reserved

pub component-requires : goal.component-requires
component-requires c = c.requires.opens.there

pub open_call-requires : goal.open_call-requires
open_call-requires c = c.requires

pub replace-requires : goal.replace-requires
replace-requires c = c.requires.opens.replaces

pub call_monitor-requires : goal.call_monitor-requires
call_monitor-requires c =
    let is : (component_at c.args.program.now c.args.component).kind ≡ (kind.Monitor c.in-Monitor.monitor) = ap (λ x. x.kind) (sym c.component.ensures.value) ∙ c.in-Monitor.is in
    record { calls = c.requires; gate = subst (HasPartyOf c.args.state.now) is c.requires.opens.party }
