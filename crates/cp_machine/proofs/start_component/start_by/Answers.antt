use Rattle.cp_machine.proofs.Words.{start_by, machine_of, under, rest_of, component_at, ap, sym, ◌∙◌, ◌≡◌, subst}
use Rattle.cp_slots.specs.declared.tables.ComponentKind.TheVariants as kind
use Rattle.cp_machine.specs.Premises.{HasPartyOf}
use Rattle.cp_machine.proofs.start_component.start_by.Goals as goal

pub component-requires : goal.component-requires
component-requires c = c.requires.opens.there

pub returns-in-Process-clause-after : goal.returns-in-Process-clause-after
returns-in-Process-clause-after c =
    let m = machine_of c.args.state.now in
    let is : (component_at c.args.program.now c.args.component).kind ≡ (kind.Process c.in-Process.number) = ap (λ x. x.kind) (sym c.component.ensures.value) ∙ c.in-Process.is in
    ap (λ k. start_by c.args.program.now m c.args.pid c.args.item.now.line k c.args.routine c.args.component c.args.arguments.now c.args.state.now.bounds.items (rest_of c.args.item.now.next (under m c.args.pid))) is ∙ c.start_process.ensures.after

pub returns-in-Process-clause-reserved : goal.returns-in-Process-clause-reserved
returns-in-Process-clause-reserved c = c.start_process.ensures.reserved

pub returns-in-Monitor-clause-after : goal.returns-in-Monitor-clause-after
returns-in-Monitor-clause-after c =
    let m = machine_of c.args.state.now in
    let is : (component_at c.args.program.now c.args.component).kind ≡ (kind.Monitor c.in-Monitor.field-0) = ap (λ x. x.kind) (sym c.component.ensures.value) ∙ c.in-Monitor.is in
    ap (λ k. start_by c.args.program.now m c.args.pid c.args.item.now.line k c.args.routine c.args.component c.args.arguments.now c.args.state.now.bounds.items (rest_of c.args.item.now.next (under m c.args.pid))) is ∙ c.start_inside.ensures.after

pub returns-in-Monitor-clause-reserved : goal.returns-in-Monitor-clause-reserved
returns-in-Monitor-clause-reserved c = c.start_inside.ensures.reserved

pub returns-in-Class-clause-after : goal.returns-in-Class-clause-after
returns-in-Class-clause-after c =
    let m = machine_of c.args.state.now in
    let is : (component_at c.args.program.now c.args.component).kind ≡ kind.Class = ap (λ x. x.kind) (sym c.component.ensures.value) ∙ c.in-Class.is in
    ap (λ k. start_by c.args.program.now m c.args.pid c.args.item.now.line k c.args.routine c.args.component c.args.arguments.now c.args.state.now.bounds.items (rest_of c.args.item.now.next (under m c.args.pid))) is ∙ c.start_inside-in-Class.ensures.after

pub returns-in-Class-clause-reserved : goal.returns-in-Class-clause-reserved
returns-in-Class-clause-reserved c = c.start_inside-in-Class.ensures.reserved

pub start_inside-requires : goal.start_inside-requires
start_inside-requires c = c.requires

pub start_inside-requires-in-Class : goal.start_inside-requires-in-Class
start_inside-requires-in-Class c = c.requires

pub start_process-requires : goal.start_process-requires
start_process-requires c =
    let is : (component_at c.args.program.now c.args.component).kind ≡ (kind.Process c.in-Process.number) = ap (λ x. x.kind) (sym c.component.ensures.value) ∙ c.in-Process.is in
    record { starts = (c.args.routine, c.requires); process = subst (HasPartyOf c.args.state.now) is c.requires.opens.party }
