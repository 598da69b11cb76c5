use Rattle.cp_machine.proofs.Words.{machine_of, under, Stepped, outcome, act, Event, ap, sym, ◌∙◌, IsTaken, subst}
use Rattle.cp_machine.proofs.take.take_item.Goals as goal

pub returns-in-Ok-clause-after : goal.returns-in-Ok-clause-after
returns-in-Ok-clause-after c =
    let m = machine_of c.args.state.now in
    let n = machine_of c.perform.new.state in
    ap (λ i. act c.args.program.now m c.args.pid c.args.at i i.action (under m c.args.pid)) (sym c.item-item.ensures.value) ∙ c.perform.ensures.after ∙ ap (λ o. outcome o n c.args.pid c.item-item.result.now.line) c.in-Ok.is

pub returns-in-Ok-clause-reserved : goal.returns-in-Ok-clause-reserved
returns-in-Ok-clause-reserved c = c.perform.ensures.reserved

pub returns-in-Err-clause-after : goal.returns-in-Err-clause-after
returns-in-Err-clause-after c =
    let m = machine_of c.args.state.now in
    let n = machine_of c.perform.new.state in
    let told : Event → Stepped = λ e. record { machine = n; event = e } in
    ap (λ i. act c.args.program.now m c.args.pid c.args.at i i.action (under m c.args.pid)) (sym c.item-item.ensures.value) ∙ c.perform.ensures.after ∙ ap (λ o. outcome o n c.args.pid c.item-item.result.now.line) c.in-Err.is ∙ ap told (sym c.fault_event.ensures)

pub returns-in-Err-clause-reserved : goal.returns-in-Err-clause-reserved
returns-in-Err-clause-reserved c = c.perform.ensures.reserved

pub perform-requires : goal.perform-requires
perform-requires c = subst (IsTaken c.args.program.now c.args.state.now c.args.pid c.args.at) (sym c.item-item.ensures.value) c.requires
