use Rattle.cp_machine.proofs.Words.{machine_of, under, Stepped, outcome, successor_step, Event, Successor, ap, of_z, rules, sym, to_z, w16, ◌∙◌, ◌∷◌, ◌≡◌}
use Rattle.cp_machine.proofs.take.take_successor.Goals as goal

pub returns-in-Ok-clause-reserved : goal.returns-in-Ok-clause-reserved
returns-in-Ok-clause-reserved c = c.perform_successor.ensures.reserved _ c.requires.own.reserved

pub returns-in-Err-clause-reserved : goal.returns-in-Err-clause-reserved
returns-in-Err-clause-reserved c = c.perform_successor.ensures.reserved _ c.requires.own.reserved

pub returns-in-Ok-clause-after : goal.returns-in-Ok-clause-after
returns-in-Ok-clause-after c =
    let m = machine_of c.args.state.now in
    let n = machine_of c.perform_successor.new.state in
    let es = under m c.args.pid in
    let value_is : to_z w16 (of_z w16 c.args.value) ≡ c.args.value = search rules in
    let last_is : to_z w16 (of_z w16 c.args.last) ≡ c.args.last = search rules in
    ap (λ i. successor_step m c.args.pid c.args.at i i.action es c.args.value c.args.last) (sym c.item-item.ensures.value) ∙ ap (λ v. successor_step m c.args.pid c.args.at c.item-item.result.now c.item-item.result.now.action es v c.args.last) (sym value_is) ∙ ap (λ v. successor_step m c.args.pid c.args.at c.item-item.result.now c.item-item.result.now.action es (to_z w16 (of_z w16 c.args.value)) v) (sym last_is) ∙ c.perform_successor.ensures.after ∙ ap (λ o. outcome o n c.args.pid c.item-item.result.now.line) c.in-Ok.is

pub returns-in-Err-clause-after : goal.returns-in-Err-clause-after
returns-in-Err-clause-after c =
    let m = machine_of c.args.state.now in
    let n = machine_of c.perform_successor.new.state in
    let es = under m c.args.pid in
    let value_is : to_z w16 (of_z w16 c.args.value) ≡ c.args.value = search rules in
    let last_is : to_z w16 (of_z w16 c.args.last) ≡ c.args.last = search rules in
    let told : Event → Stepped = λ e. record { machine = n; event = e } in
    ap (λ i. successor_step m c.args.pid c.args.at i i.action es c.args.value c.args.last) (sym c.item-item.ensures.value) ∙ ap (λ v. successor_step m c.args.pid c.args.at c.item-item.result.now c.item-item.result.now.action es v c.args.last) (sym value_is) ∙ ap (λ v. successor_step m c.args.pid c.args.at c.item-item.result.now c.item-item.result.now.action es (to_z w16 (of_z w16 c.args.value)) v) (sym last_is) ∙ c.perform_successor.ensures.after ∙ ap (λ o. outcome o n c.args.pid c.item-item.result.now.line) c.in-Err.is ∙ ap told (sym c.fault_event.ensures)

pub perform_successor-requires : goal.perform_successor-requires
perform_successor-requires c =
    let m = machine_of c.args.state.now in
    let value_is : to_z w16 (of_z w16 c.args.value) ≡ c.args.value = search rules in
    let last_is : to_z w16 (of_z w16 c.args.last) ≡ c.args.last = search rules in
    let es = under m c.args.pid in
    let top = c.requires.top ∙ ap (λ v. Successor c.args.at v c.args.last ∷ es) (sym value_is) ∙ ap (λ v. Successor c.args.at (to_z w16 (of_z w16 c.args.value)) v ∷ es) (sym last_is) in
    (c.args.program.now, record { own = c.requires.own; within = c.requires.within; same = c.item-item.ensures.value; top = top })
