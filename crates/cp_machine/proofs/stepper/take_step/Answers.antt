use Rattle.cp_machine.proofs.Words.{take_top, Rest, machine_of, thread_at, under, ◌≡◌, ◌∷◌, ◌∙◌, ap, of_z, refl, rules, Successor, sym, to_z, w16}
use Rattle.cp_machine.proofs.stepper.take_step.Goals as goal

pub returns-in-Some-Rest-clause-after : goal.returns-in-Some-Rest-clause-after
returns-in-Some-Rest-clause-after c =
    let m = machine_of c.args.state.now in
    let top : (thread_at m.threads c.args.pid).stack ≡ Rest c.in-Some-Rest.at ∷ under m c.args.pid = c.in-Some-Rest.ensures {u = tt} ∙ ap (λ e. e ∷ under m c.args.pid) c.in-Some-Rest.field-0-is in
    ap (take_top c.args.program.now m c.args.pid) top ∙ c.take_item.ensures.after

pub returns-in-Some-Rest-clause-reserved : goal.returns-in-Some-Rest-clause-reserved
returns-in-Some-Rest-clause-reserved c = c.take_item.ensures.reserved

pub returns-in-Some-Successor-clause-reserved : goal.returns-in-Some-Successor-clause-reserved
returns-in-Some-Successor-clause-reserved c = c.take_successor.ensures.reserved

pub returns-in-Some-Return-clause-reserved : goal.returns-in-Some-Return-clause-reserved
returns-in-Some-Return-clause-reserved c = c.take_end.ensures.reserved

pub returns-in-Some-Return-clause-after : goal.returns-in-Some-Return-clause-after
returns-in-Some-Return-clause-after c = c.take_end.ensures.after

pub returns-in-None-clause-reserved : goal.returns-in-None-clause-reserved
returns-in-None-clause-reserved c = c.set_status.ensures.reserved _ c.requires.own.reserved

pub take_item-requires : goal.take_item-requires
take_item-requires c =
    let m = machine_of c.args.state.now in
    let top = c.in-Some-Rest.ensures {u = tt} ∙ ap (λ e. e ∷ under m c.args.pid) c.in-Some-Rest.field-0-is in
    record { own = c.requires.own; within = c.requires.within; ready = c.requires.ready; same = refl; top = top }

pub take_successor-requires : goal.take_successor-requires
take_successor-requires c =
    let m = machine_of c.args.state.now in
    let es = under m c.args.pid in
    let k = c.in-Some-Successor in
    let value_is : to_z w16 (of_z w16 k.value) ≡ k.value = search rules in
    let last_is : to_z w16 (of_z w16 k.last) ≡ k.last = search rules in
    let top : (thread_at m.threads c.args.pid).stack ≡ Successor k.at k.value k.last ∷ es = k.ensures {u = tt} ∙ ap (λ e. e ∷ es) k.field-0-is in
    record { own = c.requires.own; within = c.requires.within; same = refl; top = top ∙ ap (λ v. Successor k.at v k.last ∷ es) (sym value_is) ∙ ap (λ v. Successor k.at (to_z w16 (of_z w16 k.value)) v ∷ es) (sym last_is) }
