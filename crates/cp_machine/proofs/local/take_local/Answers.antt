use Rattle.cp_machine.proofs.Words.{refl, false≢true, ap, machine_of, of_z, rules, Successor, sym, thread_at, to_z, under, w16, ◌∙◌, ◌∷◌, ◌≡◌}
use Rattle.cp_machine.proofs.local.take_local.Goals as goal

pub top_of-requires : goal.top_of-requires
top_of-requires c = c.requires.within

pub returns-in-Some-Rest-clause-same : goal.returns-in-Some-Rest-clause-same
returns-in-Some-Rest-clause-same c = c.take_local_item.ensures.same

pub returns-in-Some-Successor-clause-same : goal.returns-in-Some-Successor-clause-same
returns-in-Some-Successor-clause-same c = c.take_local_successor.ensures.same

pub returns-in-Some-Rest-clause-pending : goal.returns-in-Some-Rest-clause-pending
returns-in-Some-Rest-clause-pending c = c.take_local_item.ensures.pending

pub returns-in-Some-Successor-clause-pending : goal.returns-in-Some-Successor-clause-pending
returns-in-Some-Successor-clause-pending c = c.take_local_successor.ensures.pending

pub returns-in-Some-Rest-clause-reserved : goal.returns-in-Some-Rest-clause-reserved
returns-in-Some-Rest-clause-reserved c = c.take_local_item.ensures.reserved

pub returns-in-Some-Successor-clause-reserved : goal.returns-in-Some-Successor-clause-reserved
returns-in-Some-Successor-clause-reserved c = c.take_local_successor.ensures.reserved

pub returns-in-None-clause-taken : goal.returns-in-None-clause-taken
returns-in-None-clause-taken c = λ yes. absurd (false≢true yes)

pub returns-in-None-clause-same : goal.returns-in-None-clause-same
returns-in-None-clause-same c = λ no. refl

pub returns-in-None-clause-pending : goal.returns-in-None-clause-pending
returns-in-None-clause-pending c = refl

pub returns-in-None-clause-reserved : goal.returns-in-None-clause-reserved
returns-in-None-clause-reserved c = c.requires.own.reserved

pub returns-in-None-2-clause-taken : goal.returns-in-None-2-clause-taken
returns-in-None-2-clause-taken c = λ yes. absurd (false≢true yes)

pub returns-in-None-2-clause-same : goal.returns-in-None-2-clause-same
returns-in-None-2-clause-same c = λ no. refl

pub returns-in-None-2-clause-pending : goal.returns-in-None-2-clause-pending
returns-in-None-2-clause-pending c = refl

pub returns-in-None-2-clause-reserved : goal.returns-in-None-2-clause-reserved
returns-in-None-2-clause-reserved c = c.requires.own.reserved

pub returns-in-None-3-clause-taken : goal.returns-in-None-3-clause-taken
returns-in-None-3-clause-taken c = λ yes. absurd (false≢true yes)

pub returns-in-None-3-clause-same : goal.returns-in-None-3-clause-same
returns-in-None-3-clause-same c = λ no. refl

pub returns-in-None-3-clause-pending : goal.returns-in-None-3-clause-pending
returns-in-None-3-clause-pending c = refl

pub returns-in-None-3-clause-reserved : goal.returns-in-None-3-clause-reserved
returns-in-None-3-clause-reserved c = c.requires.own.reserved

pub take_local_item-requires : goal.take_local_item-requires
take_local_item-requires c =
    let m = machine_of c.args.state.now in
    let top = c.in-Some-Rest.ensures {u = tt} ∙ ap (λ e. e ∷ under m c.args.pid) c.in-Some-Rest.field-0-is in
    record { own = c.requires.own; within = c.requires.within; ready = c.requires.ready; same = refl; top = top }

pub take_local_successor-requires : goal.take_local_successor-requires
take_local_successor-requires c =
    let m = machine_of c.args.state.now in
    let es = under m c.args.pid in
    let k = c.in-Some-Successor in
    let value_is : to_z w16 (of_z w16 k.value) ≡ k.value = search rules in
    let last_is : to_z w16 (of_z w16 k.last) ≡ k.last = search rules in
    let top : (thread_at m.threads c.args.pid).stack ≡ Successor k.at k.value k.last ∷ es = k.ensures {u = tt} ∙ ap (λ e. e ∷ es) k.field-0-is in
    record { own = c.requires.own; within = c.requires.within; same = refl; top = top ∙ ap (λ v. Successor k.at v k.last ∷ es) (sym value_is) ∙ ap (λ v. Successor k.at (to_z w16 (of_z w16 k.value)) v ∷ es) (sym last_is) }
