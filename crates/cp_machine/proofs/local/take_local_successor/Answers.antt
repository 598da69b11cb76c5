use Rattle.cp_machine.proofs.Words.{of_z, to_z, w16, machine_of, under, successor_step, outcome, Successor, ap, rules, sym, ◌∙◌, ◌∷◌, ◌≡◌}
use Rattle.cp_machine.proofs.LocalSteps.{succeeded_calm, done_pending, done_same}
use Rattle.cp_machine.proofs.local.take_local_successor.Goals as goal

pub returns-clause-same : goal.returns-clause-same
returns-clause-same c =
    let m = machine_of c.args.state.now in
    let item = c.item-item.result.now in
    λ off. done_same m (machine_of c.perform_successor.new.state) c.args.pid item.line (successor_step m c.args.pid c.args.at item item.action (under m c.args.pid) (to_z w16 (of_z w16 c.args.value)) (to_z w16 (of_z w16 c.args.last))) (succeeded_calm m c.args.pid c.args.at item item.action (under m c.args.pid) (to_z w16 (of_z w16 c.args.value)) (to_z w16 (of_z w16 c.args.last))) c.perform_successor.result c.perform_successor.ensures.after (c.is_done.ensures.no off)

pub returns-clause-pending : goal.returns-clause-pending
returns-clause-pending c =
    let m = machine_of c.args.state.now in
    let item = c.item-item.result.now in
    done_pending m (machine_of c.perform_successor.new.state) c.args.pid item.line (successor_step m c.args.pid c.args.at item item.action (under m c.args.pid) (to_z w16 (of_z w16 c.args.value)) (to_z w16 (of_z w16 c.args.last))) (succeeded_calm m c.args.pid c.args.at item item.action (under m c.args.pid) (to_z w16 (of_z w16 c.args.value)) (to_z w16 (of_z w16 c.args.last))) c.perform_successor.result c.perform_successor.ensures.after

pub returns-clause-reserved : goal.returns-clause-reserved
returns-clause-reserved c = c.perform_successor.ensures.reserved c.args.program.now c.requires.own.reserved

pub returns-clause-taken : goal.returns-clause-taken
returns-clause-taken c =
    let m = machine_of c.args.state.now in
    let n = machine_of c.perform_successor.new.state in
    let es = under m c.args.pid in
    let value_is : to_z w16 (of_z w16 c.args.value) ≡ c.args.value = search rules in
    let last_is : to_z w16 (of_z w16 c.args.last) ≡ c.args.last = search rules in
    λ yes. ap (λ i. successor_step m c.args.pid c.args.at i i.action es c.args.value c.args.last) (sym c.item-item.ensures.value) ∙ ap (λ v. successor_step m c.args.pid c.args.at c.item-item.result.now c.item-item.result.now.action es v c.args.last) (sym value_is) ∙ ap (λ v. successor_step m c.args.pid c.args.at c.item-item.result.now c.item-item.result.now.action es (to_z w16 (of_z w16 c.args.value)) v) (sym last_is) ∙ c.perform_successor.ensures.after ∙ ap (λ o. outcome o n c.args.pid c.item-item.result.now.line) (c.is_done.ensures.yes yes)

pub perform_successor-requires : goal.perform_successor-requires
perform_successor-requires c =
    let m = machine_of c.args.state.now in
    let value_is : to_z w16 (of_z w16 c.args.value) ≡ c.args.value = search rules in
    let last_is : to_z w16 (of_z w16 c.args.last) ≡ c.args.last = search rules in
    let es = under m c.args.pid in
    let top = c.requires.top ∙ ap (λ v. Successor c.args.at v c.args.last ∷ es) (sym value_is) ∙ ap (λ v. Successor c.args.at (to_z w16 (of_z w16 c.args.value)) v ∷ es) (sym last_is) in
    (c.args.program.now, record { own = c.requires.own; within = c.requires.within; same = c.item-item.ensures.value; top = top })
