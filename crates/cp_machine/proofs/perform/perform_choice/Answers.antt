use Rattle.cp_machine.proofs.Words.{sym, ◌∙◌, ap, machine_of, under, act, rest_of, case_of}
use Rattle.cp_machine.proofs.perform.perform_choice.Goals as goal

pub returns-in-If-clause-after : goal.returns-in-If-clause-after
returns-in-If-clause-after c =
    let m = machine_of c.args.state.now in
    let below = under m c.args.pid in
    λ r at. ap (λ a. act r m c.args.pid at c.args.item.now a below) c.in-If.is ∙ c.branch-state.ensures.after

pub returns-in-If-clause-reserved : goal.returns-in-If-clause-reserved
returns-in-If-clause-reserved c = c.branch-state.ensures.reserved

pub returns-in-Case-clause-after : goal.returns-in-Case-clause-after
returns-in-Case-clause-after c =
    let m = machine_of c.args.state.now in
    let below = under m c.args.pid in
    λ r at. ap (λ a. act r m c.args.pid at c.args.item.now a below) c.in-Case.is ∙ ap (λ arms. case_of m c.args.pid c.args.item.now.line c.in-Case.selector arms (rest_of c.args.item.now.next below)) (sym c.deref.ensures.value) ∙ c.case_of.ensures.after

pub returns-in-Case-clause-reserved : goal.returns-in-Case-clause-reserved
returns-in-Case-clause-reserved c = c.case_of.ensures.reserved

pub branch-state-requires : goal.branch-state-requires
branch-state-requires c = (c.requires.taken.0, record { at = c.requires.taken.1; taken = c.requires.taken.2; says = c.in-If.is })

pub case_of-requires : goal.case_of-requires
case_of-requires c = (c.requires.taken.0, (c.in-Case.arms, c.deref.ensures.value, record { at = c.requires.taken.1; taken = c.requires.taken.2; says = c.in-Case.is }))
