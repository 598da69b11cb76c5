use Rattle.cp_machine.proofs.Words.{◌∙◌, ap, sym, machine_of, under, with_stack, rest_of, local, act, Block, Cycle}
use Rattle.cp_machine.proofs.PremiseLemmas.{item_replaces, item_list}
use Rattle.cp_machine.proofs.frames.ReadLemmas.{taken_fits}
use Rattle.cp_machine.proofs.perform.perform.Goals as goal

pub returns-in-Display-clause-reserved : goal.returns-in-Display-clause-reserved
returns-in-Display-clause-reserved c = c.display.ensures.reserved _ c.requires.own.reserved

pub returns-in-Empty-clause-after : goal.returns-in-Empty-clause-after
returns-in-Empty-clause-after c =
    let m = machine_of c.args.state.now in
    let below = under m c.args.pid in
    ap (λ a. act c.args.program.now m c.args.pid c.args.at c.args.item.now a below) c.in-Empty.is ∙ ap local (sym c.replace.ensures.after)

pub returns-in-Empty-clause-reserved : goal.returns-in-Empty-clause-reserved
returns-in-Empty-clause-reserved c = c.replace.ensures.reserved _ c.requires.own.reserved

pub returns-in-Block-clause-after : goal.returns-in-Block-clause-after
returns-in-Block-clause-after c =
    let m = machine_of c.args.state.now in
    let below = under m c.args.pid in
    ap (λ a. act c.args.program.now m c.args.pid c.args.at c.args.item.now a below) c.in-Block.is ∙ ap local (sym c.replace-in-Block.ensures.after)

pub returns-in-Block-clause-reserved : goal.returns-in-Block-clause-reserved
returns-in-Block-clause-reserved c = c.replace-in-Block.ensures.reserved _ c.requires.own.reserved

pub returns-in-Cycle-clause-after : goal.returns-in-Cycle-clause-after
returns-in-Cycle-clause-after c =
    let m = machine_of c.args.state.now in
    let below = under m c.args.pid in
    ap (λ a. act c.args.program.now m c.args.pid c.args.at c.args.item.now a below) c.in-Cycle.is ∙ ap (λ es. local (with_stack m c.args.pid (rest_of c.in-Cycle.list es))) (sym c.requires.top) ∙ ap local (sym c.repeat.ensures.after)

pub returns-in-Cycle-clause-reserved : goal.returns-in-Cycle-clause-reserved
returns-in-Cycle-clause-reserved c = c.repeat.ensures.reserved _ c.requires.own.reserved

pub returns-in-Assign-clause-after : goal.returns-in-Assign-clause-after
returns-in-Assign-clause-after c = c.perform_assignment.ensures.after c.args.program.now c.args.at

pub returns-in-Assign-clause-reserved : goal.returns-in-Assign-clause-reserved
returns-in-Assign-clause-reserved c = c.perform_assignment.ensures.reserved _ c.requires.own.reserved

pub returns-in-AssignSet-clause-after : goal.returns-in-AssignSet-clause-after
returns-in-AssignSet-clause-after c = c.perform_assignment-in-AssignSet.ensures.after c.args.program.now c.args.at

pub returns-in-AssignSet-clause-reserved : goal.returns-in-AssignSet-clause-reserved
returns-in-AssignSet-clause-reserved c = c.perform_assignment-in-AssignSet.ensures.reserved _ c.requires.own.reserved

pub returns-in-If-clause-after : goal.returns-in-If-clause-after
returns-in-If-clause-after c = c.perform_choice.ensures.after c.args.program.now c.args.at

pub returns-in-If-clause-reserved : goal.returns-in-If-clause-reserved
returns-in-If-clause-reserved c = c.perform_choice.ensures.reserved _ c.requires.own.reserved

pub returns-in-Case-clause-after : goal.returns-in-Case-clause-after
returns-in-Case-clause-after c = c.perform_choice-in-Case.ensures.after c.args.program.now c.args.at

pub returns-in-Case-clause-reserved : goal.returns-in-Case-clause-reserved
returns-in-Case-clause-reserved c = c.perform_choice-in-Case.ensures.reserved _ c.requires.own.reserved

pub returns-in-For-clause-after : goal.returns-in-For-clause-after
returns-in-For-clause-after c = c.perform_for.ensures.after c.args.program.now

pub returns-in-For-clause-reserved : goal.returns-in-For-clause-reserved
returns-in-For-clause-reserved c = c.perform_for.ensures.reserved _ c.requires.own.reserved

pub returns-in-Call-clause-after : goal.returns-in-Call-clause-after
returns-in-Call-clause-after c = c.perform_call.ensures.after c.args.at

pub returns-in-Call-clause-reserved : goal.returns-in-Call-clause-reserved
returns-in-Call-clause-reserved c = c.perform_call.ensures.reserved

pub returns-in-Delay-clause-after : goal.returns-in-Delay-clause-after
returns-in-Delay-clause-after c = c.perform_wait.ensures.after c.args.at

pub returns-in-Delay-clause-reserved : goal.returns-in-Delay-clause-reserved
returns-in-Delay-clause-reserved c = c.perform_wait.ensures.reserved

pub returns-in-While-clause-after : goal.returns-in-While-clause-after
returns-in-While-clause-after c =
    let m = machine_of c.args.state.now in
    let below = under m c.args.pid in
    ap (λ a. act c.args.program.now m c.args.pid c.args.at c.args.item.now a below) c.in-While.is ∙ c.while_do.ensures.after

pub returns-in-While-clause-reserved : goal.returns-in-While-clause-reserved
returns-in-While-clause-reserved c = c.while_do.ensures.reserved _ c.requires.own.reserved

pub returns-in-Until-clause-after : goal.returns-in-Until-clause-after
returns-in-Until-clause-after c =
    let m = machine_of c.args.state.now in
    let below = under m c.args.pid in
    ap (λ a. act c.args.program.now m c.args.pid c.args.at c.args.item.now a below) c.in-Until.is ∙ c.until.ensures.after

pub returns-in-Until-clause-reserved : goal.returns-in-Until-clause-reserved
returns-in-Until-clause-reserved c = c.until.ensures.reserved _ c.requires.own.reserved

pub returns-in-Display-clause-after : goal.returns-in-Display-clause-after
returns-in-Display-clause-after c =
    let m = machine_of c.args.state.now in
    let below = under m c.args.pid in
    ap (λ a. act c.args.program.now m c.args.pid c.args.at c.args.item.now a below) c.in-Display.is ∙ c.display.ensures.after

pub returns-in-Assert-clause-after : goal.returns-in-Assert-clause-after
returns-in-Assert-clause-after c =
    let m = machine_of c.args.state.now in
    let below = under m c.args.pid in
    ap (λ a. act c.args.program.now m c.args.pid c.args.at c.args.item.now a below) c.in-Assert.is ∙ c.assert_that.ensures.after

pub returns-in-Assert-clause-reserved : goal.returns-in-Assert-clause-reserved
returns-in-Assert-clause-reserved c = c.assert_that.ensures.reserved _ c.requires.own.reserved

pub while_do-requires : goal.while_do-requires
while_do-requires c = (c.args.program.now, record { at = c.args.at; taken = c.requires; says = c.in-While.is })

pub until-requires : goal.until-requires
until-requires c = (c.args.program.now, record { at = c.args.at; taken = c.requires; says = c.in-Until.is })

pub display-requires : goal.display-requires
display-requires c = (c.args.program.now, record { at = c.args.at; taken = c.requires; says = c.in-Display.is })

pub assert_that-requires : goal.assert_that-requires
assert_that-requires c = (c.args.program.now, record { at = c.args.at; taken = c.requires; says = c.in-Assert.is })

pub perform_assignment-requires-clause-taken : goal.perform_assignment-requires-clause-taken
perform_assignment-requires-clause-taken c = (c.args.program.now, c.args.at, c.requires)

pub perform_assignment-requires-in-AssignSet-clause-taken : goal.perform_assignment-requires-in-AssignSet-clause-taken
perform_assignment-requires-in-AssignSet-clause-taken c = (c.args.program.now, c.args.at, c.requires)

pub perform_choice-requires-clause-taken : goal.perform_choice-requires-clause-taken
perform_choice-requires-clause-taken c = (c.args.program.now, c.args.at, c.requires)

pub perform_choice-requires-in-Case-clause-taken : goal.perform_choice-requires-in-Case-clause-taken
perform_choice-requires-in-Case-clause-taken c = (c.args.program.now, c.args.at, c.requires)

pub perform_for-requires-clause-taken : goal.perform_for-requires-clause-taken
perform_for-requires-clause-taken c = (c.args.program.now, c.requires)

pub perform_call-requires-clause-taken : goal.perform_call-requires-clause-taken
perform_call-requires-clause-taken c = (c.args.at, c.requires)

pub perform_wait-requires-clause-taken : goal.perform_wait-requires-clause-taken
perform_wait-requires-clause-taken c = (c.args.at, c.requires)

pub replace-requires : goal.replace-requires
replace-requires c = item_replaces c.requires

pub replace-requires-in-Block : goal.replace-requires-in-Block
replace-requires-in-Block c = item_list c.requires c.in-Block.list (taken_fits c.args.program.now c.args.state.now c.args.pid c.args.at c.args.item.now c.requires (Block c.in-Block.list) c.in-Block.is)

pub repeat-requires : goal.repeat-requires
repeat-requires c = item_list c.requires c.in-Cycle.list (taken_fits c.args.program.now c.args.state.now c.args.pid c.args.at c.args.item.now c.requires (Cycle c.in-Cycle.list) c.in-Cycle.is)
