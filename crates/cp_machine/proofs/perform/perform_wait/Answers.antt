use Rattle.cp_machine.proofs.Words.{◌∙◌, ap, machine_of, under, act}
use Rattle.cp_machine.proofs.perform.perform_wait.Goals as goal

pub returns-in-Delay-clause-after : goal.returns-in-Delay-clause-after
returns-in-Delay-clause-after c =
    let m = machine_of c.args.state.now in
    let below = under m c.args.pid in
    λ at. ap (λ a. act c.args.program.now m c.args.pid at c.args.item.now a below) c.in-Delay.is ∙ c.delay.ensures.after

pub returns-in-Delay-clause-reserved : goal.returns-in-Delay-clause-reserved
returns-in-Delay-clause-reserved c = c.delay.ensures.reserved _ c.requires.taken.1.own.reserved

pub returns-in-Continue-clause-after : goal.returns-in-Continue-clause-after
returns-in-Continue-clause-after c =
    let m = machine_of c.args.state.now in
    let below = under m c.args.pid in
    λ at. ap (λ a. act c.args.program.now m c.args.pid at c.args.item.now a below) c.in-Continue.is ∙ c.continue_with.ensures.after

pub returns-in-Continue-clause-reserved : goal.returns-in-Continue-clause-reserved
returns-in-Continue-clause-reserved c = c.continue_with.ensures.reserved _ c.requires.taken.1.own.reserved

pub delay-requires : goal.delay-requires
delay-requires c = record { at = c.requires.taken.0; taken = c.requires.taken.1; says = c.in-Delay.is }

pub continue_with-requires : goal.continue_with-requires
continue_with-requires c = record { at = c.requires.taken.0; taken = c.requires.taken.1; says = c.in-Continue.is }
