use Rattle.cp_machine.proofs.Words.{machine_of, under, act, rest_of, sym, ◌∙◌, ap, call, start}
use Rattle.cp_machine.proofs.perform.perform_call.Goals as goal

pub returns-in-Call-clause-reserved : goal.returns-in-Call-clause-reserved
returns-in-Call-clause-reserved c = c.call.ensures.reserved _ c.requires.taken.1.own.reserved

pub returns-in-Start-clause-reserved : goal.returns-in-Start-clause-reserved
returns-in-Start-clause-reserved c = c.start.ensures.reserved _ c.requires.taken.1.own.reserved

pub returns-in-Call-clause-after : goal.returns-in-Call-clause-after
returns-in-Call-clause-after c =
    let m = machine_of c.args.state.now in
    let below = under m c.args.pid in
    λ at. ap (λ a. act c.args.program.now m c.args.pid at c.args.item.now a below) c.in-Call.is ∙ ap (λ given. call c.args.program.now m c.args.pid c.args.item.now.line c.in-Call.routine c.in-Call.component c.in-Call.is_entry given c.in-Call.result (rest_of c.args.item.now.next below)) (sym c.deref.ensures.value) ∙ c.call.ensures.after

pub returns-in-Start-clause-after : goal.returns-in-Start-clause-after
returns-in-Start-clause-after c =
    let m = machine_of c.args.state.now in
    let below = under m c.args.pid in
    λ at. ap (λ a. act c.args.program.now m c.args.pid at c.args.item.now a below) c.in-Start.is ∙ ap (λ given. start c.args.program.now m c.args.pid c.args.item.now.line c.in-Start.component c.in-Start.routine given (rest_of c.args.item.now.next below)) (sym c.deref-in-Start.ensures.value) ∙ c.start.ensures.after

pub call-requires : goal.call-requires
call-requires c = (c.in-Call.arguments, c.deref.ensures.value, record { at = c.requires.taken.0; taken = c.requires.taken.1; says = c.in-Call.is })

pub start-requires : goal.start-requires
start-requires c = (c.in-Start.arguments, c.deref-in-Start.ensures.value, record { at = c.requires.taken.0; taken = c.requires.taken.1; says = c.in-Start.is })
