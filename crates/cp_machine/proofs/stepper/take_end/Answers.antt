use Rattle.cp_machine.proofs.Words.{take_top, InitEnd, Return, ◌≡◌, ◌∷◌, ◌∙◌, ap, machine_of, thread_at, under, arith, length}
use Rattle.cp_machine.proofs.ResultLemmas.{ended_there}
use Rattle.cp_machine.proofs.PremiseLemmas.{init_leaves, return_gate, return_leaves, step_returns}
use Rattle.cp_machine.proofs.stepper.take_end.Goals as goal

pub returns-in-Some-Return-clause-after : goal.returns-in-Some-Return-clause-after
returns-in-Some-Return-clause-after c =
    let m = machine_of c.args.state.now in
    let top : (thread_at m.threads c.args.pid).stack ≡ Return c.in-Some-Return.caller c.in-Some-Return.slot c.in-Some-Return.monitor ∷ under m c.args.pid = c.in-Some-Return.ensures {u = tt} ∙ ap (λ e. e ∷ under m c.args.pid) c.in-Some-Return.field-0-is in
    ap (take_top c.args.program.now m c.args.pid) top ∙ c.return_to.ensures.after

pub returns-in-Some-InitEnd-clause-after : goal.returns-in-Some-InitEnd-clause-after
returns-in-Some-InitEnd-clause-after c =
    let m = machine_of c.args.state.now in
    let top : (thread_at m.threads c.args.pid).stack ≡ InitEnd c.in-Some-InitEnd.caller c.in-Some-InitEnd.component ∷ under m c.args.pid = c.in-Some-InitEnd.ensures {u = tt} ∙ ap (λ e. e ∷ under m c.args.pid) c.in-Some-InitEnd.field-0-is in
    ap (take_top c.args.program.now m c.args.pid) top ∙ c.end_init.ensures.after

pub returns-in-Some-Return-clause-reserved : goal.returns-in-Some-Return-clause-reserved
returns-in-Some-Return-clause-reserved c = c.return_to.ensures.reserved _ c.requires.steps.own.reserved

pub returns-in-Some-InitEnd-clause-reserved : goal.returns-in-Some-InitEnd-clause-reserved
returns-in-Some-InitEnd-clause-reserved c = c.end_init.ensures.reserved _ c.requires.steps.own.reserved

pub return_to-requires : goal.return_to-requires
return_to-requires c =
    let m = machine_of c.args.state.now in
    let top : (thread_at m.threads c.args.pid).stack ≡ Return c.in-Some-Return.caller c.in-Some-Return.slot c.in-Some-Return.monitor ∷ under m c.args.pid = c.in-Some-Return.ensures {u = tt} ∙ ap (λ e. e ∷ under m c.args.pid) c.in-Some-Return.field-0-is in
    let ends = step_returns c.requires.steps in
    record { leaves = return_leaves ends c.in-Some-Return.caller c.in-Some-Return.slot c.in-Some-Return.monitor _ top; gate = return_gate ends c.in-Some-Return.caller c.in-Some-Return.slot c.in-Some-Return.monitor _ top }

pub end_init-requires : goal.end_init-requires
end_init-requires c =
    let m = machine_of c.args.state.now in
    let top : (thread_at m.threads c.args.pid).stack ≡ InitEnd c.in-Some-InitEnd.caller c.in-Some-InitEnd.component ∷ under m c.args.pid = c.in-Some-InitEnd.ensures {u = tt} ∙ ap (λ e. e ∷ under m c.args.pid) c.in-Some-InitEnd.field-0-is in
    let ends = step_returns c.requires.steps in
    let phases : length c.args.state.now.phases.items ≡ length c.args.program.now.components = c.requires.steps.own.fits.phases in
    let there = ended_there c.args.program.now (thread_at m.threads c.args.pid) c.in-Some-InitEnd.caller c.in-Some-InitEnd.component _ ends.reaches top in
    record { leaves = init_leaves ends c.in-Some-InitEnd.caller; known = omega (arith, there, phases) }
