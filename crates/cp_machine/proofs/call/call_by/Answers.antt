use Rattle.cp_machine.proofs.CallOutcomes.{called_entry, called_inside, initialised_is, not_false, not_true}
use Rattle.cp_machine.proofs.Words.{is_initialised, machine_of, phase_at, under, rest_of, local, ap, false, sym, true, ◌∙◌, ◌≡◌}
use Rattle.cp_machine.proofs.call.call_by.Goals as goal

pub returns-then-not-callee-clause-after : goal.returns-then-not-callee-clause-after
returns-then-not-callee-clause-after c =
    let m = machine_of c.args.state.now in
    called_inside c.args.program.now m c.args.pid c.args.item.now.line c.args.callee.routine c.args.component c.args.arguments.now c.args.state.now.bounds.items c.args.callee.result (rest_of c.args.item.now.next (under m c.args.pid)) c.args.callee.is_entry (not_true _ c.if-not-callee.true) ∙ ap local (sym c.open_call.ensures.after)

pub returns-then-not-callee-clause-reserved : goal.returns-then-not-callee-clause-reserved
returns-then-not-callee-clause-reserved c = c.open_call.ensures.reserved

pub phase_of-requires : goal.phase_of-requires
phase_of-requires c = c.requires.opens.known

pub returns-then-ne-clause-after : goal.returns-then-ne-clause-after
returns-then-ne-clause-after c =
    let m = machine_of c.args.state.now in
    let test : is_initialised (phase_at m c.args.component) ≡ false = ap is_initialised (sym c.phase_of.ensures) ∙ sym (initialised_is c.phase_of.result) ∙ not_true _ (sym c.ne.ensures ∙ c.if-ne.true) in
    called_entry c.args.program.now m c.args.pid c.args.item.now.line c.args.callee.routine c.args.component c.args.arguments.now c.args.state.now.bounds.items c.args.callee.result (rest_of c.args.item.now.next (under m c.args.pid)) c.args.callee.is_entry false (not_false _ c.if-not-callee.false) test

pub returns-then-ne-clause-reserved : goal.returns-then-ne-clause-reserved
returns-then-ne-clause-reserved c = λ r h. h

pub returns-clause-after : goal.returns-clause-after
returns-clause-after c =
    let m = machine_of c.args.state.now in
    let test : is_initialised (phase_at m c.args.component) ≡ true = ap is_initialised (sym c.phase_of.ensures) ∙ sym (initialised_is c.phase_of.result) ∙ not_false _ (sym c.ne.ensures ∙ c.if-ne.false) in
    called_entry c.args.program.now m c.args.pid c.args.item.now.line c.args.callee.routine c.args.component c.args.arguments.now c.args.state.now.bounds.items c.args.callee.result (rest_of c.args.item.now.next (under m c.args.pid)) c.args.callee.is_entry true (not_false _ c.if-not-callee.false) test ∙ c.call_entry.ensures.after

pub returns-clause-reserved : goal.returns-clause-reserved
returns-clause-reserved c = c.call_entry.ensures.reserved

pub open_call-requires : goal.open_call-requires
open_call-requires c = c.requires

pub call_entry-requires : goal.call_entry-requires
call_entry-requires c = c.requires
