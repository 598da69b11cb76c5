use Rattle.std.proofs.Common.{◌∙◌, ◌≤◌, ap, arith, length, map, refl, subst, sym}
use Rattle.std.proofs.lemmas.List.{length-map}
use Rattle.cp_machine.specs.Machine.{machine_of, monitor_of, thread_of}
use Rattle.cp_states.specs.Numbers.{number_at}
use Rattle.cp_parts.proofs.Becoming.{pending_byte}
use Rattle.cp_parts.proofs.Codes.{option_one}
use Rattle.cp_parts.proofs.Whole.{guards_taken, items_taken, machine_made, processes_taken, room_there, state_taken}
use Rattle.cp_parts.proofs.store.PartStore.take_row.Goals as goal

pub take_places-requires : goal.take_places-requires
take_places-requires c =
    (c.requires.own.0, c.requires.own.1, machine_of c.args.state.now, c.requires.own.3, c.deref_mut.ensures.value, c.deref_mut-2.ensures.value, c.deref_mut-3.ensures.value)

pub take_processes-requires-clause-count : goal.take_processes-requires-clause-count
take_processes-requires-clause-count c =
    let s = c.args.state.now in
    omega (arith, ap length c.deref_mut-4.ensures.value, c.requires.own.3.placed.processes, c.requires.own.2.fits.threads, length-map s.processes.items thread_of)

pub take_processes-requires-clause-can : goal.take_processes-requires-clause-can
take_processes-requires-clause-can c =
    let s = c.args.state.now in
    (c.requires.own.0, c.requires.own.1, machine_of s, c.requires.own.3, room_there c.requires.own.0 s c.requires.own.1 c.requires.own.2 c.requires.own.3.its c.deref_mut-4.result.now c.deref_mut-4.ensures.value)

pub take_guards-requires-clause-count : goal.take_guards-requires-clause-count
take_guards-requires-clause-count c =
    let s = c.args.state.now in
    omega (arith, ap length c.deref_mut-5.ensures.value, c.requires.own.3.placed.monitors, c.requires.own.2.fits.monitors, length-map s.guards.items monitor_of)

pub take_guards-requires-clause-can : goal.take_guards-requires-clause-can
take_guards-requires-clause-can c = (c.requires.own.0, c.requires.own.1, machine_of c.args.state.now, c.requires.own.3)

pub option_of-state-requires : goal.option_of-state-requires
option_of-state-requires c =
    let row = c.args.row.now in
    subst (λ k. number_at row k ≤ 256) (sym c.pending_position.ensures)
    (pending_byte c.requires.own.0 c.args.self.now c.args.table.now row c.args.known.now c.requires.own.1 (machine_of c.args.state.now) c.requires.own.3)

pub returns-clause-same : goal.returns-clause-same
returns-clause-same c = λ r m own can output discipline.
    (let s = c.args.state.now in
    let n = machine_of s in
    let lists = c.take_places.ensures r m n can c.deref_mut.ensures.value c.deref_mut-2.ensures.value c.deref_mut-3.ensures.value in
    let guards = c.take_guards.ensures r m n can (ap (map monitor_of) c.deref_mut-5.ensures.value) in
    machine_made m _
    (items_taken s.permanents c.take_places.new.cells m.permanents lists.0 (can.its.fits.permanents ∙ sym own.fits.permanents))
    (items_taken s.bindings c.take_places.new.bindings m.bindings lists.1 (can.its.fits.bindings ∙ sym own.fits.bindings))
    (items_taken s.phases c.take_places.new.phases m.phases lists.2 (can.its.fits.phases ∙ sym own.fits.phases))
    (processes_taken r m s own can.its c.deref_mut-4.result.now c.take_processes.new.processes c.deref_mut-4.ensures.value (c.take_processes.ensures r m n can (ap (map thread_of) c.deref_mut-4.ensures.value)))
    (guards_taken r m s own can.its c.take_guards.new.guards guards)
    (option_one _ m.pending (c.option_of-state.ensures ∙ ap (number_at c.args.row.now) c.pending_position.ensures ∙ can.row_is.pending))
    (sym discipline)
    (c.clear.ensures.items ∙ sym output))

pub returns-clause-own : goal.returns-clause-own
returns-clause-own c = λ r m own can output discipline.
    (let s = c.args.state.now in
    let n = machine_of s in
    state_taken r m s own can.its c.deref_mut-4.result.now c.take_processes.new.processes c.deref_mut-4.ensures.value (c.take_processes.ensures r m n can (ap (map thread_of) c.deref_mut-4.ensures.value)) _
    (returns-clause-same c r m own can output discipline) refl refl (omega (arith, c.clear.ensures.capacity)))
