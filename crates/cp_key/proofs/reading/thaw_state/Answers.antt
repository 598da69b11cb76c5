use Rattle.cp_key.proofs.Words.{◌∙◌, ◌++◌, List, ap, arith, length, map, subst, sym, ProcessState, monitor_of, thread_of, byte_key, integer_key, list_key}
use Rattle.cp_key.proofs.Words.{number_key, HaveThreadRoom}
use Rattle.std.proofs.lemmas.List.{append_assoc, with_items_is}
use Rattle.cp_machine.specs.Fits.{HaveCells, HaveReferences, HaveStacks}
use Rattle.cp_key.specs.Key.{key_of, rest_key, discipline_key, monitor_key, option_key, phase_key, shown_key, threads_key}
use Rattle.cp_key.proofs.Keys.{integers_tell, numbers_tell}
use Rattle.cp_key.proofs.Machines.{after_bindings, after_monitors, after_output, after_permanents, after_phases, of_parts}
use Rattle.cp_key.proofs.reading.thaw_state.Goals as goal

pub thaw_same-permanents-requires-clause-ends : goal.thaw_same-permanents-requires-clause-ends
thaw_same-permanents-requires-clause-ends c = integers_tell

pub thaw_same-bindings-requires-clause-ends : goal.thaw_same-bindings-requires-clause-ends
thaw_same-bindings-requires-clause-ends c = numbers_tell

pub returns-clause-same : goal.returns-clause-same
unfolding key_of rest_key
returns-clause-same c = λ m more e room.
    (let Room : List ProcessState → Type 0 = λ ps. HaveThreadRoom ps m.threads in
    let o = c.thaw_list.ensures.list m.output (after_output m ++ more) (e ∙ append_assoc (list_key shown_key m.output) (after_output m) more) room.output in
    let a = c.thaw_same-permanents.ensures.list m.permanents (after_permanents m ++ more) (o.1 ∙ append_assoc (list_key integer_key m.permanents) (after_permanents m) more) room.permanents in
    let b = c.thaw_same-bindings.ensures.list m.bindings (after_bindings m ++ more) (a.1 ∙ append_assoc (list_key number_key m.bindings) (after_bindings m) more) room.bindings in
    let d = c.thaw_numbers.ensures.list m.phases (after_phases m ++ more) (b.1 ∙ append_assoc (list_key phase_key m.phases) (after_phases m) more) room.phases in
    let t = c.thaw_processes-bodies.ensures.same m.threads (rest_key m ++ more) (d.1 ∙ append_assoc (threads_key m.threads) (rest_key m) more) (subst Room (sym c.deref_mut.ensures.value) room.threads) in
    let g = c.thaw_guards.ensures m.monitors (after_monitors m ++ more) (t.1 ∙ append_assoc (list_key monitor_key m.monitors) (after_monitors m) more) (room.monitors ∙ sym (ap length c.deref_mut-2.ensures.value)) room.short in
    let p = c.thaw-state.ensures m.pending (discipline_key m.discipline ++ more) (g.1 ∙ append_assoc (option_key byte_key m.pending) (discipline_key m.discipline) more) in
    let q = c.thaw-state-2.ensures m.discipline more p.1 in
    let threads = ap (map thread_of) (with_items_is c.args.state.now.processes c.thaw_processes-bodies.new.processes (omega arith)) ∙ t.0 in
    let monitors = ap (map monitor_of) (with_items_is c.args.state.now.guards c.thaw_guards.new.guards (omega arith)) ∙ g.0 in
    (of_parts m _ _ _ _ _ _ _ _ a.0 b.0 d.0 threads monitors p.0 q.0 o.0, record { permanents = a.2; bindings = b.2; bodies = t.2 }))

pub returns-clause-reserved : goal.returns-clause-reserved
returns-clause-reserved c = λ r h few.
    (let before = sym c.deref_mut.ensures.value in
    let after = sym (with_items_is c.args.state.now.processes c.thaw_processes-bodies.new.processes (omega arith)) in
    record {
      stacks = subst (HaveStacks r.depth) after (c.thaw_processes-bodies.ensures.stacks r.depth (subst (HaveStacks r.depth) before h.stacks));
      cells = subst (HaveCells r.cells) after (c.thaw_processes-bodies.ensures.cells r.cells (subst (HaveCells r.cells) before h.cells));
      references = subst (HaveReferences r.references) after (c.thaw_processes-bodies.ensures.references r.references (subst (HaveReferences r.references) before h.references));
      output = omega (arith, c.thaw_list.ensures.room, h.output);
      shown = few;
      bounds = h.bounds;
    })
