use Rattle.cp_machine.proofs.Words.{◌<◌, length, subst, sym, Machine, machine_of, delay_caller, under, rest_of, Stepped, Kernel, is_true, Bool, ap}
use Rattle.cp_machine.proofs.Words.{false, of_z, rules, to_z, true, w16, ◌∙◌, ◌≡◌, pos, slice_index_or}
use Rattle.cp_machine.proofs.CallOutcomes.{delayed_if}
use Rattle.cp_machine.proofs.Outcomes.{replaced_within}
use Rattle.cp_machine.specs.declared.event.Kernel.TheVariants.{Delay}
use Rattle.std.proofs.lemmas.List.{get_or_read}
use Rattle.cp_machine.proofs.PremiseLemmas.{thread_gate}
use Rattle.cp_machine.proofs.queue.delay_in.Goals as goal

pub returns-then-is_true-clause-after : goal.returns-then-is_true-clause-after
returns-then-is_true-clause-after c =
    let m = machine_of c.args.state.now in
    let at : c.index.result.now ≡ slice_index_or c.args.state.now.permanents.items c.args.cell (pos 0) = get_or_read c.args.state.now.permanents.items _ _ c.requires.cell c.index.ensures (pos 0) in
    let value_is : to_z w16 (of_z w16 c.index.result.now) ≡ c.index.result.now = search rules in
    let test : ◌≡◌ {A = Bool} (is_true (slice_index_or c.args.state.now.permanents.items c.args.cell (pos 0))) true = cc (at, value_is, c.is_true.ensures, c.if-is_true.true) in
    delayed_if m c.args.pid c.args.item.now.line c.args.cell c.args.monitor (rest_of c.args.item.now.next (under m c.args.pid)) true test

pub returns-then-is_true-clause-reserved : goal.returns-then-is_true-clause-reserved
returns-then-is_true-clause-reserved c = λ r h. h

pub returns-clause-after : goal.returns-clause-after
returns-clause-after c =
    let m = machine_of c.args.state.now in
    let at : c.index.result.now ≡ slice_index_or c.args.state.now.permanents.items c.args.cell (pos 0) = get_or_read c.args.state.now.permanents.items _ _ c.requires.cell c.index.ensures (pos 0) in
    let value_is : to_z w16 (of_z w16 c.index.result.now) ≡ c.index.result.now = search rules in
    let test : ◌≡◌ {A = Bool} (is_true (slice_index_or c.args.state.now.permanents.items c.args.cell (pos 0))) false = cc (at, value_is, c.is_true.ensures, c.if-is_true.false) in
    let in_kernel : Machine → Stepped = λ n. record { machine = n; event = Kernel Delay } in
    delayed_if m c.args.pid c.args.item.now.line c.args.cell c.args.monitor (rest_of c.args.item.now.next (under m c.args.pid)) false test ∙ ap in_kernel (sym (c.delay.ensures.after ∙ ap (λ n. delay_caller n c.args.pid c.args.monitor c.args.cell) c.replace.ensures.after))

pub returns-clause-reserved : goal.returns-clause-reserved
returns-clause-reserved c = λ r h. c.delay.ensures.reserved r (c.replace.ensures.reserved r h)

pub delay-requires : goal.delay-requires
delay-requires c =
    let s = c.args.state.now in
    let t = c.replace.new.state in
    record {
      enters = record { within = replaced_within s t c.args.pid _ c.replace.ensures.after c.requires.replaces.within; gate = thread_gate s t c.args.pid _ c.args.monitor c.replace.ensures.after c.requires.gate };
      cell = subst (λ (m : Machine). c.args.cell < length m.permanents) (sym c.replace.ensures.after) c.requires.cell;
    }

pub replace-requires : goal.replace-requires
replace-requires c = c.requires.replaces
