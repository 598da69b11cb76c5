use Rattle.std.proofs.Common.{◌≡◌, false, true, inl, sym, subst}
use Rattle.cp_machine.specs.System.{machine_of}
use Rattle.cp_run.proofs.Tracing.{ok_as}
use Rattle.cp_run.specs.Slots.{slots}
use Rattle.cp_endless_laws.specs.Silent.{waits_on_slots}
use Rattle.cp_layers.proofs.Adding.{adds_none}
use Rattle.cp_layers.specs.Adding.{Adds, HasNoOthers}
use Rattle.cp_layers.specs.Leading.{with_word}
use Rattle.cp_waiting_ends.specs.Waiting.{ends_seen, ends_words, is_waiting}
use Rattle.cp_waiting_ends.proofs.Waits.{one_seen, waits_nowhere}
use Rattle.cp_waiting_ends.proofs.ends.WaitingEnds.arrive.Goals as goal

pub returns-then-not-is_waiting-clause-marks : goal.returns-then-not-is_waiting-clause-marks
returns-then-not-is_waiting-clause-marks c =
    let run = c.args.job.now.run in
    let off : is_waiting c.args.halt ≡ false = search in
    subst (λ l. Adds (ends_seen c.args.self.now) l (ends_seen c.args.self.now)) (sym (waits_nowhere (slots run.program.now run.limits.discipline) waits_on_slots (machine_of c.args.state.now) c.args.halt off)) (adds_none (ends_seen c.args.self.now))

pub returns-then-not-is_waiting-clause-words : goal.returns-then-not-is_waiting-clause-words
returns-then-not-is_waiting-clause-words c = λ x there. inl there

pub returns-clause-marks : goal.returns-clause-marks
returns-clause-marks c =
    let run = c.args.job.now.run in
    let on : is_waiting c.args.halt ≡ true = search in
    let one = one_seen (slots run.program.now run.limits.discipline) waits_on_slots (machine_of c.args.state.now) c.args.halt on _ c.in_ok-end.ensures in
    ok_as c.add.result _ _ c.add.ensures.marks (λ u h. subst (λ l. Adds (ends_seen c.args.self.now) l (ends_seen c.add.new.self)) one h)

pub returns-clause-words : goal.returns-clause-words
returns-clause-words c =
    let run = c.args.job.now.run in
    let on : is_waiting c.args.halt ≡ true = search in
    let one = one_seen (slots run.program.now run.limits.discipline) waits_on_slots (machine_of c.args.state.now) c.args.halt on _ c.in_ok-end.ensures in
    ok_as c.add.result _ _ c.add.ensures.words (λ u h. subst (λ l. HasNoOthers (ends_words c.args.self.now) (with_word c.args.word.now l) (ends_words c.add.new.self)) one h)
