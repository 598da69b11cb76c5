use Rattle.std.proofs.Common.{sym, subst}
use Rattle.cp_run.specs.Run.{Node}
use Rattle.cp_run.specs.Slots.{slots}
use Rattle.cp_machine.specs.System.{Machine}
use Rattle.cp_endless_laws.specs.Silent.{waits_on_slots}
use Rattle.cp_layers.specs.Adding.{Adds, HasNoOthers}
use Rattle.cp_layers.specs.Leading.{with_word}
use Rattle.cp_waiting_ends.specs.Waiting.{ends_seen, ends_words, waits_at}
use Rattle.cp_waiting_ends.proofs.noting.WaitingEndsNote.note_choice.Goals as goal

pub returns-clause-marks : goal.returns-clause-marks
returns-clause-marks c =
    let job = c.args.job.now in
    let sys = slots job.run.program.now job.run.limits.discipline in
    subst (λ (n : Node Machine). Adds (ends_seen c.args.self.now) (waits_at sys waits_on_slots n) (ends_seen c.arrive.new.self)) (sym c.choose-halt.ensures.node) c.in_ok-arrive.ensures.marks

pub returns-clause-words : goal.returns-clause-words
returns-clause-words c =
    let job = c.args.job.now in
    let sys = slots job.run.program.now job.run.limits.discipline in
    subst (λ (n : Node Machine). HasNoOthers (ends_words c.args.self.now) (with_word c.args.word.now (waits_at sys waits_on_slots n)) (ends_words c.arrive.new.self)) (sym c.choose-halt.ensures.node) c.in_ok-arrive.ensures.words
