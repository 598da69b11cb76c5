use Rattle.std.proofs.Common.{inl, []}
use Rattle.cp_machine.specs.System.{machine_of}
use Rattle.cp_cover.proofs.Words.{slots, subst, Adds}
use Rattle.cp_layers.proofs.Adding.{adds_behind, adds_itself}
use Rattle.cp_cover.proofs.Noted.{notes_choice}
use Rattle.cp_cover.specs.Reached.{chosen_marks}
use Rattle.cp_cover.proofs.noting.MarksNote.note_choice.Goals as goal

pub returns-clause-marks : goal.returns-clause-marks
returns-clause-marks c =
    let sys = slots c.args.job.now.run.program.now c.args.job.now.run.limits.discipline in
    let m = machine_of c.args.state.now in
    let before = c.args.self.now.known.keys in
    let after = c.observe_choice.new.observer.known.keys in
    adds_behind before (chosen_marks sys c.args.job.now.run.limits.steps m c.args.process) after (subst (λ l. Adds [] l after) (notes_choice sys c.args.job.now.run.limits.steps m c.args.process before) (c.in_ok-turn.ensures.seen before (adds_itself before)))

pub returns-clause-words : goal.returns-clause-words
returns-clause-words c = λ x there. inl there
