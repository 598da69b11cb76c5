use Rattle.std.proofs.Common.{inl, []}
use Rattle.cp_cover.proofs.Words.{slots, subst, Adds}
use Rattle.cp_layers.proofs.Adding.{adds_behind, adds_itself}
use Rattle.cp_cover.proofs.Noted.{notes_opening}
use Rattle.cp_cover.specs.Reached.{opened_marks}
use Rattle.cp_cover.proofs.noting.MarksNote.note_opening.Goals as goal

pub returns-clause-marks : goal.returns-clause-marks
returns-clause-marks c =
    let sys = slots c.args.job.now.run.program.now c.args.job.now.run.limits.discipline in
    let before = c.args.self.now.known.keys in
    let after = c.observe_opening.new.observer.known.keys in
    adds_behind before (opened_marks sys c.args.job.now.run.limits.steps) after (subst (λ l. Adds [] l after) (notes_opening sys c.args.job.now.run.limits.steps before) (c.in_ok-turn.ensures.seen before (adds_itself before)))

pub returns-clause-words : goal.returns-clause-words
returns-clause-words c = λ x there. inl there
