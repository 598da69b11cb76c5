use Rattle.cp_machine.proofs.Words.{◌<◌, length, subst, sym, Machine}
use Rattle.cp_machine.proofs.queue.continue_from.Goals as goal

pub returns-in-Some-Return-default-default-Some-clause-reserved : goal.returns-in-Some-Return-default-default-Some-clause-reserved
returns-in-Some-Return-default-default-Some-clause-reserved c = λ r h. c.resume.ensures.reserved r (c.leave.ensures.reserved r h)

pub resume-requires-clause-cell : goal.resume-requires-clause-cell
resume-requires-clause-cell c =
    let P : Machine → Type 0 = λ m. c.args.cell < length m.permanents in
    subst P (sym c.leave.ensures.after) c.requires.cell

pub top_of-requires : goal.top_of-requires
top_of-requires c = c.requires.ends.within
