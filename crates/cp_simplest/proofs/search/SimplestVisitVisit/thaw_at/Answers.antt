use Rattle.std.proofs.Common.{subst, sym}
use Rattle.cp_simplest.specs.Own.{AreOwn}
use Rattle.cp_simplest.proofs.search.SimplestVisitVisit.thaw_at.Goals as goal

pub thaw_at-is_there-requires : goal.thaw_at-is_there-requires
thaw_at-is_there-requires c =
    let r = c.args.job.now.run.program.now in
    (r, c.requires.own, subst (AreOwn r) (sym c.next_word.ensures) c.requires.before)

pub candidates-numbers-requires : goal.candidates-numbers-requires
candidates-numbers-requires c =
    let r = c.args.job.now.run.program.now in
    record { own = c.thaw_at-is_there.ensures r c.requires.own (subst (AreOwn r) (sym c.next_word.ensures) c.requires.before) }

pub returns-clause-own : goal.returns-clause-own
returns-clause-own c =
    let r = c.args.job.now.run.program.now in
    c.thaw_at-is_there.ensures r c.requires.own (subst (AreOwn r) (sym c.next_word.ensures) c.requires.before)

pub returns-clause-within : goal.returns-clause-within
returns-clause-within c = λ found. subst (AreOwn c.args.job.now.run.program.now) (sym c.next_word.ensures) c.requires.before
