use Rattle.cp_verdict.proofs.any_length.Vocabulary.{true, subst, Discipline, IsKnownAtOnce}
use Rattle.cp_at_once.specs.Whole.{IsAnswer}
use Rattle.cp_verdict.specs.endless.Naming.{processes_of}
use Rattle.cp_verdict.proofs.any_length.MeantAtOnce.{marked_at_once, of_the_book}
use Rattle.cp_verdict.proofs.any_length.Saying.{said_alone}
use Rattle.cp_verdict.proofs.endless.at_once.search_at_once.Goals as goal

pub returns-clause-mark : goal.returns-clause-mark
returns-clause-mark g c = λ can.
    let r = c.args.subject.program.now in
    let steps = c.args.subject.limits.steps in
    let most = c.args.subject.most in
    let k = c.in_ok-known.known in
    let answer = subst (λ (g : Discipline). IsAnswer r g steps c.args.subject.most c.in_ok-found.found) (of_the_book c.args.subject.limits.discipline c.args.list.now can) c.in_ok-found.ensures in
    let is_known : IsKnownAtOnce r steps most k = c.in_ok-known.ensures steps c.args.subject.most answer in
    marked_at_once r (processes_of c.args.subject.legend.now) c.args.subject.limits.discipline steps most c.args.list.now k c.verdict_on-verdict.result can is_known (c.verdict_on-verdict.ensures.known r.names is_known.texts) c.tell.result c.tell.ensures.mark

pub returns-clause-said : goal.returns-clause-said
returns-clause-said g c = λ can.
    let s = c.args.subject in
    let r = s.program.now in
    let k = c.in_ok-known.known in
    let book = of_the_book s.limits.discipline c.args.list.now can in
    let is_known : IsKnownAtOnce r s.limits.steps s.most k = c.in_ok-known.ensures s.limits.steps s.most (subst (λ (g : Discipline). IsAnswer r g s.limits.steps s.most c.in_ok-found.found) book c.in_ok-found.ensures) in
    let told = c.tell.ensures in
    said_alone true r (processes_of s.legend.now) s.limits.discipline s.limits.steps s.most c.args.list.now k (book, is_known) c.verdict_on-verdict.result (c.verdict_on-verdict.ensures.known r.names is_known.texts) c.tell.result told.mark (told.known r.names is_known.texts) told.stops told.note told.last
