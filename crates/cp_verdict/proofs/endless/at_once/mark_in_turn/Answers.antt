use Rattle.std.proofs.Common.{false, subst, sym}
use Rattle.cp_ends.proofs.GoingOn.{ok_to}
use Rattle.cp_verdict.specs.endless.Naming.{processes_of}
use Rattle.cp_verdict.specs.waiting.EndsMarked.{IsMarkOf, IsMeantMark}
use Rattle.cp_verdict.proofs.any_length.MeantAtOnce.{in_turn, is_ends_mark, never_named, turned}
use Rattle.cp_verdict.proofs.any_length.Saying.{alone}
use Rattle.cp_verdict.proofs.endless.at_once.mark_in_turn.Goals as goal

pub returns-in-TooMany-clause-mark : goal.returns-in-TooMany-clause-mark
returns-in-TooMany-clause-mark g c = λ some.
    let s = c.args.subject in
    let r = s.program.now in
    let ps = processes_of s.legend.now in
    let discipline = s.limits.discipline in
    let steps = s.limits.steps in
    let es = c.args.list.now in
    let marked = c.in_ok-marked in
    let told = c.mark_again.result in
    turned r ps discipline steps es s.most told
    (λ none. in_turn r ps discipline steps es marked.marked.mark told s.most (marked.ensures.mark some none) (marked.ensures.meaning some none) c.in-TooMany.is c.mark_again.ensures.again)
    (λ named. ok_to told _ (λ m. IsMarkOf r ps discipline steps s.most es m.mark) (c.mark_again.ensures.same (never_named discipline es named)) (λ m is. subst (IsMarkOf r ps discipline steps s.most es) (sym is) (marked.ensures.who some)))
    (λ named. ok_to told _ (λ m. IsMeantMark r ps discipline steps es m.mark) (c.mark_again.ensures.same (never_named discipline es named)) (λ m is. subst (IsMeantMark r ps discipline steps es) (sym is) (marked.ensures.who_meant some)))

pub returns-in_default-clause-mark : goal.returns-in_default-clause-mark
returns-in_default-clause-mark g c = λ some.
    let s = c.args.subject in
    let marked = c.in_ok-marked in
    is_ends_mark s.program.now (processes_of s.legend.now) s.limits.discipline s.limits.steps c.args.list.now s.most marked.marked.mark (marked.ensures.mark some) (marked.ensures.meaning some) (marked.ensures.who some) (marked.ensures.who_meant some)

pub returns-in-TooMany-clause-said : goal.returns-in-TooMany-clause-said
returns-in-TooMany-clause-said g c = λ some. c.mark_again.ensures.said (c.in_ok-marked.ensures.said some)

pub returns-in_default-clause-said : goal.returns-in_default-clause-said
returns-in_default-clause-said g c = λ some.
    let s = c.args.subject in
    alone false s.program.now (processes_of s.legend.now) s.limits.discipline s.limits.steps s.most c.args.list.now c.in_ok-marked.marked (c.in_ok-marked.ensures.said some)
