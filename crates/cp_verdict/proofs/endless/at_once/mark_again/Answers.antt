use Rattle.std.proofs.Common.{◌∙◌, false, inl, refl, sym}
use Rattle.cp_verdict.specs.endless.Naming.{processes_of}
use Rattle.cp_verdict.proofs.any_length.MeantAtOnce.{settles_more}
use Rattle.cp_verdict.proofs.any_length.Saying.{alone}
use Rattle.cp_verdict.proofs.endless.at_once.mark_again.Goals as goal

pub returns-in_ok-again-clause-same : goal.returns-in_ok-again-clause-same
returns-in_ok-again-clause-same g c = λ cannot. (let said = c.can_be_at_once.ensures in let can = c.if-can_be_at_once.true in absurd (cc (said, can, cannot)))

pub returns-in_ok-again-clause-again : goal.returns-in_ok-again-clause-again
returns-in_ok-again-clause-again g c =
    let can = sym c.can_be_at_once.ensures ∙ c.if-can_be_at_once.true in
    settles_more c.args.subject.program.now (processes_of c.args.subject.legend.now) c.args.subject.limits.discipline c.args.subject.limits.steps c.args.list.now c.args.marked.mark c.tell_again.result c.args.subject.most c.in_ok-again.again.mark can (c.in_ok-again.ensures.mark can) c.tell_again.ensures.mark

pub returns-in_ok-again-clause-said : goal.returns-in_ok-again-clause-said
returns-in_ok-again-clause-said g c = λ before.
    (let can = sym c.can_be_at_once.ensures ∙ c.if-can_be_at_once.true in
    c.tell_again.ensures.said c.args.list.now before (c.in_ok-again.ensures.said can))

pub returns-else-can_be_at_once-clause-said : goal.returns-else-can_be_at_once-clause-said
returns-else-can_be_at_once-clause-said g c = λ before.
    (let s = c.args.subject in
    alone false s.program.now (processes_of s.legend.now) s.limits.discipline s.limits.steps s.most c.args.list.now c.args.marked before)

pub returns-else-can_be_at_once-clause-again : goal.returns-else-can_be_at_once-clause-again
returns-else-can_be_at_once-clause-again g c = inl refl
