use Rattle.std.proofs.Common.{◌∙◌, false, sym, true}
use Rattle.cp_verdict.specs.endless.Naming.{processes_of}
use Rattle.cp_verdict.proofs.any_length.MeantAtOnce.{by_states}
use Rattle.cp_verdict.proofs.any_length.Saying.{if_alone}
use Rattle.cp_verdict.proofs.endless.at_once.mark_at_once.Goals as goal

pub returns-then-can_be_at_once-clause-states : goal.returns-then-can_be_at_once-clause-states
returns-then-can_be_at_once-clause-states g c = λ some cannot. (let said = c.can_be_at_once.ensures in let can = c.if-can_be_at_once.true in absurd (cc (said, can, cannot)))

pub returns-else-can_be_at_once-clause-mark : goal.returns-else-can_be_at_once-clause-mark
returns-else-can_be_at_once-clause-mark g c = λ can. (let said = c.can_be_at_once.ensures in let cannot = c.if-can_be_at_once.false in absurd (cc (said, cannot, can)))

pub returns-else-can_be_at_once-clause-states : goal.returns-else-can_be_at_once-clause-states
returns-else-can_be_at_once-clause-states g c = λ some cannot.
    let s = c.args.subject in
    let marked = c.mark_list.ensures in
    by_states s.program.now (processes_of s.legend.now) s.limits.discipline s.limits.steps c.args.list.now s.most c.mark_list.result (marked.mark some) (marked.meaning some) (marked.who some) (marked.who_meant some)

pub returns-then-can_be_at_once-clause-said : goal.returns-then-can_be_at_once-clause-said
returns-then-can_be_at_once-clause-said g c = λ some.
    let s = c.args.subject in
    let can = sym c.can_be_at_once.ensures ∙ c.if-can_be_at_once.true in
    if_alone true s.program.now (processes_of s.legend.now) s.limits.discipline s.limits.steps s.most c.args.list.now c.search_at_once.result (c.search_at_once.ensures.said can)

pub returns-else-can_be_at_once-clause-said : goal.returns-else-can_be_at_once-clause-said
returns-else-can_be_at_once-clause-said g c = λ some.
    let s = c.args.subject in
    if_alone false s.program.now (processes_of s.legend.now) s.limits.discipline s.limits.steps s.most c.args.list.now c.mark_list.result (c.mark_list.ensures.said some)
