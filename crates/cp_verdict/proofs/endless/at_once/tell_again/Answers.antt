use Rattle.std.proofs.Common.{◌∙◌, [], false, refl, true}
use Rattle.cp_verdict.specs.endless.Naming.{processes_of}
use Rattle.cp_verdict.specs.endless.Said.{last_text}
use Rattle.cp_verdict.proofs.any_length.MeantAtOnce.{one, other}
use Rattle.cp_verdict.proofs.any_length.Saying.{with_line}
use Rattle.cp_verdict.proofs.endless.at_once.tell_again.Goals as goal

pub returns-in-TooMany-clause-mark : goal.returns-in-TooMany-clause-mark
returns-in-TooMany-clause-mark c = one c.args.subject.program.now (processes_of c.args.subject.legend.now) c.args.subject.limits.discipline c.args.subject.limits.steps [] c.args.marked.mark c.with_line.result c.args.again.mark c.with_line.ensures.mark

pub returns-in_ok-line-in_default-clause-mark : goal.returns-in_ok-line-in_default-clause-mark
returns-in_ok-line-in_default-clause-mark c = other c.args.subject.program.now (processes_of c.args.subject.legend.now) c.args.subject.limits.discipline c.args.subject.limits.steps [] c.args.marked.mark c.with_line-in_default.result c.args.again.mark c.with_line-in_default.ensures.mark

pub returns-in-TooMany-clause-said : goal.returns-in-TooMany-clause-said
returns-in-TooMany-clause-said c = λ es before again.
    (let s = c.args.subject in
    let told = c.with_line.ensures in
    with_line false s.program.now (processes_of s.legend.now) s.limits.discipline s.limits.steps s.most es c.args.marked before (last_text s.most false) refl c.with_line.result told.mark told.note told.each told.stops told.last)

pub returns-in_ok-line-in_default-clause-said : goal.returns-in_ok-line-in_default-clause-said
returns-in_ok-line-in_default-clause-said c = λ es before again.
    (let s = c.args.subject in
    let told = c.with_line-in_default.ensures in
    with_line true s.program.now (processes_of s.legend.now) s.limits.discipline s.limits.steps s.most es c.args.again again c.as_str.result.now (c.as_str.ensures.value ∙ c.in_ok-line-in_default.ensures.ok) c.with_line-in_default.result told.mark told.note told.each told.stops told.last)
