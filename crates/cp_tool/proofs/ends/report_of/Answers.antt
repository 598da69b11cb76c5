use Rattle.std.proofs.Common.{ℕ, Option, arith, subst}
use Rattle.cp_ends.specs.Told.{IsDepth}
use Rattle.cp_waits.specs.Named.{TellAsked}
use Rattle.cp_tool.specs.Analysis.{tells_waits}
use Rattle.cp_tool.proofs.Finding.{cut_reported, unasked, waits_reported, whole_reported}
use Rattle.cp_tool.proofs.ends.report_of.Goals as goal

pub returns-in-Some : goal.returns-in-Some
returns-in-Some c = λ t read ok is o x to told d.
    (let r = c.args.program.now in
    let found = c.args.found.now.found in
    let waits = c.in-Some.waits in
    let asked = subst (TellAsked r o.discipline o.steps (tells_waits o.analysis) found) c.in-Some.is told in
    waits_reported o t r read ok is x.findings to found waits c.verdict_on.result c.in_ok-waits_report.field-0.text asked d c.verdict_on.ensures (c.in_ok-waits_report.ensures r x.findings to x.holds d) (asked.2 o.states x (omega arith) asked.1))

pub returns-in-None : goal.returns-in-None
returns-in-None c = λ t read ok is o x to told d.
    (let r = c.args.program.now in
    let found = c.args.found.now.found in
    let quiet = subst (TellAsked r o.discipline o.steps (tells_waits o.analysis) found) c.in_default.is told in
    whole_reported o t r read ok is x.findings to c.in_ok-text.field-0.text (unasked (tells_waits o.analysis) (λ asked. quiet asked c.in-None.is)) (subst (λ (s : Option ℕ). IsDepth x.findings s to) c.in-None.is d) (c.in_ok-text.ensures r x.findings to x.holds d))

pub returns-in-Some-stopped : goal.returns-in-Some-stopped
returns-in-Some-stopped c = λ t read ok is o x to told d.
    cut_reported o t c.args.program.now read ok is x.findings to c.in-Some-stopped.field-0 c.in_ok-text.field-0.text (subst (λ (s : Option ℕ). IsDepth x.findings s to) c.in-Some-stopped.is d) (c.in_ok-text.ensures c.args.program.now x.findings to x.holds d)
