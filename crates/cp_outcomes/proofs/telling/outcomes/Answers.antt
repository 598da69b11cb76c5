use Rattle.std.proofs.Common.{string_bytes, subst}
use Rattle.cp_run.specs.Slots.{slots}
use Rattle.cp_outcomes.specs.Findings.{IsFoundOf}
use Rattle.cp_outcomes.specs.Meant.{IsMeantFinding}
use Rattle.cp_outcomes.proofs.Summaries.{tells_whole, tells_excess}
use Rattle.cp_outcomes.proofs.telling.outcomes.Goals as goal

pub returns-in_ok-end_line-in-Whole : goal.returns-in_ok-end_line-in-Whole
returns-in_ok-end_line-in-Whole g c =
    let s = c.args.subject in
    let written = c.in_ok-write_findings-in-Whole in
    let line = c.in_ok-end_line-in-Whole in
    tells_whole s c.args.form (string_bytes written.field-0) line.field-0 c.in-Whole.tallies (subst (IsFoundOf (slots s.program.now s.limits.discipline) s.limits.choices s.limits.steps) c.in-Whole.is c.in_ok-tallies.ensures.found) (subst (IsMeantFinding s.program.now s.limits.discipline s.limits.choices s.limits.steps) c.in-Whole.is c.in_ok-tallies.ensures.meaning) written.ensures.text written.ensures.json line.ensures.text line.ensures.json

pub returns-in_ok-end_line-in-TooMany : goal.returns-in_ok-end_line-in-TooMany
returns-in_ok-end_line-in-TooMany g c =
    let s = c.args.subject in
    let written = c.in_ok-excess_written-in-TooMany in
    let line = c.in_ok-end_line-in-TooMany in
    tells_excess s c.args.form (string_bytes written.field-0) line.field-0 c.in-TooMany.excess c.in-TooMany.known (subst (IsFoundOf (slots s.program.now s.limits.discipline) s.limits.choices s.limits.steps) c.in-TooMany.is c.in_ok-tallies.ensures.found) (subst (IsMeantFinding s.program.now s.limits.discipline s.limits.choices s.limits.steps) c.in-TooMany.is c.in_ok-tallies.ensures.meaning) written.ensures.text written.ensures.json line.ensures.text line.ensures.json
