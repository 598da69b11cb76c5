use Rattle.std.proofs.Common.{◌∙◌, refl, inl, inr, subst}
use Rattle.cp_run.specs.Slots.{slots}
use Rattle.cp_merged.specs.TooMany.{IsDueFault}
use Rattle.cp_tool.proofs.Merging.{merged_by}
use Rattle.cp_tool.proofs.exploring.report_merged.Goals as goal

pub returns-in_ok-merged_report-in-Ok : goal.returns-in_ok-merged_report-in-Ok
returns-in_ok-merged_report-in-Ok g c = merged_by c.args.options.now c.limits-limits.result c.args.program.now _ _ c.limits-limits.ensures (inl (refl, c.in-Ok.ensures.within, c.in_ok-merged_report-in-Ok.ensures.report _ c.in-Ok.ensures.tallies))

pub returns-in_ok-to_string-in-Err-TooManyStates : goal.returns-in_ok-to_string-in-Err-TooManyStates
returns-in_ok-to_string-in-Err-TooManyStates g c =
    let l = c.limits-limits.result in
    let due = subst (IsDueFault (slots c.args.program.now l.discipline) l.choices l.steps c.args.options.now.states) c.in-Err-TooManyStates.field-0-is c.in-Err-TooManyStates.ensures.fault in
    merged_by c.args.options.now l c.args.program.now _ _ c.limits-limits.ensures (inr (inl (refl, due, c.new.ensures ∙ c.in_ok-to_string-in-Err-TooManyStates.ensures.ok)))

pub returns-in_ok-to_string-in-Err-TooManyOutcomes : goal.returns-in_ok-to_string-in-Err-TooManyOutcomes
returns-in_ok-to_string-in-Err-TooManyOutcomes g c =
    let l = c.limits-limits.result in
    let due = subst (IsDueFault (slots c.args.program.now l.discipline) l.choices l.steps c.args.options.now.states) c.in-Err-TooManyOutcomes.field-0-is c.in-Err-TooManyOutcomes.ensures.fault in
    merged_by c.args.options.now l c.args.program.now _ _ c.limits-limits.ensures (inr (inr (refl, due, c.new-in-Err-TooManyOutcomes.ensures ∙ c.in_ok-to_string-in-Err-TooManyOutcomes.ensures.ok)))
