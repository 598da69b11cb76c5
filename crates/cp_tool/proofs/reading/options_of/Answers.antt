use Rattle.std.proofs.Common.{◌∙◌, ℕ, ap, codes, option_map, subst, sym}
use Rattle.clap.specs.Words.{first_of, found_of, rows_of}
use Rattle.cp_tool.specs.Analysis.{most_choices, usual_choices}
use Rattle.cp_tool.specs.Numbers.{IsChosen}
use Rattle.cp_tool.specs.Options.{HasOptions, IsScheduled, Suits, rules_for}
use Rattle.cp_tool.specs.declared.analysis.Analysis.{Analysis}
use Rattle.cp_tool.proofs.Obtaining.{refused_as, rules_are, same_analysis}
use Rattle.cp_tool.proofs.reading.options_of.Goals as goal

pub returns-in_err-analysis : goal.returns-in_err-analysis
returns-in_err-analysis c =
    let own = c.args.own in
    let word = option_map (λ s. s.now) own.schedule in
    let rows = rows_of (found_of c.args.matches.now) in
    refused_as (HasOptions own.flags own.is_longest word rows) c.from_residual.result c.in_err-analysis.field-0.0 c.from_residual.ensures.1 c.in_err-analysis.ensures (λ o has. (o.analysis, has.analysis))

pub returns-in_err-check_rules : goal.returns-in_err-check_rules
returns-in_err-check_rules c =
    let own = c.args.own in
    let word = option_map (λ s. s.now) own.schedule in
    let rows = rows_of (found_of c.args.matches.now) in
    refused_as (HasOptions own.flags own.is_longest word rows) c.from_residual-in_err-check_rules.result c.in_err-check_rules.field-0.0 c.from_residual-in_err-check_rules.ensures.1 c.in_err-check_rules.ensures
    (λ o has. (tt, subst (λ (a : Analysis). Suits a (rules_for rows)) (same_analysis has.analysis c.in_ok-analysis.ensures) (subst (Suits o.analysis) (sym (rules_are rows o.discipline has.named)) has.suits)))

pub returns-in_err-choices_of : goal.returns-in_err-choices_of
returns-in_err-choices_of c =
    let own = c.args.own in
    let word = option_map (λ s. s.now) own.schedule in
    let rows = rows_of (found_of c.args.matches.now) in
    refused_as (HasOptions own.flags own.is_longest word rows) c.from_residual-in_err-choices_of.result c.in_err-choices_of.field-0.0 c.from_residual-in_err-choices_of.ensures.1 c.in_err-choices_of.ensures
    (λ o has. (o.choices, subst (λ (a : Analysis). IsChosen (usual_choices own.is_longest a) 0 (most_choices a) (first_of (codes "choices") rows) o.choices) (same_analysis has.analysis c.in_ok-analysis.ensures) has.choices))

pub returns-in_err-schedule_of : goal.returns-in_err-schedule_of
returns-in_err-schedule_of c =
    let own = c.args.own in
    let word = option_map (λ s. s.now) own.schedule in
    let rows = rows_of (found_of c.args.matches.now) in
    refused_as (HasOptions own.flags own.is_longest word rows) c.from_residual-in_err-schedule_of.result c.in_err-schedule_of.field-0.0 c.from_residual-in_err-schedule_of.ensures.1 c.in_err-schedule_of.ensures
    (λ o has. (o.schedule, subst (λ (n : ℕ). IsScheduled n word o.schedule) (ap most_choices (same_analysis has.analysis c.in_ok-analysis.ensures) ∙ sym c.most_choices.ensures) has.schedule))
