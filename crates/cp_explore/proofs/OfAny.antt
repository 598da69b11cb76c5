-- Each law, of any machine that steps.
use Rattle.std.proofs.Common.{◌≡◌, ◌∙◌, ◌+◌, ℕ, true, ap, sym, subst, arith}
use Rattle.cp_run.specs.System.{System}
use Rattle.cp_run.specs.Table.{table}
use Rattle.cp_run.proofs.Prefixes.{prefix_free}
use Rattle.cp_walk.specs.Report.{same_outcome, report_text}
use Rattle.cp_merged.specs.Told.{told_text}
use Rattle.cp_merged.proofs.Completing.{complete, closed_table}
use Rattle.cp_merged.proofs.Exact.{exact_outcomes}
use Rattle.cp_merged.proofs.Sorted.{layers_tally}
use Rattle.cp_merged.proofs.Telling.{told_report}
use Rattle.cp_endless_laws.specs.MoreSteps.{HasStepsEnough}
use Rattle.cp_endless_laws.proofs.steps.Tables.{more_steps_tables}
use Rattle.cp_explore.specs.Statements.{LayersLaw, ReportLaw, CompleteLaw, ClosedLaw, PrefixFreeLaw, MoreStepsLaw, GreaterLimitsLaw}

module _ {S : Type 0} (sys : System S) where
  pub prefixes : PrefixFreeLaw sys
  prefixes choices steps = prefix_free sys choices steps

  pub layers : LayersLaw sys
  layers same ex eq sound choices steps = layers_tally sys same ex eq sound choices steps

  pub reports : ReportLaw sys
  reports names eq sound choices steps = ap (told_text names) (layers_tally sys same_outcome exact_outcomes eq sound choices steps) ∙ told_report names (table sys choices steps)

  pub more_choices : CompleteLaw sys
  more_choices choices steps more h = complete sys choices steps more h

  pub closed : ClosedLaw sys
  closed steps among known h choices = closed_table sys steps (λ s. among s ≡ true) (λ k. known k ≡ true) h choices

  with_steps : (choices steps more : ℕ) → HasStepsEnough (table sys choices steps) → table sys choices (steps + more) ≡ table sys choices steps
  with_steps choices steps more h =
      let flip : steps + more ≡ more + steps = omega arith in
      ap (λ n. table sys choices n) flip ∙ more_steps_tables sys choices steps more h

  pub more_steps : MoreStepsLaw sys
  more_steps names choices steps more rows h = ap (λ lines. report_text names lines rows) (with_steps choices steps more h)

  pub greater_limits : GreaterLimitsLaw sys
  greater_limits choices steps m n h enough =
      let same = complete sys choices steps m h in
      with_steps (choices + m) steps n (subst HasStepsEnough (sym same) enough) ∙ same
