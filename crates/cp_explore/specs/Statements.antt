-- What the laws say, of any machine that steps.
use Rattle.std.specs.Prelude.{◌≡◌, ◌+◌, ℕ, Bool, true, false, All}
use Rattle.cp_run.specs.System.{System}
use Rattle.cp_run.specs.Table.{table, IsPrefixFree}
use Rattle.cp_run.specs.declared.outcome.OutcomeKind.{OutcomeKind}
use Rattle.cp_walk.specs.Report.{same_outcome, report_text}
use Rattle.cp_walk.specs.Text.{Spellings}
use Rattle.cp_merged.specs.Complete.{IsComplete, IsClosed, IsKnown}
use Rattle.cp_merged.specs.Layers.{IsSound, by_layers, by_first}
use Rattle.cp_merged.specs.Tallies.{Sameness, IsExact, tally}
use Rattle.cp_merged.specs.Told.{told_text}
use Rattle.cp_endless_laws.specs.MoreSteps.{HasStepsEnough}

-- no word of a table begins another word of it
abbrev pub PrefixFreeLaw : {S : Type 0} → System S → Type 0
PrefixFreeLaw sys = (choices steps : ℕ) → IsPrefixFree (table sys choices steps)

-- tallies by layers are the tallies of the table, for every test of states that takes only equal states for equal
abbrev pub LayersLaw : {S : Type 0} → System S → Type 0
LayersLaw {S} sys = (same : Sameness) → IsExact same → (eq : S → S → Bool) → IsSound eq → (choices steps : ℕ) → by_first (by_layers sys same eq choices steps) ≡ tally same (table sys choices steps)

-- and their text is its report without the rows
abbrev pub ReportLaw : {S : Type 0} → System S → Type 0
ReportLaw {S} sys = (names : Spellings) (eq : S → S → Bool) → IsSound eq → (choices steps : ℕ) → told_text names (by_first (by_layers sys same_outcome eq choices steps)) ≡ report_text names (table sys choices steps) false

-- with more choices a table is the same, where no schedule ends for want of choices
abbrev pub CompleteLaw : {S : Type 0} → System S → Type 0
CompleteLaw sys = (choices steps more : ℕ) → IsComplete (table sys choices steps) → table sys (choices + more) steps ≡ table sys choices steps

-- states that no choice leads out of, but to known kinds of ends, bound the kinds of ends for every number of choices
abbrev pub ClosedLaw : {S : Type 0} → System S → Type 0
ClosedLaw {S} sys = (steps : ℕ) (among : S → Bool) (known : OutcomeKind → Bool) → IsClosed sys steps (λ s. among s ≡ true) (λ k. known k ≡ true) → (choices : ℕ) → All (λ l. IsKnown (λ k. known k ≡ true) l.outcome.kind) (table sys choices steps)

-- with more steps a report is the same, with its rows or without, where no schedule ends for want of steps
abbrev pub MoreStepsLaw : {S : Type 0} → System S → Type 0
MoreStepsLaw sys = (names : Spellings) (choices steps more : ℕ) (rows : Bool) → HasStepsEnough (table sys choices steps) → report_text names (table sys choices (steps + more)) rows ≡ report_text names (table sys choices steps) rows

-- with more of both a table is the same, where no schedule ends for want of either
abbrev pub GreaterLimitsLaw : {S : Type 0} → System S → Type 0
GreaterLimitsLaw sys = (choices steps more_choices more_steps : ℕ) → IsComplete (table sys choices steps) → HasStepsEnough (table sys choices steps) → table sys (choices + more_choices) (steps + more_steps) ≡ table sys choices steps
