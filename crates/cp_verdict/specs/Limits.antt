-- The limits at which rows ended.
use Rattle.std.specs.Prelude.{◌≡◌, List, Bool, true, false}
use Rattle.std.specs.List.{list_any}
use Rattle.cp_run.specs.Table.{Line}
use Rattle.cp_run.specs.declared.outcome.OutcomeKind.{OutcomeKind}
use Rattle.cp_run.specs.declared.outcome.OutcomeKind.TheVariants.{ChoiceLimit, StepLimit, OutputLimit}
use Rattle.cp_verdict.specs.declared.program.Stops.{Stops}

abbrev pub ended_for_choices : OutcomeKind → Bool
ended_for_choices ChoiceLimit = true
ended_for_choices kind = false

abbrev pub ended_for_steps : OutcomeKind → Bool
ended_for_steps StepLimit = true
ended_for_steps kind = false

abbrev pub ended_for_output : OutcomeKind → Bool
ended_for_output OutputLimit = true
ended_for_output kind = false

abbrev pub some_row : (OutcomeKind → Bool) → List Line → Bool
some_row has_ended lines = list_any (λ l. has_ended l.outcome.kind) lines

-- each is told of exactly where some row ended at it
pub record AreStopsOf (lines : List Line) (s : Stops) : Type 0 where
  pub choices : s.choices ≡ some_row ended_for_choices lines
  pub steps : s.steps ≡ some_row ended_for_steps lines
  pub output : s.output ≡ some_row ended_for_output lines
