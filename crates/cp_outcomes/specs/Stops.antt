-- Outcomes that ended at a limit.
use Rattle.std.specs.Prelude.{ℕ, List, [], ◌∷◌, Bool, true, false, not, ◌==◌, sum_by, if◌then◌else◌}
use Rattle.std.specs.List.{filter}
use Rattle.cp_run.specs.declared.outcome.OutcomeKind.{OutcomeKind}
use Rattle.cp_run.specs.declared.outcome.OutcomeKind.TheVariants.{ChoiceLimit, StepLimit, OutputLimit}
use Rattle.cp_walk.specs.Groups.{Tally}
use Rattle.cp_outcomes.specs.declared.stopped.Limit.{Limit}
use Rattle.cp_outcomes.specs.declared.stopped.Limit.TheVariants.{Choices, Steps, Output}

-- whether a kind of end is that of a limit
abbrev pub is_at : Limit → OutcomeKind → Bool
is_at Choices ChoiceLimit = true
is_at Steps StepLimit = true
is_at Output OutputLimit = true
is_at limit kind = false

-- the kind of an end at a limit
abbrev pub kind_at : Limit → OutcomeKind
kind_at Choices = ChoiceLimit
kind_at Steps = StepLimit
kind_at Output = OutputLimit

-- how many rows of an outcome ended at it
abbrev pub count_at : Limit → Tally → ℕ
count_at limit t = if is_at limit t.first.outcome.kind then t.count else 0

-- how many of all rows did
abbrev pub rows_at : Limit → List Tally → ℕ
rows_at limit ts = sum_by (count_at limit) ts

-- the limits at which some rows ended
abbrev pub stops : List Tally → List Limit
stops ts = filter (λ l. not (rows_at l ts == 0)) (Choices ∷ Steps ∷ Output ∷ [])
