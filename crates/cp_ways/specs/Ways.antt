-- The ways on from a state: the complete schedules that lead on from there, by their outcomes.
use Rattle.std.specs.Prelude.{◌≡◌, ℕ, List, drop, length, sum_by, count_by, if◌then◌else◌}
use Rattle.cp_machine.specs.System.{Machine}
use Rattle.cp_run.specs.Run.{Choosing, run_from}
use Rattle.cp_run.specs.System.{System}
use Rattle.cp_run.specs.Table.{Line, each, lines_of, words}
use Rattle.cp_run.specs.declared.outcome.Outcome.{Outcome}
use Rattle.cp_merged.specs.declared.end_key.EndKey.{EndKey}
use Rattle.cp_walk.specs.Report.{same_outcome}

-- the rows of all complete words of at most so many numbers, from a state on where a choice is due
abbrev pub rows_on : System Machine → ℕ → ℕ → Machine → List Line
rows_on sys steps choices s = each (λ word. lines_of word (run_from sys steps choices word (Choosing s))) (words sys.processes choices)

-- an outcome with what it displays after so many values
abbrev pub since : ℕ → Outcome → Outcome
since shown o = record { kind = o.kind; output = drop shown o.output }

-- how many schedules of at most so many choices lead on from a state to an outcome: they end so, and display this from there on
abbrev pub ways_to : System Machine → ℕ → ℕ → Machine → Outcome → ℕ
ways_to sys steps choices s o = count_by (λ l. same_outcome (since (length (sys.output s)) l.outcome) o) (rows_on sys steps choices s)

-- how many ways are told to an outcome
abbrev pub told_to : List (EndKey × ℕ) → Outcome → ℕ
told_to ways o = sum_by (λ w. if same_outcome w.0.outcome o then w.1 else 0) ways

-- to each outcome as many are told as there are
abbrev pub AreWaysOn : System Machine → ℕ → ℕ → Machine → List (EndKey × ℕ) → Type 0
AreWaysOn sys steps choices s ways = (o : Outcome) → told_to ways o ≡ ways_to sys steps choices s o
