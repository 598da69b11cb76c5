-- Of which outcomes an expectation speaks, and when it is true of some rows.
use Rattle.std.specs.Prelude.{ℕ, List, Bool, true, false, not, ◌&&◌, map, Option, None, Some, string_bytes}
use Rattle.std.specs.List.{list_any, list_all}
use Rattle.cp_store.specs.declared.error.ErrorName.{ErrorName}
use Rattle.cp_store.specs.declared.error.ErrorName.TheVariants.{Overflow, ZeroDivisor, Range, NoCase, QueueInUse, NotInit, InitTwice, Assertion, Invariant}
use Rattle.cp_machine.specs.declared.shown.Shown.{Shown}
use Rattle.cp_run.specs.declared.outcome.Outcome.{Outcome}
use Rattle.cp_run.specs.declared.outcome.OutcomeKind.{OutcomeKind}
use Rattle.cp_run.specs.declared.outcome.OutcomeKind.TheVariants.{Finished, AllWaiting, RunError, ChoiceLimit, StepLimit, OutputLimit}
use Rattle.cp_run.specs.Table.{Line}
use Rattle.cp_walk.specs.Text.{Spellings}
use Rattle.cp_expectation.specs.declared.expectation.Claim.{Claim}
use Rattle.cp_expectation.specs.declared.expectation.Claim.TheVariants.{Never, Sometimes, Only}
use Rattle.cp_expectation.specs.declared.expectation.EndPattern.{EndPattern}
use Rattle.cp_expectation.specs.declared.expectation.EndPattern.TheVariants as end
use Rattle.cp_expectation.specs.declared.expectation.OutputPattern.{OutputPattern}
use Rattle.cp_expectation.specs.declared.expectation.Topic.{Topic}
use Rattle.cp_expectation.specs.declared.expectation.Topic.TheVariants as topic
use Rattle.cp_expectation.specs.declared.expectation.Expectation.{Expectation}
use Rattle.cp_verdict.specs.Outputs.{value_text, is_printed, reads_as}

abbrev pub is_same_error : ErrorName → ErrorName → Bool
is_same_error Overflow Overflow = true
is_same_error ZeroDivisor ZeroDivisor = true
is_same_error Range Range = true
is_same_error NoCase NoCase = true
is_same_error QueueInUse QueueInUse = true
is_same_error NotInit NotInit = true
is_same_error InitTwice InitTwice = true
is_same_error Assertion Assertion = true
is_same_error Invariant Invariant = true
is_same_error wanted name = false

-- such an end; who waits is not asked
abbrev pub is_of_kind : EndPattern → OutcomeKind → Bool
is_of_kind end.Finished Finished = true
is_of_kind (end.AllWaiting None) AllWaiting = true
is_of_kind end.AnyError (RunError name process line) = true
is_of_kind (end.Error wanted) (RunError name process line) = is_same_error wanted name
is_of_kind p kind = false

-- a run that was stopped by a limit
abbrev pub is_limit : OutcomeKind → Bool
is_limit ChoiceLimit = true
is_limit StepLimit = true
is_limit OutputLimit = true
is_limit kind = false

abbrev pub has_output : Spellings → Option OutputPattern → List Shown → Bool
has_output names None values = true
has_output names (Some p) values = reads_as p.items.items (map (value_text names) values)

-- one of the values is printed so
abbrev pub shows : Spellings → List ℕ → List Shown → Bool
shows names text values = list_any (λ v. is_printed text (value_text names v)) values

-- a topic speaks of this outcome; waiting for ever is no outcome of a table
abbrev pub fits : Spellings → Outcome → Topic → Bool
fits names o (topic.End end output) = is_of_kind end o.kind && has_output names output o.output
fits names o (topic.Shown text) = shows names (string_bytes text) o.output
fits names o (topic.Waiting process) = false

abbrev pub is_one_of : Spellings → List Topic → Outcome → Bool
is_one_of names ts o = list_any (fits names o) ts

-- whether an expectation of the named outcomes is true of some rows
abbrev pub is_true_by : Claim → (Outcome → Bool) → List Line → Bool
is_true_by Never named lines = not (list_any (λ l. named l.outcome) lines)
is_true_by Sometimes named lines = list_any (λ l. named l.outcome) lines
is_true_by Only named lines = list_all (λ l. named l.outcome) lines

abbrev pub is_true_of : Spellings → Expectation → List Line → Bool
is_true_of names e lines = is_true_by e.claim (is_one_of names e.topics.items) lines

-- whether one row with this outcome settles it: against `never` and `only`, for `some`
abbrev pub settles_by : Claim → (Outcome → Bool) → Outcome → Bool
settles_by Never named o = named o
settles_by Sometimes named o = named o
settles_by Only named o = not (named o) && not (is_limit o.kind)

abbrev pub settles : Spellings → Expectation → Outcome → Bool
settles names e o = settles_by e.claim (is_one_of names e.topics.items) o

-- a run that a limit stopped, of which what it would come to might settle the expectation
abbrev pub is_open_by : Claim → (Outcome → Bool) → Outcome → Bool
is_open_by Never named o = is_limit o.kind
is_open_by Sometimes named o = is_limit o.kind
is_open_by Only named o = is_limit o.kind && not (named o)

abbrev pub is_open : Spellings → Expectation → Outcome → Bool
is_open names e o = is_open_by e.claim (is_one_of names e.topics.items) o
