-- Whether those who wait at an end are the ones that an expectation names.
use Rattle.std.specs.Prelude.{◌&&◌, ◌||◌, ℕ, List, Bool, true, false, Some, string_bytes}
use Rattle.std.specs.List.{list_all, list_any}
use Rattle.std.specs.declared.alloc.Global.{Global}
use Rattle.std.specs.declared.string.String.{String}
use Rattle.cp_run.specs.declared.outcome.Outcome.{Outcome}
use Rattle.cp_run.specs.declared.outcome.OutcomeKind.{OutcomeKind}
use Rattle.cp_run.specs.declared.outcome.OutcomeKind.TheVariants.{AllWaiting}
use Rattle.cp_walk.specs.Text.{Spellings}
use Rattle.cp_expectation.specs.declared.expectation.EndPattern.TheVariants as pattern
use Rattle.cp_expectation.specs.declared.expectation.Expectation.{Expectation}
use Rattle.cp_expectation.specs.declared.expectation.Topic.{Topic}
use Rattle.cp_expectation.specs.declared.expectation.Topic.TheVariants as topic
use Rattle.cp_expectation.specs.declared.expectation.WhoPattern.{WhoPattern}
use Rattle.cp_verdict.specs.Expectations as expectations
use Rattle.cp_verdict.specs.Expectations.{has_output, settles_by}
use Rattle.cp_verdict.specs.endless.Naming.{Processes, is_called}

-- one of these processes is called so
abbrev pub has_one : Processes → List ℕ → List ℕ → Bool
has_one ps name who = list_any (is_called ps name) who

-- a process is called by one of the names
abbrev pub is_named : Processes → List (String Global) → ℕ → Bool
is_named ps names q = list_any (λ name. is_called ps (string_bytes name) q) names

-- somebody of each name waits; and nobody else, unless others may
abbrev pub are_meant : Processes → WhoPattern → List ℕ → Bool
are_meant ps w who = list_all (λ name. has_one ps (string_bytes name) who) w.processes.items && (w.others || list_all (is_named ps w.processes.items) who)

abbrev pub is_waiting_kind : OutcomeKind → Bool
is_waiting_kind AllWaiting = true
is_waiting_kind kind = false

abbrev pub is_waiting : Outcome → Bool
is_waiting o = is_waiting_kind o.kind

-- a topic speaks of this outcome, at whose end these processes wait
abbrev pub fits : Spellings → Processes → List ℕ → Outcome → Topic → Bool
fits names ps who o (topic.End (pattern.AllWaiting (Some w)) output) = is_waiting o && (are_meant ps w who && has_output names output o.output)
fits names ps who o t = expectations.fits names o t

abbrev pub is_one_of : Spellings → Processes → List Topic → List ℕ → Outcome → Bool
is_one_of names ps ts who o = list_any (fits names ps who o) ts

-- whether one row with this outcome, at whose end these wait, settles an expectation
abbrev pub settles : Spellings → Processes → Expectation → List ℕ → Outcome → Bool
settles names ps e who o = settles_by e.claim (is_one_of names ps e.topics.items who) o
