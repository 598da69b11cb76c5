-- What an expectation means.
use Rattle.std.specs.Prelude.{◌≡◌, ◌&&◌, ℕ, List, Bool, true, false, not, string_bytes}
use Rattle.std.specs.List.{list_any}
use Rattle.cp_run.specs.declared.outcome.OutcomeKind.TheVariants.{StepLimit}
use Rattle.cp_ends.specs.declared.end.End.{End}
use Rattle.cp_ends.specs.declared.end.End.TheVariants.{Over, Alone, Spins}
use Rattle.cp_expectation.specs.declared.expectation.Claim.{Claim}
use Rattle.cp_expectation.specs.declared.expectation.Claim.TheVariants.{Sometimes, Only}
use Rattle.cp_expectation.specs.declared.expectation.EndPattern.{EndPattern}
use Rattle.cp_expectation.specs.declared.expectation.EndPattern.TheVariants as pattern
use Rattle.cp_expectation.specs.declared.expectation.Topic.{Topic}
use Rattle.cp_expectation.specs.declared.expectation.Topic.TheVariants as topic
use Rattle.cp_expectation.specs.declared.expectation.Expectation.{Expectation}
use Rattle.cp_verdict.specs.Expectations.{is_of_kind}
use Rattle.cp_verdict.specs.Outputs.{is_printed, value_text}
use Rattle.cp_verdict.specs.endless.Behaviour.{Behaviour, Finding, Ends, Shows, Waits, IsSo}
use Rattle.cp_verdict.specs.endless.Naming.{Names, Processes, is_meant}

-- ---- ends

-- whether an end is such a one
abbrev pub is_of : Processes → EndPattern → End → Bool
is_of ps (pattern.Alone process) (Alone q) = is_meant ps process q
is_of ps (pattern.Spins process) (Spins q) = is_meant ps process q
is_of ps p (Over kind) = is_of_kind p kind
is_of ps p end = false

abbrev pub names_end : Processes → Topic → End → Bool
names_end ps (topic.End p output) end = is_of ps p end
names_end ps t end = false

abbrev pub is_named : Processes → List Topic → End → Bool
is_named ps ts end = list_any (λ t. names_end ps t end) ts

-- the limit of steps cut a stretch, of which nobody knows how it goes on: this is no end
abbrev pub is_cut : End → Bool
is_cut (Over StepLimit) = true
is_cut end = false

-- an end of which no topic speaks
abbrev pub is_other : Processes → List Topic → End → Bool
is_other ps ts end = not (is_named ps ts end) && not (is_cut end)

-- ---- values, and who waits for ever

abbrev pub names_value : Topic → List ℕ → Bool
names_value (topic.Shown text) printed = is_printed (string_bytes text) printed
names_value t printed = false

abbrev pub is_value_named : List Topic → List ℕ → Bool
is_value_named ts printed = list_any (λ t. names_value t printed) ts

abbrev pub names_waiting : Processes → Topic → ℕ → Bool
names_waiting ps (topic.Waiting process) q = is_meant ps process q
names_waiting ps t q = false

abbrev pub is_waiting_named : Processes → List Topic → ℕ → Bool
is_waiting_named ps ts q = list_any (λ t. names_waiting ps t q) ts

-- ---- expectations

-- one of the topics speaks of it
abbrev pub is_about : Names → List Topic → Finding → Bool
is_about names ts (Ends end word) = is_named names.processes ts end
is_about names ts (Shows v word) = is_value_named ts (value_text names.values v)
is_about names ts (Waits q) = is_waiting_named names.processes ts q

-- an end of which no topic speaks, which no limit cut
abbrev pub is_against_only : Names → List Topic → Finding → Bool
is_against_only names ts (Ends end word) = is_other names.processes ts end
is_against_only names ts f = false

-- what settles an expectation: against `never` and `only`, for `some`
abbrev pub settles_by : Claim → Names → List Topic → Finding → Bool
settles_by Only names ts f = is_against_only names ts f
settles_by c names ts f = is_about names ts f

abbrev pub settles : Names → Expectation → Finding → Bool
settles names e f = settles_by e.claim names e.topics.items f

abbrev pub HasSettling : Names → Behaviour → Expectation → Type 0
HasSettling names b e = (f : Finding) × IsSo b f × (settles names e f ≡ true)

abbrev pub asks_some_by : Claim → Bool
asks_some_by Sometimes = true
asks_some_by c = false

abbrev pub asks_some : Expectation → Bool
asks_some e = asks_some_by e.claim

abbrev pub IsTrueIf : (asks : Bool) → Names → Behaviour → Expectation → Type 0
IsTrueIf true names b e = HasSettling names b e
IsTrueIf false names b e = HasSettling names b e → ⊥

-- An expectation is true where nothing is so that it forbids, or something that it asks for.
abbrev pub IsTrue : Names → Behaviour → Expectation → Type 0
IsTrue names b e = IsTrueIf (asks_some e) names b e
