-- What an expectation that may name who waits at an end means of schedules of any length.
use Rattle.std.specs.Prelude.{◌≡◌, ◌&&◌, ℕ, List, Bool, true, false, not, Some}
use Rattle.std.specs.List.{list_any}
use Rattle.cp_run.specs.declared.outcome.OutcomeKind.TheVariants.{AllWaiting}
use Rattle.cp_ends.specs.declared.end.End.{End}
use Rattle.cp_ends.specs.declared.end.End.TheVariants.{Over}
use Rattle.cp_expectation.specs.declared.expectation.Claim.{Claim}
use Rattle.cp_expectation.specs.declared.expectation.Claim.TheVariants.{Only}
use Rattle.cp_expectation.specs.declared.expectation.EndPattern.TheVariants as pattern
use Rattle.cp_expectation.specs.declared.expectation.Topic.{Topic}
use Rattle.cp_expectation.specs.declared.expectation.Topic.TheVariants as topic
use Rattle.cp_expectation.specs.declared.expectation.Expectation.{Expectation}
use Rattle.cp_verdict.specs.endless.Behaviour.{Behaviour, Finding, Ends, Shows, Waits, IsSo}
use Rattle.cp_verdict.specs.endless.Expectations as ends
use Rattle.cp_verdict.specs.endless.Expectations.{asks_some, is_cut}
use Rattle.cp_verdict.specs.endless.Naming.{Names, Processes}
use Rattle.cp_verdict.specs.waiting.Matching.{are_meant}

-- all wait there
abbrev pub is_waiting : End → Bool
is_waiting (Over AllWaiting) = true
is_waiting end = false

-- an end at which all wait, and these do
abbrev pub waiting_at : (who word : List ℕ) → (List ℕ × End) × List ℕ
waiting_at who word = ((who, Over AllWaiting), word)

-- a topic speaks of an end; if all wait there, these do
abbrev pub names_end : Processes → (who : List ℕ) → Topic → End → Bool
names_end ps who (topic.End (pattern.AllWaiting (Some w)) output) end = is_waiting end && are_meant ps w who
names_end ps who t end = ends.names_end ps t end

abbrev pub is_named : Processes → List Topic → (who : List ℕ) → End → Bool
is_named ps ts who end = list_any (λ t. names_end ps who t end) ts

-- whether an end settles an expectation: against `never` and `only`, for `some`; if all wait there, these do
abbrev pub settles_end_by : Claim → Processes → List Topic → (who : List ℕ) → End → Bool
settles_end_by Only ps ts who end = not (is_named ps ts who end) && not (is_cut end)
settles_end_by c ps ts who end = is_named ps ts who end

abbrev pub settles_end : Processes → Expectation → (who : List ℕ) → End → Bool
settles_end ps e who end = settles_end_by e.claim ps e.topics.items who end

-- whether what is so settles an expectation; `who` tells who waits where the run of a word stops
abbrev pub settles : Names → (who : List ℕ → List ℕ) → Expectation → Finding → Bool
settles names who e (Ends end word) = settles_end names.processes e (who word) end
settles names who e (Shows v word) = ends.settles names e (Shows v word)
settles names who e (Waits q) = ends.settles names e (Waits q)

abbrev pub HasSettling : Names → (who : List ℕ → List ℕ) → Behaviour → Expectation → Type 0
HasSettling names who b e = (f : Finding) × IsSo b f × (settles names who e f ≡ true)

abbrev pub IsTrueIf : (asks : Bool) → Names → (who : List ℕ → List ℕ) → Behaviour → Expectation → Type 0
IsTrueIf true names who b e = HasSettling names who b e
IsTrueIf false names who b e = HasSettling names who b e → ⊥

-- An expectation is true where nothing is so that it forbids, or something that it asks for.
abbrev pub IsTrue : Names → (who : List ℕ → List ℕ) → Behaviour → Expectation → Type 0
IsTrue names who b e = IsTrueIf (asks_some e) names who b e
