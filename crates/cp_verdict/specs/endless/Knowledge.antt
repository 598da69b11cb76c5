-- What is known of the schedules of a program.
use Rattle.std.specs.Prelude.{◌≡◌, ◌&&◌, ℕ, suc, List, [], Bool, true, not, map, nat_le, nat_lt, Option, None, Some, is_none, is_some, Contains, string_bytes, filter, length, slice_get, vec_len}
use Rattle.std.specs.List.{list_all}
use Rattle.std.specs.declared.vec.Vec.{Vec}
use Rattle.std.specs.declared.alloc.Global.{Global}
use Rattle.cp_slots.specs.Tables.{Tables}
use Rattle.cp_machine.specs.System.{Machine}
use Rattle.cp_machine.specs.declared.discipline.Discipline.{Discipline}
use Rattle.cp_machine.specs.declared.shown.Shown.{Shown}
use Rattle.cp_run.specs.Slots.{slots}
use Rattle.cp_run.specs.declared.outcome.OutcomeKind.TheVariants.{StepLimit}
use Rattle.cp_endless_laws.specs.Silent.{without_output, silent_slots}
use Rattle.cp_walk.specs.Text.{Spellings}
use Rattle.cp_ends.specs.Ends.{EndsSo}
use Rattle.cp_ends.specs.Firsts.{AreFirsts, AreFirstOnes, Within}
use Rattle.cp_ends.specs.Whole.{LeadsToState, HasTooMany}
use Rattle.cp_ends.specs.declared.end.End.{End}
use Rattle.cp_ends.specs.declared.end.End.TheVariants.{Over}
use Rattle.cp_ends.specs.declared.found.TheConstants.{MOST_VALUES}
use Rattle.cp_waits.specs.declared.waiting.Waiting.{Waiting}
use Rattle.cp_verdict.specs.Outputs.{value_text}
use Rattle.cp_verdict.specs.endless.Behaviour.{Finding, Ends, Shows, Waits, on_slots}
use Rattle.cp_verdict.specs.endless.Expectations.{is_cut}
use Rattle.cp_expectation.specs.declared.expectation.Topic.{Topic}
use Rattle.cp_expectation.specs.declared.expectation.Topic.TheVariants as topic
use Rattle.cp_expectation.specs.declared.expectation.Expectation.{Expectation}
use Rattle.cp_verdict.specs.declared.endless.known.KnownEnds.{KnownEnds}
use Rattle.cp_verdict.specs.declared.endless.known.KnownEnd.{KnownEnd}
use Rattle.cp_verdict.specs.declared.endless.known.KnownValue.{KnownValue}
use Rattle.cp_verdict.specs.declared.endless.known.Witness.{Witness}
use Rattle.cp_verdict.specs.declared.endless.known.Witness.TheVariants as witness
use Rattle.cp_verdict.specs.declared.program.Stops.{Stops}

abbrev pub end_pair : KnownEnd → End × List ℕ
end_pair e = (e.end, e.word.items)

abbrev pub value_pair : KnownValue → Shown × List ℕ
value_pair v = (v.value, v.word.items)

abbrev pub ended : End × List ℕ → Finding
ended x = Ends x.0 x.1

abbrev pub shown : Shown × List ℕ → Finding
shown x = Shows x.0 x.1

abbrev pub waiting_for_ever : Waiting → Finding
waiting_for_ever w = Waits w.process

abbrev pub finding_of : Witness → Finding
finding_of (witness.End e) = ended (end_pair e.now)
finding_of (witness.Value v) = shown (value_pair v.now)
finding_of (witness.Waiting w) = waiting_for_ever w.now

abbrev pub those_waiting : Option (Vec Waiting Global) → List Waiting
those_waiting None = []
those_waiting (Some list) = list.items

-- ---- whether it is all

-- all schedules were looked at, and no stretch was cut
abbrev pub is_whole : KnownEnds → Bool
is_whole k = is_none k.looked && list_all (λ e. not (is_cut e.end)) k.ends.items

-- the limits that were met: there are more states, a stretch was cut, or more values can be displayed than are kept
abbrev pub stops_of : KnownEnds → Stops
stops_of k = record { choices = is_some k.looked; steps = not (list_all (λ e. not (is_cut e.end)) k.ends.items); output = nat_lt MOST_VALUES (vec_len k.values) }

-- all is kept that a topic speaks of
abbrev pub is_kept : Topic → KnownEnds → Bool
is_kept (topic.End end output) k = true
is_kept (topic.Waiting process) k = is_some k.waits
is_kept (topic.Shown text) k = nat_le (vec_len k.values) MOST_VALUES

-- what is not known is not so
abbrev pub is_settled : Expectation → KnownEnds → Bool
is_settled e k = is_whole k && list_all (λ t. is_kept t k) e.topics.items

-- ---- that it is so

-- of words of any length, or of at most so many numbers
abbrev pub Looked : {A : Type 0} → Option ℕ → (A → List ℕ → Type 0) → A → List ℕ → Type 0
Looked None P = P
Looked (Some d) P = Within d P

-- whether a word is among them
abbrev pub is_looked_at : Option ℕ → List ℕ → Bool
is_looked_at None word = true
is_looked_at (Some d) word = nat_le (length word) d

-- the things with such words
abbrev pub those_looked_at : {A : Type 0} → Option ℕ → List (A × List ℕ) → List (A × List ℕ)
those_looked_at looked xs = filter (λ x. is_looked_at looked x.1) xs

-- A search that stopped at the state of this number looked at all words that are as long as the one that leads there.
abbrev pub IsLookedAt : List (Machine × List ℕ) → Option ℕ → Option ℕ → Type 0
IsLookedAt states None looked = looked ≡ None
IsLookedAt states (Some at) looked = (x : Machine × List ℕ) → slice_get states at ≡ Some x → looked ≡ Some (length x.1)

-- no stretch is cut
abbrev pub HasNoCut : Tables → Discipline → ℕ → Type 0
HasNoCut r discipline steps = (word : List ℕ) → EndsSo (silent_slots r discipline) steps (Over StepLimit) word → ⊥

-- The list has only processes that may wait for ever; and all, where no stretch is cut.
abbrev pub AreWaiting : Tables → Discipline → ℕ → List Waiting → Type 0
AreWaiting r discipline steps list =
    (q : ℕ) → (Contains (map (λ w. w.process) list) q → (on_slots r discipline steps).waits q) × (HasNoCut r discipline steps → (on_slots r discipline steps).waits q → Contains (map (λ w. w.process) list) q)

abbrev pub KnowsWaits : Tables → Discipline → ℕ → Option (Vec Waiting Global) → Type 0
KnowsWaits r discipline steps None = Unit {0}
KnowsWaits r discipline steps (Some list) = AreWaiting r discipline steps list.items

abbrev pub HasMore : Tables → Discipline → (steps most : ℕ) → Option ℕ → Type 0
HasMore r discipline steps most None = Unit {0}
HasMore r discipline steps most (Some d) = HasTooMany (slots r discipline) without_output steps most d

-- the values are printed so
abbrev pub HasTexts : Spellings → List KnownValue → Type 0
HasTexts names values = map (λ v. string_bytes v.text) values ≡ map (λ v. value_text names v.value) values

-- Of the schedules that were looked at each end and each value is known, with its first word. Only where there are too many states were not all looked at.
pub record IsKnown (r : Tables) (discipline : Discipline) (steps most : ℕ) (k : KnownEnds) : Type 0 where
  pub states : List (Machine × List ℕ)
  pub all_states : AreFirsts (Looked k.looked (LeadsToState (slots r discipline) without_output steps)) states
  pub ends : AreFirsts (Looked k.looked (on_slots r discipline steps).ends) (map end_pair k.ends.items)
  pub values : AreFirstOnes (suc MOST_VALUES) (Looked k.looked (on_slots r discipline steps).shows) (map value_pair k.values.items)
  pub texts : HasTexts r.names k.values.items
  pub waits : KnowsWaits r discipline steps k.waits
  pub more : HasMore r discipline steps most k.looked
