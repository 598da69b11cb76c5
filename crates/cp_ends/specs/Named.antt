-- What is told of the ends and values of a program, on its own names.
use Rattle.std.specs.Prelude.{◌≡◌, ◌≢◌, ◌⊎◌, ◌≤◌, ◌+◌, ℕ, List, Option, None, Some, All, Contains, length, map, true}
use Rattle.std.specs.List.{AllPairs}
use Rattle.cp_tree.specs.Syntax.{Tree}
use Rattle.cp_slots.specs.Tables.{Tables}
use Rattle.cp_machine.specs.declared.discipline.Discipline as slot_discipline
use Rattle.cp_machine.specs.declared.shown.Shown.{Shown}
use Rattle.cp_machine.specs.System.{Machine}
use Rattle.cp_meaning.specs.State.{Discipline}
use Rattle.cp_run.specs.declared.outcome.OutcomeKind.{OutcomeKind}
use Rattle.cp_run.specs.declared.outcome.OutcomeKind.TheVariants.{StepLimit}
use Rattle.cp_run.specs.Run.{Choosing}
use Rattle.cp_run.specs.Slots.{slots}
use Rattle.cp_machine_laws.specs.Named.{named, discipline_of}
use Rattle.cp_endless_laws.specs.Layers.{AreAllEndsTo}
use Rattle.cp_endless_laws.specs.Meaning.{OfPrograms, IsSettledOf}
use Rattle.cp_endless_laws.specs.Reachable.{LeadsTo, EndsAfter}
use Rattle.cp_endless_laws.specs.Repeats.{EndsAtEachLimit}
use Rattle.cp_endless_laws.specs.Shown.{ShowsAfter}
use Rattle.cp_endless_laws.specs.Silent.{without_output, silent_slots, named_without_output, silent_named}
use Rattle.cp_endless_laws.specs.Tables.{RunsTo}
use Rattle.cp_ends.specs.Ends.{EndsSo, ShowsSo}
use Rattle.cp_ends.specs.Firsts.{is_up_to, IsFirst, AreFirsts, AreFirstOnes, Within}
use Rattle.cp_ends.specs.ForEver.{IsAloneForEver, SpinsForEver}
use Rattle.cp_ends.specs.declared.end.End.{End}
use Rattle.cp_ends.specs.declared.end.End.TheVariants.{Over, Alone, Spins}

-- ---- ends

-- how a schedule with this end ends in a table
abbrev pub kind_of : End → OutcomeKind
kind_of (Over kind) = kind
kind_of (Alone q) = StepLimit
kind_of (Spins q) = StepLimit

abbrev pub kinds_of : List (End × List ℕ) → List OutcomeKind
kinds_of ends = map (λ e. kind_of e.0) ends

-- The word ends so. A stretch that goes on for ever is cut by this limit of steps and by each greater one; whether it comes back to one state
-- is not said.
abbrev pub EndsOnNames : Tree → Discipline → ℕ → End → List ℕ → Type 0
EndsOnNames t g steps (Over kind) word = EndsAfter (silent_named t g) steps word kind
EndsOnNames t g steps (Alone q) word = EndsAtEachLimit (silent_named t g) steps word × IsAloneForEver (silent_named t g) steps word q
EndsOnNames t g steps (Spins q) word = EndsAtEachLimit (silent_named t g) steps word × SpinsForEver (silent_named t g) steps word q

-- the same of the word as a schedule, where as many choices are allowed
abbrev pub IsSchedule : Tree → Discipline → ℕ → List ℕ → OutcomeKind → Type 0
IsSchedule t g steps word kind = (choices : ℕ) → length word ≤ choices → RunsTo (named t g) choices steps word kind

abbrev pub RunsOnNames : Tree → Discipline → ℕ → End → List ℕ → Type 0
RunsOnNames t g steps (Over kind) word = IsSchedule t g steps word kind
RunsOnNames t g steps (Alone q) word = (more : ℕ) → IsSchedule t g (more + steps) word StepLimit
RunsOnNames t g steps (Spins q) word = (more : ℕ) → IsSchedule t g (more + steps) word StepLimit

-- the words that are looked at: all, or those of at most so many choices
abbrev pub IsLookedAt : Option ℕ → List ℕ → Type 0
IsLookedAt None word = Unit {0}
IsLookedAt (Some choices) word = length word ≤ choices

-- an end of this kind is told, with this word or one before it
abbrev pub IsTold : List (End × List ℕ) → OutcomeKind → List ℕ → Type 0
IsTold ends kind word = (end : End) × (first : List ℕ) × Contains ends (end, first) × (kind_of end ≡ kind) × (is_up_to first word ≡ true)

-- Each end is told once, in the order of the words. Each word ends so, and is a schedule with this end. It is the first that does; among
-- stretches that were cut only the first of all is known to be. And of each word that is looked at the end is told.
pub record AreEndsOnNames (t : Tree) (g : Discipline) (steps : ℕ) (looked : Option ℕ) (ends : List (End × List ℕ)) : Type 0 where
  pub looked_at : (end : End) (word : List ℕ) → Contains ends (end, word) → IsLookedAt looked word
  pub end_so : (end : End) (word : List ℕ) → Contains ends (end, word) → EndsOnNames t g steps end word
  pub runs_so : (end : End) (word : List ℕ) → Contains ends (end, word) → RunsOnNames t g steps end word
  pub first : (kind : OutcomeKind) (word : List ℕ) → Contains ends (Over kind, word) → (kind ≡ StepLimit → ⊥) → IsFirst (λ other. EndsAfter (silent_named t g) steps other kind) word
  pub all : (word : List ℕ) (kind : OutcomeKind) → IsLookedAt looked word → EndsAfter (silent_named t g) steps word kind → IsTold ends kind word
  pub once : AllPairs (λ e f. e.0 ≢ f.0) ends
  pub sorted : AllPairs (λ e f. is_up_to e.1 f.1 ≡ true) ends

-- ---- values

-- The stretch to which the word leads shows this value, in as many steps as the limit; or it goes on for ever, and shows it in twice as many.
abbrev pub ShowsOnNames : Tree → Discipline → ℕ → Shown → List ℕ → Type 0
ShowsOnNames t g steps v word =
    ShowsAfter (named t g) named_without_output steps word v ⊎
    (EndsAtEachLimit (silent_named t g) steps word × ShowsAfter (named t g) named_without_output (steps + steps) word v)

-- the value is told, with this word or one before it; or as many values are told as there may be, none with a later word
abbrev pub IsValueTold : ℕ → List (Shown × List ℕ) → Shown → List ℕ → Type 0
IsValueTold most values v word =
    ((first : List ℕ) × Contains values (v, first) × (is_up_to first word ≡ true)) ⊎ ((length values ≡ most) × All (λ x. is_up_to x.1 word ≡ true) values)

-- Each value is told once, in the order of the words. Each is shown; no word before its own shows it in as many steps as the limit; and each
-- that is shown so is told.
pub record AreValuesOnNames (t : Tree) (g : Discipline) (steps : ℕ) (looked : Option ℕ) (most : ℕ) (values : List (Shown × List ℕ)) : Type 0 where
  pub looked_at : (v : Shown) (word : List ℕ) → Contains values (v, word) → IsLookedAt looked word
  pub shown : (v : Shown) (word : List ℕ) → Contains values (v, word) → ShowsOnNames t g steps v word
  pub first : (v : Shown) (word other : List ℕ) → Contains values (v, word) → ShowsAfter (named t g) named_without_output steps other v → is_up_to word other ≡ true
  pub all : (v : Shown) (word : List ℕ) → IsLookedAt looked word → ShowsAfter (named t g) named_without_output steps word v → IsValueTold most values v word
  pub once : AllPairs (λ x y. x.0 ≢ y.0) values
  pub sorted : AllPairs (λ x y. is_up_to x.1 y.1 ≡ true) values

-- ---- where every state was expanded

-- no end is at the limit of steps, but such as are seen to go on for ever
abbrev pub HasNoCut : List (End × List ℕ) → Type 0
HasNoCut ends = (word : List ℕ) → Contains ends (Over StepLimit, word) → ⊥

-- Of the program nothing else is possible, in schedules of any length: the kinds of these ends are all, in tables of whatever number of
-- choices too. Where no end is at the limit of steps but such as go on for ever, the same holds for every greater limit, and so it does of
-- the values.
pub record IsAnswerOnNames (t : Tree) (g : Discipline) (steps most : ℕ) (ends : List (End × List ℕ)) (values : List (Shown × List ℕ)) : Type 0 where
  pub all_ends : AreEndsOnNames t g steps None ends
  pub all_values : AreValuesOnNames t g steps None most values
  pub settled : IsSettledOf t g steps (kinds_of ends)
  pub more_steps : HasNoCut ends → (more : ℕ) → IsSettledOf t g (more + steps) (kinds_of ends)
  pub more_values : HasNoCut ends → (more : ℕ) (v : Shown) (word : List ℕ) → ShowsAfter (named t g) named_without_output (more + steps) word v → IsValueTold most values v word

-- on slots: all states, ends and values, each with its first word
pub record IsAnswerOnSlots (r : Tables) (discipline : slot_discipline.Discipline) (steps most : ℕ) (states : List (Machine × List ℕ)) (ends : List (End × List ℕ)) (values : List (Shown × List ℕ)) : Type 0 where
  pub all_states : AreFirsts (λ m word. LeadsTo (silent_slots r discipline) steps word (Choosing m)) states
  pub all_ends : AreFirsts (EndsSo (silent_slots r discipline) steps) ends
  pub all_values : AreFirstOnes most (ShowsSo (slots r discipline) without_output steps) values

abbrev pub AnswerMeaningLaw : Type 0
AnswerMeaningLaw = OfPrograms (λ t r g steps.
    (most : ℕ) (states : List (Machine × List ℕ)) (ends : List (End × List ℕ)) (values : List (Shown × List ℕ)) →
    IsAnswerOnSlots r (discipline_of g) steps most states ends values → IsAnswerOnNames t g steps most ends values)

-- ---- where there are too many states

-- Of the program nothing else is possible in schedules of at most so many choices.
pub record IsAnswerToOnNames (t : Tree) (g : Discipline) (steps choices most : ℕ) (ends : List (End × List ℕ)) (values : List (Shown × List ℕ)) : Type 0 where
  pub all_ends : AreEndsOnNames t g steps (Some choices) ends
  pub all_values : AreValuesOnNames t g steps (Some choices) most values
  pub settled : AreAllEndsTo (silent_named t g) steps choices (kinds_of ends)

pub record IsAnswerToOnSlots (r : Tables) (discipline : slot_discipline.Discipline) (steps choices most : ℕ) (ends : List (End × List ℕ)) (values : List (Shown × List ℕ)) : Type 0 where
  pub all_ends : AreFirsts (Within choices (EndsSo (silent_slots r discipline) steps)) ends
  pub all_values : AreFirstOnes most (Within choices (ShowsSo (slots r discipline) without_output steps)) values

abbrev pub AnswerToMeaningLaw : Type 0
AnswerToMeaningLaw = OfPrograms (λ t r g steps.
    (choices most : ℕ) (ends : List (End × List ℕ)) (values : List (Shown × List ℕ)) →
    IsAnswerToOnSlots r (discipline_of g) steps choices most ends values → IsAnswerToOnNames t g steps choices most ends values)
