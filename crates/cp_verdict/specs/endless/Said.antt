-- What is said with a mark by schedules of any length.
use Rattle.std.specs.Prelude.{◌≡◌, ◌⊎◌, ◌++◌, ℕ, List, [], Bool, true, false, if◌then◌else◌, Option, Some, None, codes, decimal, slice_get, string_bytes}
use Rattle.std.specs.List.{list_all}
use Rattle.cp_slots.specs.Tables.{Tables}
use Rattle.cp_machine.specs.declared.discipline.Discipline.{Discipline}
use Rattle.cp_legend.specs.Names.{path_in, process_in}
use Rattle.cp_walk.specs.Text.{word_text}
use Rattle.cp_ends.specs.Told.{end_text}
use Rattle.cp_waits.specs.declared.waiting.How.{How}
use Rattle.cp_waits.specs.declared.waiting.How.TheVariants.{Throughout, ForGood, InItsCall}
use Rattle.cp_at_once_laws.specs.OnSlots.{by_the_book}
use Rattle.cp_expectation.specs.Written.{expectation_text}
use Rattle.cp_expectation.specs.declared.expectation.Expectation.{Expectation}
use Rattle.cp_expectation.specs.declared.expectation.Topic.{Topic}
use Rattle.cp_expectation.specs.declared.expectation.Topic.TheVariants as topic
use Rattle.cp_verdict.specs.Lasting.{is_of_values}
use Rattle.cp_verdict.specs.Marked.{OneForEach}
use Rattle.cp_verdict.specs.endless.AtOnce.{IsKnownAtOnce}
use Rattle.cp_verdict.specs.endless.Knowledge.{IsKnown, end_pair, is_whole, stops_of}
use Rattle.cp_verdict.specs.endless.Marked.{AreJudged, is_of_waiting, mark_of, with_tables}
use Rattle.cp_verdict.specs.endless.Naming.{Processes}
use Rattle.cp_verdict.specs.waiting.Asking.{name_who}
use Rattle.cp_verdict.specs.waiting.EndsJudged.{IsJudgedAny, IsJudgedByAny}
use Rattle.cp_verdict.specs.waiting.Known.{KnowsWho}
use Rattle.cp_verdict.specs.declared.endless.judging.EndsJudgement.{EndsJudgement}
use Rattle.cp_verdict.specs.declared.endless.judging.EndsJudgement.TheVariants as judgement
use Rattle.cp_verdict.specs.declared.endless.known.KnownEnds.{KnownEnds}
use Rattle.cp_verdict.specs.declared.endless.known.Witness.{Witness}
use Rattle.cp_verdict.specs.declared.endless.known.Witness.TheVariants as witness
use Rattle.cp_verdict.specs.declared.endless.saying.Against.{Against}
use Rattle.cp_verdict.specs.declared.endless.saying.Against.TheVariants as against
use Rattle.cp_verdict.specs.declared.endless.saying.MarkedEnds.{MarkedEnds}
use Rattle.cp_verdict.specs.declared.endless.saying.Said.{Said}
use Rattle.cp_verdict.specs.declared.endless.verdict.EndsMark.{EndsMark}
use Rattle.cp_verdict.specs.declared.endless.verdict.EndsMark.TheVariants as mark
use Rattle.cp_verdict.specs.declared.endless.verdict.EndsVerdict.{EndsVerdict}
use Rattle.cp_verdict.specs.declared.marking.Standing.{Standing}
use Rattle.cp_verdict.specs.declared.marking.Standing.TheVariants as standing

-- ---- the reason below an expectation

abbrev pub how_text : How → List ℕ
how_text Throughout = codes " waits for ever"
how_text ForGood = codes " waits for good"
how_text InItsCall = codes " never comes out of its call"

-- a schedule, and what it shows
abbrev pub witness_text : Processes → Witness → List ℕ
witness_text ps (witness.End e) = word_text e.now.word.items ++ codes " " ++ end_text e.now.end
witness_text ps (witness.Value v) = word_text v.now.word.items ++ codes " shows " ++ string_bytes v.now.text
witness_text ps (witness.Waiting w) = word_text w.now.first.items ++ codes " again " ++ word_text w.now.again.items ++ codes ": " ++ decimal w.now.process ++ codes " " ++ path_in (process_in ps.components w.now.process) ++ how_text w.now.how

abbrev pub before_text : (at_once : Bool) → List ℕ
before_text false = codes "first against it: "
before_text true = codes "a schedule against it: "

abbrev pub is_of_end : Topic → Bool
is_of_end (topic.End end output) = true
is_of_end t = false

abbrev pub nobody_text : (first : Option Topic) → List ℕ
nobody_text (Some (topic.Waiting None)) = codes "nobody may wait for ever\n"
nobody_text t = codes "it may not wait for ever\n"

-- no schedule is as one was to be
abbrev pub missing_text : List Topic → List ℕ
missing_text ts =
    if list_all is_of_end ts
    then codes "no schedule of any length ends so\n"
    else (if list_all is_of_values ts then codes "no schedule of any length displays it\n" else (if list_all is_of_waiting ts then nobody_text (slice_get ts 0) else codes "no schedule of any length is so\n"))

-- of schedules of any length, or of those that no limit of steps cut
abbrev pub unsettled_text : (whole : Bool) → List ℕ
unsettled_text true = codes "it is not known to hold, and no schedule is known to be against it\n"
unsettled_text false = codes "some schedules ended at step-limit, and none so far settles it (try greater --steps)\n"

-- no schedule settles it: of those that were looked at, or that were found; or of all
abbrev pub open_text : (looked : Option ℕ) → (at_once whole : Bool) → List ℕ
open_text (Some choices) false whole = codes "no schedule of at most " ++ decimal choices ++ codes " choices settles it (try greater --states)\n"
open_text (Some choices) true whole = codes "no schedule that was found settles it (try greater --states)\n"
open_text None at_once whole = unsettled_text whole

abbrev pub reason_text : Processes → (at_once : Bool) → KnownEnds → Expectation → EndsJudgement → List ℕ
reason_text ps at_once k e judgement.Holds = []
reason_text ps at_once k e (judgement.Against w) = before_text at_once ++ witness_text ps w ++ codes "\n"
reason_text ps at_once k e judgement.Missing = missing_text e.topics.items
reason_text ps at_once k e judgement.Open = open_text k.looked at_once (is_whole k)

-- ---- an expectation

abbrev pub standing_of : EndsJudgement → Standing
standing_of judgement.Holds = standing.Holds
standing_of (judgement.Against w) = standing.Fails
standing_of judgement.Missing = standing.Fails
standing_of judgement.Open = standing.Open

-- it shows what was found
abbrev pub ShowsIt : Witness → Against → Type 0
ShowsIt (witness.End e) (against.End k) = end_pair k ≡ end_pair e.now
ShowsIt (witness.Value v) (against.Value word) = word.items ≡ v.now.word.items
ShowsIt (witness.Waiting w) (against.Round process first again) = (process ≡ w.now.process) × (first.items ≡ w.now.first.items) × (again.items ≡ w.now.again.items)
ShowsIt w a = ⊥

-- the schedule against it, if there is one
abbrev pub IsAgainstBy : EndsJudgement → Option Against → Type 0
IsAgainstBy (judgement.Against w) (Some a) = ShowsIt w a
IsAgainstBy (judgement.Against w) None = ⊥
IsAgainstBy j a = a ≡ None

-- what is said of an expectation that is judged so, as it is written
pub record IsSaidOf (ps : Processes) (at_once : Bool) (k : KnownEnds) (e : Expectation) (j : EndsJudgement) (s : Said) : Type 0 where
  pub expectation : string_bytes s.expectation ≡ expectation_text e
  pub standing : s.standing ≡ standing_of j
  pub reason : string_bytes s.reason ≡ reason_text ps at_once k e j
  pub against : IsAgainstBy j s.against

-- each in its turn, by a judgement of it
abbrev pub AreSaid : Processes → (at_once : Bool) → KnownEnds → (Expectation → EndsJudgement → Type 0) → List Expectation → List Said → Type 0
AreSaid ps at_once k J es all = OneForEach (λ e s. (j : EndsJudgement) × J e j × IsSaidOf ps at_once k e j s) es all

-- ---- all of them

-- of which schedules they hold: of all, if all were looked at and no stretch was cut
abbrev pub held_text : (whole at_once : Bool) → List ℕ
held_text false at_once = codes "shown by a schedule\n"
held_text true false = codes "for schedules of any length\n"
held_text true true = codes "for schedules of any length, by those in which kernel calls are made at once\n"

abbrev pub many_text : (at_once : Bool) → (most : ℕ) → List ℕ
many_text false most = codes "too many states: there may be " ++ decimal most ++ codes "\n"
many_text true most = codes "too many states with kernel calls at once: there may be " ++ decimal most ++ codes "\n"

-- what is said of all expectations
abbrev pub note_text : (most : ℕ) → (at_once : Bool) → EndsMark → (whole : Bool) → List ℕ
note_text most at_once mark.Holds whole = held_text whole at_once
note_text most at_once mark.TooMany whole = many_text at_once most
note_text most at_once m whole = []

-- How the mark was found: kernel calls at once were tried since there were too many states, and there were with these as well; or they were made.
abbrev pub last_text : (most : ℕ) → (at_once : Bool) → List ℕ
last_text most false = codes "so there are with kernel calls at once\n"
last_text most true = codes "too many states: there may be " ++ decimal most ++ codes ", so kernel calls were made at once\n"

-- ---- by a search

-- what is known: by all states, or by kernel calls at once
abbrev pub IsKnownBy : (at_once : Bool) → Tables → Discipline → (steps most : ℕ) → List Expectation → KnownEnds → Type 0
IsKnownBy false r discipline steps most es k = IsKnown r discipline steps most k × (name_who es ≡ true → KnowsWho r discipline steps k)
IsKnownBy true r discipline steps most es k = (discipline ≡ by_the_book) × IsKnownAtOnce r steps most k

-- what that says of an expectation
abbrev pub IsJudgedAs : (at_once : Bool) → Tables → Processes → Discipline → (steps : ℕ) → KnownEnds → Expectation → EndsJudgement → Type 0
IsJudgedAs false r ps discipline steps k e j = IsJudgedAny r ps discipline steps k e j
IsJudgedAs true r ps discipline steps k e j = IsJudgedByAny (with_tables r ps) k e j

-- A search was made: the mark is that of a verdict by what it lets one know, and so is what is said of each expectation, and of all.
pub record IsSaidBy (at_once : Bool) (r : Tables) (ps : Processes) (discipline : Discipline) (steps most : ℕ) (es : List Expectation) (m : MarkedEnds) : Type 0 where
  pub known : KnownEnds
  pub is_known : IsKnownBy at_once r discipline steps most es known
  pub verdict : EndsVerdict
  pub judged : AreJudged (IsJudgedAs at_once r ps discipline steps known) es verdict
  pub mark : m.mark ≡ mark_of verdict known.looked
  pub each : AreSaid ps at_once known (IsJudgedAs at_once r ps discipline steps known) es m.each.items
  pub stops : m.stops ≡ stops_of known
  pub note : string_bytes m.note ≡ note_text most at_once m.mark (is_whole known)

-- nothing is said of another search
abbrev pub IsSaidAlone : (at_once : Bool) → Tables → Processes → Discipline → (steps most : ℕ) → List Expectation → MarkedEnds → Type 0
IsSaidAlone at_once r ps discipline steps most es m = IsSaidBy at_once r ps discipline steps most es m × (string_bytes m.last ≡ [])

-- by all states, or by kernel calls at once, and perhaps how that came
abbrev pub IsSaid : Tables → Processes → Discipline → (steps most : ℕ) → List Expectation → MarkedEnds → Type 0
IsSaid r ps discipline steps most es m = (at_once : Bool) × IsSaidBy at_once r ps discipline steps most es m × ((string_bytes m.last ≡ []) ⊎ (string_bytes m.last ≡ last_text most at_once))
