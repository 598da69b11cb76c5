-- What is known of some expectations together.
use Rattle.std.specs.Prelude.{◌≡◌, ◌⊎◌, ℕ, List, Bool, true, false, Option, None, Some, Contains}
use Rattle.std.specs.List.{list_any}
use Rattle.std.specs.Borrow.{Bor}
use Rattle.cp_slots.specs.Tables.{Tables}
use Rattle.cp_machine.specs.declared.discipline.Discipline.{Discipline}
use Rattle.cp_machine_laws.specs.Named.{named_discipline}
use Rattle.cp_ends.specs.Whole.{OfItsPrograms}
use Rattle.cp_verdict.specs.endless.Behaviour.{Behaviour, on_slots, on_names}
use Rattle.cp_verdict.specs.endless.Expectations.{IsTrue}
use Rattle.cp_verdict.specs.endless.Judged.{IsJudged}
use Rattle.cp_verdict.specs.endless.Knowledge.{IsKnown}
use Rattle.cp_verdict.specs.endless.Naming.{Names, Processes}
use Rattle.cp_expectation.specs.declared.expectation.Topic.{Topic}
use Rattle.cp_expectation.specs.declared.expectation.Topic.TheVariants as topic
use Rattle.cp_expectation.specs.declared.expectation.Expectation.{Expectation}
use Rattle.cp_verdict.specs.declared.endless.judging.EndsJudgement.{EndsJudgement}
use Rattle.cp_verdict.specs.declared.endless.judging.EndsJudgement.TheVariants as judgement
use Rattle.cp_verdict.specs.declared.endless.known.KnownEnds.{KnownEnds}
use Rattle.cp_verdict.specs.declared.endless.known.Witness.{Witness}
use Rattle.cp_verdict.specs.declared.endless.verdict.EndsMark.{EndsMark}
use Rattle.cp_verdict.specs.declared.endless.verdict.EndsMark.TheVariants as mark
use Rattle.cp_verdict.specs.declared.endless.verdict.EndsVerdict.{EndsVerdict}
use Rattle.cp_verdict.specs.declared.endless.verdict.EndsVerdict.TheVariants as verdict

-- it is judged to fail: with a schedule against it, or none where it asks for one and there is none
abbrev pub IsJudgedToFail : (Expectation → EndsJudgement → Type 0) → Expectation → Option Witness → Type 0
IsJudgedToFail J e (Some w) = J e (judgement.Against w)
IsJudgedToFail J e None = J e judgement.Missing

-- The verdict is by judgements: each holds; or this one fails; or none fails, and this one is open.
abbrev pub AreJudged : (Expectation → EndsJudgement → Type 0) → List Expectation → EndsVerdict → Type 0
AreJudged J es verdict.Holds = (e : Expectation) → Contains es e → J e judgement.Holds
AreJudged J es (verdict.Fails e against) = Contains es e.now × IsJudgedToFail J e.now against
AreJudged J es (verdict.Open e) = ((x : Expectation) → Contains es x → J x judgement.Holds ⊎ J x judgement.Open) × (Contains es e.now × J e.now judgement.Open)

-- by judgements of what a program does
abbrev pub IsMarked : Names → Behaviour → KnownEnds → List Expectation → EndsVerdict → Type 0
IsMarked names b k es v = AreJudged (IsJudged names b k) es v

-- the verdict on some expectations and one more
abbrev pub joined : EndsVerdict → Bor Expectation → EndsJudgement → EndsVerdict
joined (verdict.Fails f against) e j = verdict.Fails f against
joined verdict.Holds e judgement.Holds = verdict.Holds
joined verdict.Holds e (judgement.Against w) = verdict.Fails e (Some w)
joined verdict.Holds e judgement.Missing = verdict.Fails e None
joined verdict.Holds e judgement.Open = verdict.Open e
joined (verdict.Open f) e judgement.Holds = verdict.Open f
joined (verdict.Open f) e (judgement.Against w) = verdict.Fails e (Some w)
joined (verdict.Open f) e judgement.Missing = verdict.Fails e None
joined (verdict.Open f) e judgement.Open = verdict.Open f

-- ---- who asks who waits

abbrev pub is_of_waiting : Topic → Bool
is_of_waiting (topic.Waiting process) = true
is_of_waiting t = false

abbrev pub asks_waits : Expectation → Bool
asks_waits e = list_any is_of_waiting e.topics.items

abbrev pub ask_waits : List Expectation → Bool
ask_waits es = list_any asks_waits es

-- ---- marks

-- the names of a program with these tables and these processes
abbrev pub with_tables : Tables → Processes → Names
with_tables r ps = record { values = r.names; processes = ps }

abbrev pub open_mark : Option ℕ → EndsMark
open_mark None = mark.Open
open_mark (Some d) = mark.TooMany

abbrev pub mark_of : EndsVerdict → Option ℕ → EndsMark
mark_of verdict.Holds looked = mark.Holds
mark_of (verdict.Fails e against) looked = mark.Fails
mark_of (verdict.Open e) looked = open_mark looked

-- The mark is that of a verdict by what is known, which is all that words of any length lead to, or all that words of so many numbers do.
pub record IsMarkOf (r : Tables) (ps : Processes) (discipline : Discipline) (steps most : ℕ) (es : List Expectation) (m : EndsMark) : Type 0 where
  pub known : KnownEnds
  pub is_known : IsKnown r discipline steps most known
  pub verdict : EndsVerdict
  pub is : m ≡ mark_of verdict known.looked
  pub marked : IsMarked (with_tables r ps) (on_slots r discipline steps) known es verdict

-- each holds, or one does not
abbrev pub IsTrueMark : Names → Behaviour → List Expectation → EndsMark → Type 0
IsTrueMark names b es mark.Holds = (e : Expectation) → Contains es e → IsTrue names b e
IsTrueMark names b es mark.Fails = (e : Expectation) × Contains es e × (IsTrue names b e → ⊥)
IsTrueMark names b es m = Unit {0}

-- of whatever program was read, is accepted, and has these tables: it is true of its meaning
abbrev pub IsMeantMark : Tables → Processes → Discipline → ℕ → List Expectation → EndsMark → Type 0
IsMeantMark r ps discipline steps es m = OfItsPrograms r (λ t. IsTrueMark (with_tables r ps) (on_names t (named_discipline discipline) steps) es m)
