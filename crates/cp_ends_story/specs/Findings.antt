-- What is found of a program: its ends with their words, and who may wait for ever.
use Rattle.std.specs.Prelude.{◌≡◌, ◌⊎◌, ℕ, List, [], ◌∷◌, Bool, true, false, not, Option, None, Some, length, map}
use Rattle.cp_machine.specs.System.{Machine}
use Rattle.cp_at_once.specs.Holds.{IsWordOf}
use Rattle.cp_at_once.specs.Whole as at_once
use Rattle.cp_at_once.specs.declared.found.EndAtOnce.{EndAtOnce}
use Rattle.cp_at_once.specs.declared.found.FoundAtOnce.{FoundAtOnce}
use Rattle.cp_ends.specs.Holds.{SlotFindings}
use Rattle.cp_ends.specs.Told.{EndsWithWords, IsDepth, told}
use Rattle.cp_ends.specs.Whole.{IsAnswer}
use Rattle.cp_ends.specs.declared.end.End.{End}
use Rattle.cp_ends.specs.declared.found.Found.{Found}
use Rattle.cp_waits.specs.Named.{TellAsked}
use Rattle.cp_waits.specs.declared.waiting.Waits.{Waits}
use Rattle.cp_waits.specs.declared.waiting.Waits.TheVariants.{NotSettled}
use Rattle.cp_ends_story.specs.declared.subject.EndsSubject.{EndsSubject}
use Rattle.cp_ends_story.specs.declared.subject.EndsSummary.{EndsSummary}
use Rattle.cp_ends_story.specs.declared.subject.Findings.{Findings}
use Rattle.cp_ends_story.specs.declared.subject.Reach.{Reach}
use Rattle.cp_ends_story.specs.declared.subject.Reach.TheVariants.{States, StatesAtOnce, Choices}
use Rattle.cp_ends_story.specs.declared.subject.ToldEnd.{ToldEnd}

abbrev pub end_with_word : ToldEnd → End × List ℕ
end_with_word e = (e.end, e.word.items)

-- ---- by following each state

-- how far was looked: at all states, so many, or at all schedules of at most so many choices
abbrev pub reach_by : (states : ℕ) → Option ℕ → Reach
reach_by states None = States states
reach_by states (Some choices) = Choices choices

abbrev pub IsCutShort : Reach → Type 0
IsCutShort (Choices n) = Unit {0}
IsCutShort _ = ⊥

-- the ends of these findings that have such words
pub record AreListed (f : SlotFindings) (depth : Option ℕ) (x : Findings) : Type 0 where
  pub reach : x.reach ≡ reach_by (length f.states) depth
  pub ends : map end_with_word x.ends.items ≡ told depth f.ends

-- What words lead to is found, and so is who may wait for ever, where that is asked: the same answer as that of `cpx --ends`.
pub record AreFoundByStates (s : EndsSubject) (x : Findings) : Type 0 where
  pub found : Found
  pub answer : IsAnswer s.program.now s.limits.discipline s.limits.steps s.most found
  pub depth : Option ℕ
  pub within : IsDepth answer.findings found.stopped depth
  pub listed : AreListed answer.findings depth x
  pub waits : TellAsked s.program.now s.limits.discipline s.limits.steps s.waits found x.waits

-- ---- with kernel calls at once

-- its origin stands for a word
abbrev pub HaveWord : List (Machine × List ℕ) → EndAtOnce → Type 0
HaveWord states e = (word : List ℕ) × IsWordOf states e.origin word

-- each end with the word for which its origin stands
abbrev pub HaveWords : List (Machine × List ℕ) → List EndAtOnce → EndsWithWords → Type 0
HaveWords states [] [] = Unit {0}
HaveWords states [] (f ∷ fs) = ⊥
HaveWords states (e ∷ es) [] = ⊥
HaveWords states (e ∷ es) (f ∷ fs) = (e.end ≡ f.0) × IsWordOf states e.origin f.1 × HaveWords states es fs

-- Each end that is found is led to by its word; who may wait for ever is not asked so.
pub record AreFoundAtOnce (s : EndsSubject) (x : Findings) : Type 0 where
  pub found : FoundAtOnce
  pub answer : at_once.IsAnswer s.program.now s.limits.discipline s.limits.steps s.most found
  pub ends : HaveWords answer.states found.ends.items (map end_with_word x.ends.items)
  pub waits : x.waits ≡ None

-- ---- either of them

-- with kernel calls at once where that is asked; else so only where there are too many states
abbrev pub AreFindingsBy : (at_once : Bool) → EndsSubject → Findings → Type 0
AreFindingsBy true s x = AreFoundAtOnce s x
AreFindingsBy false s x = AreFoundByStates s x ⊎ ((plain : Findings) × AreFoundByStates s plain × IsCutShort plain.reach × AreFoundAtOnce s x)

abbrev pub AreFindings : EndsSubject → Findings → Type 0
AreFindings s x = AreFindingsBy s.at_once s x

-- ---- whether these are all

-- who may wait for ever is known, or was not asked
abbrev pub is_settled : Option Waits → Bool
is_settled (Some (NotSettled process)) = false
is_settled _ = true

-- All states were looked at, and who may wait for ever is known where that is asked.
abbrev pub is_whole : Reach → (asked : Bool) → Option Waits → Bool
is_whole (States n) asked waits = is_settled waits
is_whole (StatesAtOnce n) asked waits = not asked
is_whole _ asked waits = false

-- something is found, and it is said whether that is all
pub record TellsEnds (s : EndsSubject) (summary : EndsSummary) : Type 0 where
  pub findings : Findings
  pub found : AreFindings s findings
  pub whole : summary.is_whole ≡ is_whole findings.reach s.waits findings.waits
