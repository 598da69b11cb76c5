-- The schedules of ends and waits that are told with numbers.
use Rattle.std.specs.Prelude.{◌≡◌, ℕ, zero, suc, List, ◌++◌, Option, None, Some, MatchOption, length, map, slice_get}
use Rattle.cp_ends.specs.Told.{EndsWithWords}
use Rattle.cp_waits.specs.declared.waiting.Waiting.{Waiting}
use Rattle.cp_waits.specs.declared.waiting.Waits.{Waits}
use Rattle.cp_waits.specs.declared.waiting.Waits.TheVariants.{Known, NotSettled}
use Rattle.cp_ends_story.specs.Findings.{AreFindings, end_with_word}
use Rattle.cp_ends_story.specs.declared.numbered.NumberedSchedule.{NumberedSchedule}
use Rattle.cp_ends_story.specs.declared.numbered.NumberedSchedule.TheVariants as numbered
use Rattle.cp_ends_story.specs.declared.subject.EndsSubject.{EndsSubject}
use Rattle.cp_ends_story.specs.declared.subject.Findings.{Findings}

-- the one with a number, counted from 1
abbrev pub with_number : {A : Type 0} → List A → (number : ℕ) → Option A
with_number xs zero = None
with_number xs (suc n) = slice_get xs n

-- it is this word, with so many numbers of a round at its end
abbrev pub IsSchedule : (word : List ℕ) → (round : ℕ) → NumberedSchedule → Type 0
IsSchedule word round (numbered.Word held n) = (held.items ≡ word) × (n ≡ round)
IsSchedule word round _ = ⊥

-- there are so many
abbrev pub IsNone : (count : ℕ) → NumberedSchedule → Type 0
IsNone count (numbered.None n) = n ≡ count
IsNone count _ = ⊥

abbrev pub IsNotKnown : NumberedSchedule → Type 0
IsNotKnown numbered.NotKnown = Unit {0}
IsNotKnown _ = ⊥

-- ---- ends

-- the word of the end with this number; or how many ends there are
abbrev pub IsEnd : EndsWithWords → (number : ℕ) → NumberedSchedule → Type 0
IsEnd ends number s = MatchOption (with_number ends number) (IsNone (length ends) s) (λ e. IsSchedule e.1 0 s)

-- of the ends that are found
pub record IsScheduleOfEnd (subject : EndsSubject) (number : ℕ) (s : NumberedSchedule) : Type 0 where
  pub findings : Findings
  pub found : AreFindings subject findings
  pub is : IsEnd (map end_with_word findings.ends.items) number s

-- ---- who may wait for ever

-- the word that leads to its round, followed by the round; or how many may wait for ever
abbrev pub IsWait : List Waiting → (number : ℕ) → NumberedSchedule → Type 0
IsWait ws number s = MatchOption (with_number ws number) (IsNone (length ws) s) (λ w. IsSchedule (w.first.items ++ w.again.items) (length w.again.items) s)

-- that is known
abbrev pub IsWaitAmong : Option Waits → (number : ℕ) → NumberedSchedule → Type 0
IsWaitAmong (Some (Known ws)) number s = IsWait ws.items number s
IsWaitAmong (Some (NotSettled process)) number s = IsNotKnown s
IsWaitAmong None number s = IsNotKnown s

-- of those that are found
pub record IsScheduleOfWait (subject : EndsSubject) (number : ℕ) (s : NumberedSchedule) : Type 0 where
  pub findings : Findings
  pub found : AreFindings subject findings
  pub is : IsWaitAmong findings.waits number s
