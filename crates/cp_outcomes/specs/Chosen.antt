-- The schedule of an outcome that is asked for by its number.
use Rattle.std.specs.Prelude.{◌≡◌, ℕ, zero, suc, List, [], map, length, Option, Some, None}
use Rattle.std.specs.List.{slice_get}
use Rattle.cp_run.specs.Slots.{slots}
use Rattle.cp_walk.specs.Groups.{Tally}
use Rattle.cp_run.specs.declared.job.Job.{Job}
use Rattle.cp_merged.specs.Code.{tally_of}
use Rattle.cp_simplest.specs.Simple.{IsScheduleOf}
use Rattle.cp_outcomes.specs.Findings.{IsFoundOf}
use Rattle.cp_outcomes.specs.Meant.{IsMeantFinding}
use Rattle.cp_outcomes.specs.Told.{in_order}
use Rattle.cp_outcomes.specs.declared.telling.Finding.{Finding}
use Rattle.cp_outcomes.specs.declared.telling.Finding.TheVariants.{Whole, TooMany}
use Rattle.cp_outcomes.specs.declared.telling.First.{First}
use Rattle.cp_outcomes.specs.declared.telling.First.TheVariants as first
use Rattle.cp_outcomes.specs.declared.telling.KnownOutcomes.{KnownOutcomes}

-- the outcomes that are told with numbers: all, or those that are known of fewer choices
abbrev pub told_in : Finding → List Tally
told_in (Whole tallies) = in_order (map tally_of tallies)
told_in (TooMany excess None) = []
told_in (TooMany excess (Some known)) = in_order (map tally_of known.tallies)

-- the outcome with a number, counted from 1
abbrev pub with_number : List Tally → (number : ℕ) → Option Tally
with_number ts zero = None
with_number ts (suc n) = slice_get ts n

-- of how many choices the schedules are whose outcomes these are, where there is too much of something; none where they are all
abbrev pub reach_of : Finding → Option ℕ
reach_of (Whole tallies) = None
reach_of (TooMany excess None) = Some 0
reach_of (TooMany excess (Some known)) = Some known.choices

-- how many outcomes there are, and how far they are known
pub record IsCount (count : ℕ) (reach : Option ℕ) (known : KnownOutcomes) : Type 0 where
  pub count_is : known.count ≡ count
  pub reach_is : known.choices ≡ reach

-- its first schedule; or, where none has the number, which outcomes are known
abbrev pub IsFirst : (count : ℕ) → (reach : Option ℕ) → Option Tally → First → Type 0
IsFirst count reach (Some t) (first.Word word) = word.items ≡ t.first.word
IsFirst count reach (Some t) (first.None known) = ⊥
IsFirst count reach (Some t) first.NotSearched = ⊥
IsFirst count reach None (first.Word word) = ⊥
IsFirst count reach None (first.None known) = IsCount count reach known
IsFirst count reach None first.NotSearched = ⊥

-- a schedule of it, where one was searched for; or which are known
abbrev pub IsSchedule : Job → (count : ℕ) → (reach : Option ℕ) → Option Tally → First → Type 0
IsSchedule job count reach (Some t) (first.Word word) = IsScheduleOf (slots job.program.now job.limits.discipline) job.limits.choices job.limits.steps word.items t.first.outcome
IsSchedule job count reach None (first.Word word) = ⊥
IsSchedule job count reach (Some t) (first.None known) = ⊥
IsSchedule job count reach None (first.None known) = IsCount count reach known
IsSchedule job count reach chosen first.NotSearched = Unit {0}

-- it is so of the outcome with this number among those that are found, in the table of the slot machine and so in that of the meaning
pub record IsChosen (job : Job) (number : ℕ) (Is : (count : ℕ) → (reach : Option ℕ) → Option Tally → First → Type 0) (chosen : First) : Type 0 where
  pub finding : Finding
  pub found : IsFoundOf (slots job.program.now job.limits.discipline) job.limits.choices job.limits.steps finding
  pub meant : IsMeantFinding job.program.now job.limits.discipline job.limits.choices job.limits.steps finding
  pub so : Is (length (told_in finding)) (reach_of finding) (with_number (told_in finding) number) chosen
