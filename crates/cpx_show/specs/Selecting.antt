-- Which schedule is shown, from the slot machine on.
use Rattle.std.specs.Prelude.{◌≡◌, ◌≤◌, ◌<◌, ℕ, List, [], length, option_map, unwrap_or}
use Rattle.cp_slots.specs.Tables.{Tables}
use Rattle.cp_run.specs.declared.job.Job.{Job}
use Rattle.cp_tool.specs.Analysis.{is_at_once, tells_waits}
use Rattle.cp_tool.specs.declared.options.Options.{Options}
use Rattle.cp_outcomes.specs.Chosen.{IsChosen, IsFirst, IsSchedule}
use Rattle.cp_outcomes.specs.declared.telling.First.{First}
use Rattle.cp_outcomes.specs.declared.telling.First.TheVariants as first
use Rattle.cp_ends_story.specs.Numbered.{IsScheduleOfEnd, IsScheduleOfWait}
use Rattle.cp_ends_story.specs.declared.numbered.NumberedSchedule.{NumberedSchedule}
use Rattle.cp_ends_story.specs.declared.numbered.NumberedSchedule.TheVariants as numbered
use Rattle.cp_ends_story.specs.declared.subject.EndsSubject.{EndsSubject}
use Rattle.cp_show_mark.specs.declared.answer.ShowVerdict.{ShowVerdict}
use Rattle.cp_show_mark.specs.declared.answer.ShowVerdict.TheVariants.{TooMany, Misread}
use Rattle.cp_show_options.specs.declared.choosing.ScheduleChoice.{ScheduleChoice}
use Rattle.cp_show_options.specs.declared.choosing.ScheduleChoice.TheVariants as choice
use Rattle.cp_show_options.specs.declared.parts.Asked.{Asked}
use Rattle.cpx_show.specs.declared.selecting.Selection.{Selection}
use Rattle.cpx_show.specs.declared.selecting.Selection.TheVariants.{Schedule, Without}

-- the schedule that the options give, where none is given the empty one
abbrev pub word_given : Options → List ℕ
word_given o = unwrap_or (option_map (λ word. word.items) o.schedule) []

-- it is this word, with so many numbers of a round at its end
abbrev pub IsSelected : (word : List ℕ) → (round : ℕ) → Selection → Type 0
IsSelected word round (Schedule s) = (s.word.items ≡ word) × (s.round ≡ round)
IsSelected word round (Without answer) = ⊥

-- it is none, and what is told has this verdict
abbrev pub IsWithout : ShowVerdict → Selection → Type 0
IsWithout verdict (Schedule s) = ⊥
IsWithout verdict (Without answer) = answer.verdict ≡ verdict

-- ---- of outcomes

-- all schedules of the program within the limits
pub record IsJobOf (job : Job) (o : Options) (r : Tables) : Type 0 where
  pub program : job.program.now ≡ r
  pub choices : job.limits.choices ≡ o.choices
  pub steps : job.limits.steps ≡ o.steps
  pub discipline : job.limits.discipline ≡ o.discipline

abbrev pub IsOfOutcome : First → Selection → Type 0
IsOfOutcome (first.Word word) s = IsSelected word.items 0 s
IsOfOutcome (first.None known) s = IsWithout Misread s
IsOfOutcome first.NotSearched s = IsWithout TooMany s

-- the first schedule of the outcome with this number, or a schedule of it
abbrev pub IsFirstOf : Options → Tables → (number : ℕ) → Selection → Type 0
IsFirstOf o r number s = (job : Job) × IsJobOf job o r × (chosen : First) × IsChosen job number IsFirst chosen × IsOfOutcome chosen s

abbrev pub IsSimplestOf : Options → Tables → (number : ℕ) → Selection → Type 0
IsSimplestOf o r number s = (job : Job) × IsJobOf job o r × (chosen : First) × IsChosen job number (IsSchedule job) chosen × IsOfOutcome chosen s

-- ---- of ends, and of who may wait for ever

-- all schedules of the program, of any length
pub record IsEndsSubjectOf (s : EndsSubject) (o : Options) (r : Tables) : Type 0 where
  pub program : s.program.now ≡ r
  pub steps : s.limits.steps ≡ o.steps
  pub discipline : s.limits.discipline ≡ o.discipline
  pub most : s.most ≡ o.states
  pub waits : s.waits ≡ tells_waits o.analysis
  pub at_once : s.at_once ≡ is_at_once o.analysis

-- a word of up to 100 numbers is shown
abbrev pub IsOfNumber : NumberedSchedule → Selection → Type 0
IsOfNumber (numbered.Word word round) s = (length word.items ≤ 100 → IsSelected word.items round s) × (100 < length word.items → IsWithout TooMany s)
IsOfNumber (numbered.None count) s = IsWithout Misread s
IsOfNumber numbered.NotKnown s = IsWithout TooMany s

-- the schedule of the end with this number
abbrev pub IsEndOf : Options → Tables → (number : ℕ) → Selection → Type 0
IsEndOf o r number s = (subject : EndsSubject) × IsEndsSubjectOf subject o r × (found : NumberedSchedule) × IsScheduleOfEnd subject number found × IsOfNumber found s

-- the schedule of the process with this number that may wait for ever
abbrev pub IsWaitOf : Options → Tables → (number : ℕ) → Selection → Type 0
IsWaitOf o r number s = (subject : EndsSubject) × IsEndsSubjectOf subject o r × (found : NumberedSchedule) × IsScheduleOfWait subject number found × IsOfNumber found s

-- ---- what is asked for

-- the schedule that is given; or that of an outcome, of an end or of who may wait for ever, if there is one of this number
abbrev pub IsChoiceOf : ScheduleChoice → Options → Tables → Selection → Type 0
IsChoiceOf (choice.Given round) o r s = IsSelected (word_given o) round s
IsChoiceOf (choice.First number) o r s = IsFirstOf o r number s
IsChoiceOf (choice.Simplest number) o r s = IsSimplestOf o r number s
IsChoiceOf (choice.End number) o r s = IsEndOf o r number s
IsChoiceOf (choice.Wait number) o r s = IsWaitOf o r number s

abbrev pub IsAskedFor : Asked → Tables → Selection → Type 0
IsAskedFor a r s = IsChoiceOf a.schedule a.options r s

abbrev pub GivesSchedule : ScheduleChoice → Type 0
GivesSchedule (choice.Given round) = Unit {0}
GivesSchedule _ = ⊥
