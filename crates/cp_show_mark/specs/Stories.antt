-- What the story of a schedule is: all that is told of the run of its word.
use Rattle.std.specs.Prelude.{◌≡◌, ℕ, List, [], Bool, false, if◌then◌else◌, length, map, option_map}
use Rattle.cp_slots.specs.Tables.{Tables}
use Rattle.cp_legend.specs.Names.{Legend}
use Rattle.cp_machine.specs.declared.discipline.Discipline.{Discipline}
use Rattle.cp_run.specs.Code.{answer_of}
use Rattle.cp_run.specs.Run.{Answer, Ended, run}
use Rattle.cp_run.specs.Slots.{slots}
use Rattle.cp_run.specs.Trace.{trace}
use Rattle.cp_story.specs.Halted.{halted_seen, how_halted}
use Rattle.cp_run.specs.Stop.{numbers_left}
use Rattle.cp_story.specs.Story as telling
use Rattle.cp_story.specs.Told.{lines_of}
use Rattle.cp_story.specs.Views.{decision_of, told_of, wait_of}
use Rattle.cp_story.specs.Waiting.{Waiting, who_waits}
use Rattle.cp_story.specs.declared.story.Story.{Story}
use Rattle.cp_verdict.specs.waiting.Matching.{is_waiting}

-- Its events have the lines of the trace and tell what the definition tells; so do its last choice, those who wait at the end, its end, how it stopped, and how many numbers
-- are left.
pub record IsStoryOf (l : Legend) (r : Tables) (discipline : Discipline) (choices steps : ℕ) (word : List ℕ) (s : Story) : Type 0 where
  pub lines : lines_of s.events.items ≡ trace (slots r discipline) choices steps word
  pub told : map told_of s.events.items ≡ telling.story_of l r discipline choices steps word
  pub choice : option_map decision_of s.last_choice ≡ (telling.telling l r discipline choices steps word).past.choice
  pub waits : map wait_of s.waits.items ≡ who_waits l r discipline choices steps word
  pub end : answer_of s.end ≡ run (slots r discipline) choices steps word
  pub stop : option_map halted_seen s.stop ≡ how_halted l r discipline choices steps word
  pub left : s.left ≡ numbers_left word (run (slots r discipline) choices steps word)

abbrev pub ends_waiting : Answer → Bool
ends_waiting (Ended outcome used) = is_waiting outcome
ends_waiting answer = false

-- Who waits where at the end of a word, if all do there. Its run may end before, with more output than is kept.
abbrev pub waits_at_end : Legend → Tables → Discipline → (steps : ℕ) → (word : List ℕ) → List Waiting
waits_at_end l r discipline steps word = if ends_waiting (run (slots r discipline) (length word) steps word) then who_waits l r discipline (length word) steps word else []
