-- What is told of a word with the steps and the discipline that the options give.
use Rattle.std.proofs.Common.{◌≡◌, ℕ, List, map, option_map, Result, Ok, Err, IfOk}
use Rattle.std.specs.declared.alloc.AllocError.{AllocError}
use Rattle.cp_slots.specs.Tables.{Tables}
use Rattle.cp_legend.specs.Names.{Legend}
use Rattle.cp_run.specs.Code.{answer_of}
use Rattle.cp_run.specs.Run.{run}
use Rattle.cp_run.specs.Slots.{slots}
use Rattle.cp_run.specs.Trace.{trace}
use Rattle.cp_run.specs.declared.limits.Limits.{Limits}
use Rattle.cp_story.specs.Halted.{halted_seen, how_halted}
use Rattle.cp_run.specs.Stop.{numbers_left}
use Rattle.cp_story.specs.Story as telling
use Rattle.cp_story.specs.Told.{lines_of}
use Rattle.cp_story.specs.Views.{decision_of, told_of, wait_of}
use Rattle.cp_story.specs.Waiting.{who_waits}
use Rattle.cp_story.specs.declared.story.Story.{Story}
use Rattle.cp_tool.specs.declared.options.Options.{Options}
use Rattle.cp_show_mark.specs.Stories.{IsStoryOf}
use Rattle.cp_show_mark.proofs.Telling.{AreLimitsOf, as_asked}

module _ (o : Options) (limits : Limits) (l : Legend) (r : Tables) (choices : ℕ) (word : List ℕ) where
  -- the clauses of a story as one
  pub story_within : (result : Result Story AllocError) → AreLimitsOf limits o
      → IfOk result (λ s. lines_of s.events.items ≡ trace (slots r limits.discipline) choices limits.steps word)
      → IfOk result (λ s. map told_of s.events.items ≡ telling.story_of l r limits.discipline choices limits.steps word)
      → IfOk result (λ s. option_map decision_of s.last_choice ≡ (telling.telling l r limits.discipline choices limits.steps word).past.choice)
      → IfOk result (λ s. map wait_of s.waits.items ≡ who_waits l r limits.discipline choices limits.steps word)
      → IfOk result (λ s. answer_of s.end ≡ run (slots r limits.discipline) choices limits.steps word)
      → IfOk result (λ s. option_map halted_seen s.stop ≡ how_halted l r limits.discipline choices limits.steps word)
      → IfOk result (λ s. s.left ≡ numbers_left word (run (slots r limits.discipline) choices limits.steps word))
      → IfOk result (IsStoryOf l r o.discipline choices o.steps word)
  story_within (Ok s) same lines told choice waits end stop left = as_asked (λ _ steps discipline. IsStoryOf l r discipline choices steps word s) o limits same (record { lines = lines; told = told; choice = choice; waits = waits; end = end; stop = stop; left = left })
  story_within (Err e) same lines told choice waits end stop left = tt
