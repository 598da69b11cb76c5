-- How a run stopped between two events, in words.
use Rattle.std.specs.Prelude.{ℕ, ◌==◌, Bool, false, List, [], ◌++◌, Option, Some, None, option_map, find, codes}
use Rattle.std.specs.String.{string_bytes}
use Rattle.cp_slots.specs.Tables.{Tables}
use Rattle.cp_legend.specs.Names.{Legend}
use Rattle.cp_machine.specs.declared.discipline.Discipline.{Discipline}
use Rattle.cp_machine.specs.declared.process.Status.{Status}
use Rattle.cp_machine.specs.declared.process.Status.TheVariants as status
use Rattle.cp_run.specs.declared.outcome.OutcomeKind.{OutcomeKind}
use Rattle.cp_run.specs.declared.outcome.OutcomeKind.TheVariants as kind
use Rattle.cp_run.specs.Run.{Answer, Ended, run}
use Rattle.cp_run.specs.Slots.{slots}
use Rattle.cp_run.specs.Stop.{last_state}
use Rattle.cp_store.specs.declared.error.ErrorName.{ErrorName}
use Rattle.cp_store.specs.declared.error.ErrorName.TheVariants.{QueueInUse}
use Rattle.cp_story.specs.Changes.{Changed, changes_in}
use Rattle.cp_story.specs.Ends.{error_name}
use Rattle.cp_story.specs.Sentences.{cell_queue_text, process_text}
use Rattle.cp_story.specs.Story.{telling}
use Rattle.cp_story.specs.Waiting.{Waiting, who_waits}
use Rattle.cp_story.specs.declared.observer.Last.{Last}
use Rattle.cp_story.specs.declared.stopping.AbruptEnd.{AbruptEnd}

pub record Halted : Type 0 where
  pub process : ℕ
  -- the line of the step that failed, or of the last one
  pub line : Option ℕ
  pub words : List ℕ
  -- who waits already in the queue that is in use
  pub waiting : Option ℕ

abbrev pub halted_seen : AbruptEnd → Halted
halted_seen s = record { process = s.process; line = s.line; words = string_bytes s.words; waiting = s.waiting }

abbrev pub error_text : ErrorName → List ℕ
error_text name = codes "stops with " ++ error_name name

-- ---- a queue that is in use

abbrev pub is_in_cell : (cell : ℕ) → Status → Bool
is_in_cell cell (status.Delayed other) = other == cell
is_in_cell cell _ = false

abbrev pub process_of : Waiting → ℕ
process_of w = w.process

-- the first who waits in the queue of a cell
abbrev pub first_in_cell : (cell : ℕ) → List Waiting → Option ℕ
first_in_cell cell ws = option_map process_of (find (λ w. is_in_cell cell w.status) ws)

abbrev pub waiting_in_cell : List Waiting → Option ℕ → Option ℕ
waiting_in_cell ws None = None
waiting_in_cell ws (Some cell) = first_in_cell cell ws

-- where the error is that a queue is in use
abbrev pub waiting_at_error : ErrorName → List Waiting → (queue : Option ℕ) → Option ℕ
waiting_at_error QueueInUse ws queue = waiting_in_cell ws queue
waiting_at_error _ ws queue = None

abbrev pub waiting_text : Legend → (cell process : ℕ) → List ℕ
waiting_text l cell process = codes ": " ++ process_text l process ++ codes " waits in " ++ cell_queue_text l cell

abbrev pub in_cell_text : Legend → (cell : ℕ) → (waiting : Option ℕ) → List ℕ
in_cell_text l cell None = []
in_cell_text l cell (Some process) = waiting_text l cell process

abbrev pub in_use_text : Legend → (queue waiting : Option ℕ) → List ℕ
in_use_text l None waiting = []
in_use_text l (Some cell) waiting = in_cell_text l cell waiting

-- ---- how a run stopped

abbrev pub halted_by : Legend → ErrorName → (process line : ℕ) → (queue waiting : Option ℕ) → Halted
halted_by l name process line queue waiting = record { process = process; line = Some line; words = error_text name ++ in_use_text l queue waiting; waiting = waiting }

-- after the last step
abbrev pub halted_after : Last → List ℕ → Halted
halted_after last words = record { process = last.process; line = last.line; words = words; waiting = None }

abbrev pub halted_as : Legend → Last → List Waiting → OutcomeKind → Option Halted
halted_as l last ws (kind.RunError name process line) = Some (halted_by l name process line last.queue (waiting_at_error name ws last.queue))
halted_as l last ws kind.StepLimit = Some (halted_after last (codes "goes on to the limit of steps"))
halted_as l last ws kind.OutputLimit = Some (halted_after last (codes "displays a value too many"))
halted_as l last ws _ = None

-- where no event tells of it: an error, or a limit of steps or of displayed values
abbrev pub halted_at : Legend → Answer → Last → List Waiting → Option Halted
halted_at l (Ended outcome used) last ws = halted_as l last ws outcome.kind
halted_at l _ last ws = None

-- how the run of a word stopped: after its last step, where these wait
abbrev pub how_halted : Legend → Tables → Discipline → (choices steps : ℕ) → List ℕ → Option Halted
how_halted l r discipline choices steps word = halted_at l (run (slots r discipline) choices steps word) (telling l r discipline choices steps word).past.last (who_waits l r discipline choices steps word)

-- the variables of monitors that changed since its last event, and what they are where it stopped
abbrev pub changes_at_halt : Legend → Tables → Discipline → (choices steps : ℕ) → List ℕ → List Changed
changes_at_halt l r discipline choices steps word = changes_in l (telling l r discipline choices steps word).past.cells (last_state (slots r discipline) choices steps word).permanents
