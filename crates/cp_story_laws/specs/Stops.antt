-- How a run of a program stops where no event tells of it, on its own names: whose step it was, on which line, what stopped it in words, and who waits in a queue that is in use.
use Rattle.std.specs.Prelude.{ℕ, List, [], ◌++◌, Option, Some, None, codes, decimal}
use Rattle.cp_tree.specs.Syntax.{Tree}
use Rattle.cp_run.specs.declared.outcome.OutcomeKind.{OutcomeKind}
use Rattle.cp_run.specs.declared.outcome.OutcomeKind.TheVariants as kind
use Rattle.cp_run.specs.Run.{Answer, Ended, run}
use Rattle.cp_run.specs.Stop.{last_state}
use Rattle.cp_store.specs.declared.error.ErrorName.{ErrorName}
use Rattle.cp_store.specs.declared.error.ErrorName.TheVariants.{QueueInUse}
use Rattle.cp_meaning.specs.Places.{View, value_at}
use Rattle.cp_meaning.specs.State.{Discipline, Place, State, process_at}
use Rattle.cp_meaning.specs.Steps.{view_of}
use Rattle.cp_meaning.specs.Values.{waiting_in}
use Rattle.cp_machine_laws.specs.Named.{named}
use Rattle.cp_story.specs.Halted.{Halted, error_text}
use Rattle.cp_story_laws.specs.Aims.{component_of}
use Rattle.cp_story_laws.specs.Events.{LastStep, names_telling}
use Rattle.cp_story_laws.specs.Places.{place_text}
use Rattle.cp_story_laws.specs.Standings.{path_of}

-- ---- a queue that is in use

-- who waits in the queue to which a step comes
abbrev pub waiter_at : View → Option Place → Option ℕ
waiter_at v None = None
waiter_at v (Some q) = waiting_in (value_at v q)

-- where the error is that the queue is in use
abbrev pub waiter_by : ErrorName → View → Option Place → Option ℕ
waiter_by QueueInUse v queue = waiter_at v queue
waiter_by _ v queue = None

-- a process by its number and its path
abbrev pub process_words : Tree → State → ℕ → List ℕ
process_words t s p = decimal p ++ codes " " ++ path_of t.program s (process_at s.processes p).component

-- a queue by its name, after the path of its monitor
abbrev pub queue_words : Tree → State → View → Place → List ℕ
queue_words t s v q = path_of t.program s (component_of q.holder) ++ codes "." ++ place_text v q

abbrev pub in_use_words : Tree → State → View → Option Place → (waiter : Option ℕ) → List ℕ
in_use_words t s v (Some q) (Some p) = codes ": " ++ process_words t s p ++ codes " waits in " ++ queue_words t s v q
in_use_words t s v queue waiter = []

-- ---- how a run stopped

-- by a run error of a process, whose step on a line came to this queue
abbrev pub stopped_by : Tree → State → ErrorName → (process line : ℕ) → (queue : Option Place) → Halted
stopped_by t s e p line queue =
    let v = view_of t.program s p in
    record { process = p; line = Some line; words = error_text e ++ in_use_words t s v queue (waiter_by e v queue); waiting = waiter_by e v queue }

-- at a limit, after the last step
abbrev pub stopped_after : LastStep → List ℕ → Halted
stopped_after last words = record { process = last.process; line = last.line; words = words; waiting = None }

abbrev pub stopped_as : Tree → State → LastStep → OutcomeKind → Option Halted
stopped_as t s last (kind.RunError e p line) = Some (stopped_by t s e p line last.queue)
stopped_as t s last kind.StepLimit = Some (stopped_after last (codes "goes on to the limit of steps"))
stopped_as t s last kind.OutputLimit = Some (stopped_after last (codes "displays a value too many"))
stopped_as t s last _ = None

-- where no event tells of it: an error, or a limit of steps or of displayed values
abbrev pub stopped_at : Tree → State → LastStep → Answer → Option Halted
stopped_at t s last (Ended outcome used) = stopped_as t s last outcome.kind
stopped_at t s last _ = None

-- how the run of a word stopped, in its last state, after its last step
abbrev pub stop_on_names : Tree → Discipline → (choices steps : ℕ) → List ℕ → Option Halted
stop_on_names t g choices steps word =
    stopped_at t (last_state (named t g) choices steps word) (names_telling t g choices steps word).past.last (run (named t g) choices steps word)
