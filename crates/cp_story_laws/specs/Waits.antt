-- Who waits where a run of a program stops, on its own names: how, in which entry call, and inside which monitors.
use Rattle.std.specs.Prelude.{ℕ, ◌-◌, ◌==◌, Bool, false, List, length, map, Option, Some, None, slice_get}
use Rattle.cp_tree.specs.Syntax.{Tree}
use Rattle.cp_run.specs.Run.{those_below}
use Rattle.cp_meaning.specs.Readings.{is_waiting}
use Rattle.cp_meaning.specs.State.{process_at, Discipline, State}
use Rattle.cp_machine_laws.specs.Named.{named}
use Rattle.cp_run.specs.Stop.{last_state}
use Rattle.cp_story_laws.specs.Events.{EntryCall, stack_of, names_telling}
use Rattle.cp_story_laws.specs.Standings.{Standing, standing_of}

pub record NamedWait : Type 0 where
  pub process : ℕ
  -- at which gate, or in which queue
  pub standing : Standing
  -- its innermost call of a monitor that has not returned
  pub call : Option EntryCall
  -- the monitors that it is inside, in rising order
  pub inside : List ℕ

abbrev pub is_held_by : (process : ℕ) → (holder : Option ℕ) → Bool
is_held_by p None = false
is_held_by p (Some q) = q == p

abbrev pub innermost_open : List (List EntryCall) → ℕ → Option EntryCall
innermost_open calls p = slice_get (stack_of calls p) (length (stack_of calls p) - 1)

-- how process p waits in a state, where these calls are open
abbrev pub wait_of : Tree → Discipline → State → List (List EntryCall) → ℕ → NamedWait
wait_of t g s calls p =
    record {
      process = p;
      standing = standing_of t.program s (process_at s.processes p).status;
      call = innermost_open calls p;
      inside = those_below (named t g).monitors (λ m. is_held_by p ((named t g).holder s m));
    }

-- each process that waits, in rising order
abbrev pub waits_of : Tree → Discipline → State → List (List EntryCall) → List NamedWait
waits_of t g s calls = map (wait_of t g s calls) (those_below (length s.processes) (λ p. is_waiting (process_at s.processes p).status))

-- who waits where the run of a word stops
abbrev pub who_waits_on_names : Tree → Discipline → (choices steps : ℕ) → List ℕ → List NamedWait
who_waits_on_names t g choices steps word = waits_of t g (last_state (named t g) choices steps word) (names_telling t g choices steps word).past.calls
