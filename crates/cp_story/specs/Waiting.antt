-- Who waits where a run stops, in which call, and inside which monitors.
use Rattle.std.specs.Prelude.{ℕ, List, ◌-◌, ◌==◌, Bool, false, map, length, Option, Some, None, slice_get}
use Rattle.cp_slots.specs.Tables.{Tables}
use Rattle.cp_legend.specs.Names.{Legend}
use Rattle.cp_machine.specs.declared.discipline.Discipline.{Discipline}
use Rattle.cp_machine.specs.declared.process.Status.{Status}
use Rattle.cp_machine.specs.Machine.{Machine, is_waiting, monitor_at, thread_at}
use Rattle.cp_run.specs.Run.{those_below}
use Rattle.cp_run.specs.Slots.{slots}
use Rattle.cp_run.specs.Stop.{last_state}
use Rattle.cp_story.specs.Story.{calls_of, telling}
use Rattle.cp_story.specs.declared.event.OpenCall.{OpenCall}

-- a process that waits
pub record Waiting : Type 0 where
  pub process : ℕ
  -- at which gate, or in which queue
  pub status : Status
  -- its innermost call of a monitor that has not returned
  pub call : Option OpenCall
  -- the monitors that it is inside, in rising order
  pub inside : List ℕ

abbrev pub innermost_open : List (List OpenCall) → ℕ → Option OpenCall
innermost_open calls p = slice_get (calls_of calls p) (length (calls_of calls p) - 1)

abbrev pub is_process : ℕ → Option ℕ → Bool
is_process p None = false
is_process p (Some q) = q == p

abbrev pub is_inside : Machine → ℕ → ℕ → Bool
is_inside m p monitor = is_process p (monitor_at m monitor).holder

abbrev pub waits_at : Machine → ℕ → Bool
waits_at m p = is_waiting (thread_at m.threads p).status

-- how a process waits, where these calls are open
abbrev pub waiting_at : Tables → Machine → List (List OpenCall) → ℕ → Waiting
waiting_at r m calls p =
    record {
      process = p;
      status = (thread_at m.threads p).status;
      call = innermost_open calls p;
      inside = those_below r.monitors (is_inside m p);
    }

-- each process that waits in a state, in rising order
abbrev pub waits_in : Tables → Machine → List (List OpenCall) → List Waiting
waits_in r m calls = map (waiting_at r m calls) (those_below (length m.threads) (waits_at m))

-- who waits where the run of a word stops
abbrev pub who_waits : Legend → Tables → Discipline → (choices steps : ℕ) → List ℕ → List Waiting
who_waits l r discipline choices steps word = waits_in r (last_state (slots r discipline) choices steps word) (telling l r discipline choices steps word).past.calls
