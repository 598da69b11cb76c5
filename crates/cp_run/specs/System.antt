-- A machine of processes that take steps.
use Rattle.std.specs.Prelude.{ℕ, List, Bool, Option}
use Rattle.cp_machine.specs.declared.event.Event.{Event}
use Rattle.cp_machine.specs.declared.shown.Shown.{Shown}

-- its processes and monitors are the numbers below two counts, and S is the type of its states
pub record System (S : Type 0) : Type 0 where
  pub processes : ℕ
  pub monitors : ℕ
  pub start : S
  -- the state after a step of a process, and what the step tells
  pub step : S → ℕ → S
  pub event : S → ℕ → Event
  -- the state after a process is let in at the pending monitor
  pub admit : S → ℕ → S
  pub is_ready : S → ℕ → Bool
  -- whether a monitor is pending, and who is in its line
  pub is_pending : S → Bool
  pub in_line : S → ℕ → Bool
  -- whether some process is at a gate or delayed
  pub waits : S → Bool
  -- the process inside a monitor
  pub holder : S → ℕ → Option ℕ
  pub output : S → List Shown
