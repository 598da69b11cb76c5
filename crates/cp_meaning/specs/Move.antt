-- What an item does, and what it asks of the kernel.
use Rattle.std.specs.Prelude.{ℕ, List, Option}
use Rattle.cp_meaning.specs.State.{Environment, Component, Call, Item, Shown}

-- what the kernel has to do for a step
pub data Move : Type 0 where
  stays : Move
  -- to a monitor's gate; out of a monitor
  enters : ℕ → Move
  leaves : ℕ → Move
  -- in a queue of the monitor
  delays : ℕ → Move
  -- a continue in the monitor: who waits in the queue, and the calls and items of the caller where it goes on; the item itself is one after which it has returned
  continues : ℕ → Option ℕ → List Call → List Item → Move
  -- a process with its parameters
  starts : ℕ → Environment → Move
  shows : Shown → Move
  ends : Move

-- the open calls, remaining items and components after an item
pub record Doing : Type 0 where
  pub calls : List Call
  pub items : List Item
  pub components : List Component
  pub move : Move
