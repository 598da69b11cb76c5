-- What a process is about to do: on which line it stands, which queue it comes to, who goes on by it, and whether its call ends there.
use Rattle.std.specs.Prelude.{◌&&◌, ℕ, List, ◌∷◌, Bool, true, false, Option, Some, None, Result, Ok}
use Rattle.cp_slots.specs.declared.item.Action.{Action}
use Rattle.cp_slots.specs.declared.item.Action.TheVariants.{Delay, Continue}
use Rattle.cp_slots.specs.declared.item.Item.{Item}
use Rattle.cp_slots.specs.Tables.{Tables, item_at}
use Rattle.cp_store.specs.declared.error.ErrorName.{ErrorName}
use Rattle.cp_store.specs.declared.memory.Address.{Address}
use Rattle.cp_store.specs.declared.memory.Address.TheVariants.{Permanent}
use Rattle.cp_machine.specs.declared.process.Entry.{Entry}
use Rattle.cp_machine.specs.declared.process.Entry.TheVariants.{Rest, Return}
use Rattle.cp_machine.specs.Discipline.{lets_caller_return}
use Rattle.cp_machine.specs.Kernel.{waits_in}
use Rattle.cp_machine.specs.Machine.{Machine, thread_at}
use Rattle.cp_machine.specs.Memory.{address_of}
use Rattle.cp_story.specs.declared.aim.Aim.{Aim}

abbrev pub is_continue : Action → Bool
is_continue (Continue place) = true
is_continue _ = false

-- ---- queues

-- the permanent cell at an address; a queue has one
abbrev pub permanent_cell : Result Address ErrorName → Option ℕ
permanent_cell (Ok (Permanent cell)) = Some cell
permanent_cell _ = None

-- the cell of the queue that a process delays in, or continues, by its address in a state
abbrev pub queue_of : Machine → (pid : ℕ) → Action → Option ℕ
queue_of m pid (Delay place) = permanent_cell (address_of m pid place)
queue_of m pid (Continue place) = permanent_cell (address_of m pid place)
queue_of m pid _ = None

-- who waits in the queue of a cell
abbrev pub waiter_in : Machine → (queue : Option ℕ) → Option ℕ
waiter_in m None = None
waiter_in m (Some cell) = waits_in m cell

-- who is woken where a queue is continued
abbrev pub woken_by : Machine → Action → (queue : Option ℕ) → Option ℕ
woken_by m (Continue place) queue = waiter_in m queue
woken_by m _ queue = None

-- ---- the topmost entry of a process

-- an item: its line, its queue, and who is woken; the call of a monitor's entry ends by a `continue` that returns
abbrev pub aim_at : Machine → (pid : ℕ) → Item → Aim
aim_at m pid item =
    record {
      line = Some item.line;
      queue = queue_of m pid item.action;
      wakes = woken_by m item.action (queue_of m pid item.action);
      ends_call = is_continue item.action && lets_caller_return m.discipline.signals;
    }

-- the end of a call, and a `for` that goes on, have no line
abbrev pub no_aim : (ends_call : Bool) → Aim
no_aim ends_call = record { line = None; queue = None; wakes = None; ends_call = ends_call }

abbrev pub aim_of_top : Tables → Machine → (pid : ℕ) → List Entry → Aim
aim_of_top r m pid (Rest at ∷ entries) = aim_at m pid (item_at r at)
-- a call of a monitor's entry comes to its end
aim_of_top r m pid (Return caller result (Some monitor) ∷ entries) = no_aim true
aim_of_top r m pid _ = no_aim false

-- what a process is about to do in a state
abbrev pub aim_in : Tables → Machine → (pid : ℕ) → Aim
aim_in r m pid = aim_of_top r m pid (thread_at m.threads pid).stack
