-- A step that ends a run leaves the state as it was, on names and on slots.
use Rattle.std.specs.Prelude.{◌≡◌, ℕ, Bool, true, false}
use Rattle.cp_tree.specs.Syntax.{Program}
use Rattle.cp_slots.specs.Tables.{Tables}
use Rattle.cp_machine.specs.Machine.{Machine}
use Rattle.cp_machine.specs.Step.{step_at, succeeds}
use Rattle.cp_meaning.specs.Kernel.{Event, fault_event, output_full}
use Rattle.cp_meaning.specs.State.{State}
use Rattle.cp_meaning.specs.Steps.{step_of}

-- a run error, or a full output
abbrev pub is_stop : Event → Bool
is_stop (fault_event e) = true
is_stop output_full = true
is_stop e = false

-- of each program, in each state, whoever steps
abbrev pub StateAsBeforeLaw : Type 0
StateAsBeforeLaw = (p : Program) (s : State) (pid : ℕ) → is_stop (step_of p s pid).event ≡ true → (step_of p s pid).state ≡ s

-- of all tables and each machine: a step that doesn't succeed is a run error or a full output
abbrev pub MachineAsBeforeLaw : Type 0
MachineAsBeforeLaw = (r : Tables) (m : Machine) (pid : ℕ) → succeeds (step_at r m pid).event ≡ false → (step_at r m pid).machine ≡ m
