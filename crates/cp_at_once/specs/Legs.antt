-- Which legs are made at once, on the slot machine that shows nothing.
use Rattle.std.specs.Prelude.{◌≡◌, ℕ, Bool, true, false}
use Rattle.cp_slots.specs.Tables.{Tables}
use Rattle.cp_machine.specs.declared.event.Event.{Event}
use Rattle.cp_machine.specs.declared.event.Event.TheVariants.{Local, Kernel, Ended, Fault, OutputFull}
use Rattle.cp_machine.specs.declared.discipline.Discipline.{Discipline}
use Rattle.cp_machine.specs.System.{Machine, is_pending}
use Rattle.cp_endless_laws.specs.Silent.{silent_slots}
use Rattle.cp_at_once_laws.specs.AtOnce.{QuietLeg}
use Rattle.cp_at_once_laws.specs.Quiet.{is_quiet, is_quiet_call}

-- a kernel call that is no enter, or the end of a process
abbrev pub ends_quietly : Event → Bool
ends_quietly Local = false
ends_quietly (Kernel c) = is_quiet_call c
ends_quietly Ended = true
ends_quietly (Fault e) = false
ends_quietly OutputFull = false

-- Nobody is to be let in, and the process has a leg without an enter and a run error, after which each class and monitor has the status that it had.
pub record HasLeg (r : Tables) (discipline : Discipline) (m : Machine) (p : ℕ) : Type 0 where
  pub free : is_pending m ≡ false
  pub after : Machine
  pub leg : QuietLeg (silent_slots r discipline) (λ n q. is_quiet ((silent_slots r discipline).event n q) ≡ true) m p after
  pub phases : after.phases ≡ m.phases
