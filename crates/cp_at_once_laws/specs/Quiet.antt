-- What may be made at once, on the meaning of a program on its own names that shows nothing.
use Rattle.std.specs.Prelude.{◌≡◌, ℕ, List, Bool, true, false}
use Rattle.cp_tree.specs.Read.{IsRead}
use Rattle.cp_tree.specs.Syntax.{Tree}
use Rattle.cp_meaning_laws.specs.Accepted.{IsAccepted}
use Rattle.cp_meaning.specs.State.{component_at, book_discipline, State}
use Rattle.cp_machine.specs.declared.event.Event.{Event}
use Rattle.cp_machine.specs.declared.event.Event.TheVariants.{Local, Kernel, Ended, Fault, OutputFull}
use Rattle.cp_machine.specs.declared.event.Kernel.{Kernel as Call}
use Rattle.cp_machine.specs.declared.event.Kernel.TheVariants as call
use Rattle.cp_run.specs.System.{System}
use Rattle.cp_machine_laws.specs.Running.{Happening, IsMet}
use Rattle.cp_endless_laws.specs.Silent.{silent_named}
use Rattle.cp_at_once_laws.specs.AtOnce.{Commutes}

-- the meaning that shows nothing, where the first of a line goes in and the caller of `continue` returns at once
abbrev pub names : Tree → System State
names t = silent_named t book_discipline

-- a state that is met, whatever has happened
pub record IsSomewhere (t : Tree) (s : State) : Type 0 where
  pub happened : List Happening
  pub met : IsMet (names t) happened s

-- no enter, no run error
abbrev pub is_quiet_call : Call → Bool
is_quiet_call call.Enter = false
is_quiet_call call.Leave = true
is_quiet_call call.Delay = true
is_quiet_call call.Continue = true
is_quiet_call call.StartProcess = true
is_quiet_call call.Display = true

abbrev pub is_quiet : Event → Bool
is_quiet Local = true
is_quiet (Kernel c) = is_quiet_call c
is_quiet Ended = true
is_quiet (Fault e) = false
is_quiet OutputFull = false

-- and the status of no component changes
pub record IsQuietStep (t : Tree) (s : State) (p : ℕ) : Type 0 where
  pub event : is_quiet ((names t).event s p) ≡ true
  pub statuses : (n : ℕ) → (component_at ((names t).step s p).components n).status ≡ (component_at s.components n).status

-- such a step and one of another ready process may be made in either order, in each program that is read and breaks no rule
abbrev pub CommutesLaw : Type 0
CommutesLaw = (t : Tree) → IsRead t.program → IsAccepted t → Commutes (names t) (IsSomewhere t) (IsQuietStep t)
