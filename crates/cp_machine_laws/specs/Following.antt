-- No step of an accepted program takes a branch by which the definition of a step is total.
use Rattle.std.specs.Prelude.{◌≡◌, ℕ, ◌<◌, length, None}
use Rattle.cp_tree.specs.Read.{IsRead}
use Rattle.cp_tree.specs.Syntax.{Tree}
use Rattle.cp_layout.specs.Laid.{plain, laid}
use Rattle.cp_slots.specs.Tables.{Tables}
use Rattle.cp_meaning_laws.specs.Accepted.{IsAccepted}
use Rattle.cp_machine_laws.specs.Followed.{StepFollows}
use Rattle.cp_meaning.specs.State.{ready, process_at, Discipline, State}
use Rattle.cp_meaning.specs.Steps.{IsReached}

-- of every program that is read, accepted and laid out, in each reached state, whatever ready process steps
abbrev pub FollowingLaw : Type 0
FollowingLaw =
    (t : Tree) (r : Tables) (g : Discipline) → IsRead t.program → IsAccepted t → plain r ≡ laid t → (s : State) (pid : ℕ) → IsReached t.program g s → s.pending ≡ None → pid < length s.processes → (process_at s.processes pid).status ≡ ready →
    StepFollows t.program s pid
