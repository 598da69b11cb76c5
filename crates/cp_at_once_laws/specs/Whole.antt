-- Nothing is left out: what schedules of any length come to is told, whatever their limit of steps.
use Rattle.std.specs.Prelude.{◌≡◌, ◌≢◌, ◌≤◌, ◌+◌, ℕ, List, Some}
use Rattle.cp_machine.specs.declared.event.Event.TheVariants.{Local}
use Rattle.cp_run.specs.declared.outcome.OutcomeKind.{OutcomeKind}
use Rattle.cp_run.specs.declared.outcome.OutcomeKind.TheVariants.{StepLimit}
use Rattle.cp_run.specs.System.{System}
use Rattle.cp_endless_laws.specs.Reachable.{EndsAfter}
use Rattle.cp_endless_laws.specs.Repeats.{IsKernelCall}
use Rattle.cp_endless_laws.specs.Rounds.{SetsOut, spot_after}

-- the stretch to which the word leads goes on for ever, and from some step on q makes each of its steps
pub record GoesOnBy {S : Type 0} (sys : System S) (limit : ℕ) (word : List ℕ) (q : ℕ) : Type 0 where
  pub begin : S
  pub first : ℕ
  pub sets_out : SetsOut sys limit word begin first
  pub since : ℕ
  pub moves : (n : ℕ) → (t : S) × (spot_after sys (since + n) begin first ≡ Some (t, q))

-- again and again by a kernel call: nobody else is ready then
pub record IsAloneBy {S : Type 0} (sys : System S) (limit : ℕ) (word : List ℕ) (q : ℕ) : Type 0 where
  pub goes_on : GoesOnBy sys limit word q
  pub calls : (n : ℕ) → (m : ℕ) × (n ≤ m) × IsKernelCall (sys.event (goes_on.moves m).0 q)

-- or by local steps alone
pub record SpinsBy {S : Type 0} (sys : System S) (limit : ℕ) (word : List ℕ) (q : ℕ) : Type 0 where
  pub goes_on : GoesOnBy sys limit word q
  pub local : (n : ℕ) → sys.event (goes_on.moves n).0 q ≡ Local

-- each end but the limit of steps is known, and so is who goes on for ever
pub record LeavesNoEndOut {S : Type 0} (sys : System S) (known : OutcomeKind → Type 0) (alone spins : ℕ → Type 0) : Type 0 where
  pub ends : (limit : ℕ) (word : List ℕ) (kind : OutcomeKind) → kind ≢ StepLimit → EndsAfter sys limit word kind → known kind
  pub alone_for_ever : (limit : ℕ) (word : List ℕ) (q : ℕ) → IsAloneBy sys limit word q → alone q
  pub spins_for_ever : (limit : ℕ) (word : List ℕ) (q : ℕ) → SpinsBy sys limit word q → spins q

-- an end that is no limit of steps is one with each greater limit too, after the same word
abbrev pub GreaterLimits : {S : Type 0} → System S → Type 0
GreaterLimits sys = (steps more : ℕ) (word : List ℕ) (kind : OutcomeKind) → kind ≢ StepLimit → EndsAfter sys steps word kind → EndsAfter sys (more + steps) word kind
