-- Stretches that go on for ever without a choice, whether or not they come back to one state.
use Rattle.std.specs.Prelude.{◌≡◌, ◌≤◌, ℕ, List}
use Rattle.cp_run.specs.System.{System}
use Rattle.cp_endless_laws.specs.Repeats.{CallsAt}
use Rattle.cp_endless_laws.specs.Rounds.{SetsOut}
use Rattle.cp_endless_laws.specs.Standstill.{GoesOn}

-- The stretch to which the word leads goes on for ever, and after as many steps as the limit this process makes the next one.
pub record GoesOnForEver {S : Type 0} (sys : System S) (steps : ℕ) (word : List ℕ) (q : ℕ) : Type 0 where
  pub begin : S
  pub first : ℕ
  pub sets_out : SetsOut sys steps word begin first
  pub state : ℕ → S
  pub mover : ℕ → ℕ
  pub goes : GoesOn sys begin first state mover
  pub is : mover steps ≡ q

-- its step of this number is a kernel call
abbrev pub CallsIn : {S : Type 0} {sys : System S} {steps : ℕ} {word : List ℕ} {q : ℕ} → GoesOnForEver sys steps word q → ℕ → Type 0
CallsIn {S} {sys} x n = CallsAt sys (record { state = x.state n; mover = x.mover n })

-- and again and again a kernel call is made
abbrev pub IsAloneForEver : {S : Type 0} → System S → ℕ → List ℕ → ℕ → Type 0
IsAloneForEver sys steps word q = (x : GoesOnForEver sys steps word q) × ((n : ℕ) → (m : ℕ) × (n ≤ m) × CallsIn x m)

-- and from then on none is made
abbrev pub SpinsForEver : {S : Type 0} → System S → ℕ → List ℕ → ℕ → Type 0
SpinsForEver sys steps word q = (x : GoesOnForEver sys steps word q) × ((n : ℕ) → steps ≤ n → CallsIn x n → ⊥)
