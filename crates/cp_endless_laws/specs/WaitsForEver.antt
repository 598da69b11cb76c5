-- Who waits for ever while others go on: `waiting s q` says that process q is at a gate or delayed in state s.
use Rattle.std.specs.Prelude.{◌≡◌, ◌⊎◌, ◌≤◌, ℕ, Bool, true}
use Rattle.std.specs.List.{AllByRecursion as Each}
use Rattle.cp_run.specs.System.{System}
use Rattle.cp_endless_laws.specs.Moments.{moments, AnyOf}
use Rattle.cp_endless_laws.specs.Fair.{IsEndless, IsFair}

-- at the due choice, and at each moment after it
abbrev pub WaitsIn : {S : Type 0} → System S → (S → ℕ → Bool) → ℕ → ℕ → S → ℕ → Type 0
WaitsIn sys waiting q steps s p = (waiting s q ≡ true) × Each (λ m. waiting m.state q ≡ true) (moments sys steps s p)

-- from the choice n on
abbrev pub WaitsFrom : {S : Type 0} → System S → (S → ℕ → Bool) → ℕ → ℕ → (ℕ → ℕ) → (ℕ → S) → ℕ → Type 0
WaitsFrom sys waiting q steps word state n = (m : ℕ) → n ≤ m → WaitsIn sys waiting q steps (state m) (word m)

-- a fair schedule without end, and a choice from which on the process waits
pub record MayWaitForEver {S : Type 0} (sys : System S) (waiting : S → ℕ → Bool) (q steps : ℕ) : Type 0 where
  pub word : ℕ → ℕ
  pub state : ℕ → S
  pub endless : IsEndless sys steps word state
  pub fair : IsFair sys steps word state
  pub since : ℕ
  pub waits : WaitsFrom sys waiting q steps word state since

-- in no fair schedule does the process wait for ever
abbrev pub NeverWaitsForEver : {S : Type 0} → System S → (S → ℕ → Bool) → ℕ → ℕ → Type 0
NeverWaitsForEver {S} sys waiting q steps =
    (word : ℕ → ℕ) (state : ℕ → S) → IsEndless sys steps word state → IsFair sys steps word state → (n : ℕ) → WaitsFrom sys waiting q steps word state n → ⊥

-- ---- who waits again and again and never comes out of its call: `inside s q` says that process q is in its call

-- at the due choice, or at some moment after it
abbrev pub WaitsSometime : {S : Type 0} → System S → (S → ℕ → Bool) → ℕ → ℕ → S → ℕ → Type 0
WaitsSometime sys waiting q steps s p = (waiting s q ≡ true) ⊎ AnyOf (λ m. waiting m.state q ≡ true) (moments sys steps s p)

-- a fair schedule without end in which from some choice on the process is inside, and waits again and again
pub record MayLinger {S : Type 0} (sys : System S) (inside waiting : S → ℕ → Bool) (q steps : ℕ) : Type 0 where
  pub stays : MayWaitForEver sys inside q steps
  pub waits : (n : ℕ) → (m : ℕ) × (n ≤ m) × WaitsSometime sys waiting q steps (stays.state m) (stays.word m)
