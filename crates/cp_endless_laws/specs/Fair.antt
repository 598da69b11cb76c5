-- Schedules without end, and when they are fair.
use Rattle.std.specs.Prelude.{◌≡◌, ◌⊎◌, ◌≤◌, ◌<◌, ℕ, suc, List, ◌∷◌, true, false, Some}
use Rattle.std.specs.List.{AllByRecursion as Each}
use Rattle.cp_run.specs.System.{System}
use Rattle.cp_run.specs.Run.{Choosing, may, opened, chosen}
use Rattle.cp_endless_laws.specs.Moments.{Moment, moments, moments_along, states_along, AnyOf}
use Rattle.cp_endless_laws.specs.Reachable.{node_after}

-- `word n` is chosen in the state `state n`, and leads to the next one: so the schedule never ends
pub record IsEndless {S : Type 0} (sys : System S) (steps : ℕ) (word : ℕ → ℕ) (state : ℕ → S) : Type 0 where
  pub first : opened sys steps ≡ Choosing (state 0)
  pub may_be : (n : ℕ) → may sys (state n) (word n) ≡ true
  pub goes : (n : ℕ) → chosen sys steps (state n) (word n) ≡ Choosing (state (suc n))

-- at one of these moments the process makes a step, or is not ready
abbrev pub IsServed : {S : Type 0} → System S → ℕ → List (Moment S) → Type 0
IsServed sys q ms = AnyOf (λ m. (m.mover ≡ q) ⊎ (sys.is_ready m.state q ≡ false)) ms

-- Weak fairness: each process is served again and again. So none is ready from some moment on and never makes a step.
abbrev pub IsFair : {S : Type 0} → System S → ℕ → (ℕ → ℕ) → (ℕ → S) → Type 0
IsFair sys steps word state = (q n : ℕ) → q < sys.processes → (m : ℕ) × (n ≤ m) × IsServed sys q (moments sys steps (state m) (word m))

-- ---- who is ready stays ready until its own step

pub record StaysReady {S : Type 0} (sys : System S) : Type 0 where
  pub step : (s : S) (p q : ℕ) → (q ≡ p → ⊥) → sys.is_ready s q ≡ true → sys.is_ready (sys.step s p) q ≡ true
  pub admit : (s : S) (p q : ℕ) → sys.is_ready s q ≡ true → sys.is_ready (sys.admit s p) q ≡ true

-- the process is ready at one of these due choices, or at one of these moments
abbrev pub IsReadySometime : {S : Type 0} → System S → ℕ → List S → List (Moment S) → Type 0
IsReadySometime sys q states ms = AnyOf (λ t. sys.is_ready t q ≡ true) states ⊎ AnyOf (λ m. sys.is_ready m.state q ≡ true) ms

-- Then a process that is ready anywhere in a word that leads back, and makes no step in it, is ready in all of it: it is passed over.
abbrev pub ReadyRoundLaw : {S : Type 0} → System S → Type 0
ReadyRoundLaw {S} sys =
    StaysReady sys → (q steps : ℕ) (s : S) (word : List ℕ) → node_after sys steps (Choosing s) word ≡ Some (Choosing s) →
    IsReadySometime sys q (states_along sys steps (Choosing s) word) (moments_along sys steps (Choosing s) word) →
    Each (λ m. m.mover ≡ q → ⊥) (moments_along sys steps (Choosing s) word) → IsServed sys q (moments_along sys steps (Choosing s) word) → ⊥

-- And where something happens, a process that steps if it is ready anywhere is served. So such a word is fair exactly where each process that is ready anywhere in it steps in it.
abbrev pub ReadyServedLaw : {S : Type 0} → System S → Type 0
ReadyServedLaw {S} sys =
    (q : ℕ) (m : Moment S) (ms : List (Moment S)) → (AnyOf (λ x. sys.is_ready x.state q ≡ true) (m ∷ ms) → AnyOf (λ x. x.mover ≡ q) (m ∷ ms)) → IsServed sys q (m ∷ ms)
