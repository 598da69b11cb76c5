-- A process that can never go on again, whatever is chosen.
use Rattle.std.specs.Prelude.{◌≡◌, ℕ, List, Bool, true, Some}
use Rattle.std.specs.List.{AllByRecursion as Each}
use Rattle.cp_run.specs.System.{System}
use Rattle.cp_run.specs.Run.{Choosing, may, chosen}
use Rattle.cp_endless_laws.specs.Moments.{moments}
use Rattle.cp_endless_laws.specs.Reachable.{node_after, LeadsTo}
use Rattle.cp_endless_laws.specs.Settled.{IsIn}

-- states out of which no choice leads, but to an end, and in which the process waits, between two choices too
pub record IsTrap {S : Type 0} (sys : System S) (waiting : S → ℕ → Bool) (q steps : ℕ) (trap : S → Type 0) : Type 0 where
  pub waits : (s : S) → trap s → waiting s q ≡ true
  pub waits_between : (s : S) (p : ℕ) → trap s → may sys s p ≡ true → Each (λ m. waiting m.state q ≡ true) (moments sys steps s p)
  pub on : (s : S) (p : ℕ) → trap s → may sys s p ≡ true → IsIn trap (λ kind. Unit {0}) (chosen sys steps s p)

-- from this state on the process waits, whatever word is gone: at each due choice, and at each moment of the stretch after it
abbrev pub IsStuck : {S : Type 0} → System S → (S → ℕ → Bool) → ℕ → ℕ → S → Type 0
IsStuck {S} sys waiting q steps s =
    (word : List ℕ) (t : S) → node_after sys steps (Choosing s) word ≡ Some (Choosing t) →
    (waiting t q ≡ true) × ((p : ℕ) → may sys t p ≡ true → Each (λ m. waiting m.state q ≡ true) (moments sys steps t p))

-- after the word a choice is due, and from then on the process is stuck
abbrev pub IsStuckAfter : {S : Type 0} → System S → (S → ℕ → Bool) → ℕ → ℕ → List ℕ → Type 0
IsStuckAfter {S} sys waiting q steps word = (s : S) × LeadsTo sys steps word (Choosing s) × IsStuck sys waiting q steps s

-- who waits in a trap is stuck
abbrev pub TrapLaw : {S : Type 0} → System S → (S → Type 0) → Type 0
TrapLaw {S} sys trap = (waiting : S → ℕ → Bool) (q steps : ℕ) → IsTrap sys waiting q steps trap → (s : S) → trap s → IsStuck sys waiting q steps s
