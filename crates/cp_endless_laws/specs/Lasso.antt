-- A lasso: a word that leads to a state, and one that leads from it back to it. It shows that a process may wait for ever, and whoever may has one.
use Rattle.std.specs.Prelude.{◌≡◌, ◌⊎◌, ◌<◌, ℕ, List, ◌∷◌, Bool, true, Some, Contains}
use Rattle.std.specs.List.{AllByRecursion as Each}
use Rattle.cp_run.specs.System.{System}
use Rattle.cp_run.specs.Run.{Node, Choosing}
use Rattle.cp_endless_laws.specs.Fair.{IsServed}
use Rattle.cp_endless_laws.specs.Moments.{moments_along, states_along, AnyOf}
use Rattle.cp_endless_laws.specs.Reachable.{node_after, LeadsTo}
use Rattle.cp_endless_laws.specs.Settled.{IsClosedSet}
use Rattle.cp_endless_laws.specs.WaitsForEver.{MayWaitForEver, MayLinger}

-- the stem leads to the state, and the loop leads back to it: so the loop may be gone for ever
pub record IsLasso {S : Type 0} (sys : System S) (steps : ℕ) (stem : List ℕ) (s : S) (first : ℕ) (more : List ℕ) : Type 0 where
  pub reached : LeadsTo sys steps stem (Choosing s)
  pub back : node_after sys steps (Choosing s) (first ∷ more) ≡ Some (Choosing s)

-- in the loop each process is served, and this one waits in all of it
pub record IsWaitingLoop {S : Type 0} (sys : System S) (waiting : S → ℕ → Bool) (q steps : ℕ) (s : S) (loop : List ℕ) : Type 0 where
  pub fair : (p : ℕ) → p < sys.processes → IsServed sys p (moments_along sys steps (Choosing s) loop)
  pub waits : Each (λ t. waiting t q ≡ true) (states_along sys steps (Choosing s) loop)
  pub waits_between : Each (λ m. waiting m.state q ≡ true) (moments_along sys steps (Choosing s) loop)

-- a lasso in whose loop the process waits
pub record HasLasso {S : Type 0} (sys : System S) (waiting : S → ℕ → Bool) (q steps : ℕ) : Type 0 where
  pub stem : List ℕ
  pub state : S
  pub first : ℕ
  pub more : List ℕ
  pub lasso : IsLasso sys steps stem state first more
  pub waits : IsWaitingLoop sys waiting q steps state (first ∷ more)

-- whoever has one may wait for ever
abbrev pub LassoLaw : {S : Type 0} → System S → Type 0
LassoLaw {S} sys = (waiting : S → ℕ → Bool) (q steps : ℕ) → HasLasso sys waiting q steps → MayWaitForEver sys waiting q steps

-- any two states of the list are the same, or are not
abbrev pub CanBeTold : {S : Type 0} → List S → Type 0
CanBeTold {S} states = (s t : S) → Contains states s → Contains states t → (s ≡ t) ⊎ (s ≡ t → ⊥)

-- And whoever may wait for ever has one, where the states that can be reached are in a list and can be told apart.
abbrev pub LassoFoundLaw : {S : Type 0} → System S → Type 0
LassoFoundLaw {S} sys =
    (waiting : S → ℕ → Bool) (q steps : ℕ) (states : List S) → CanBeTold states → IsClosedSet sys steps (Contains states) →
    MayWaitForEver sys waiting q steps → HasLasso sys waiting q steps

-- ---- in its call

-- the process waits somewhere along the word
abbrev pub WaitsAlong : {S : Type 0} → System S → (S → ℕ → Bool) → ℕ → ℕ → Node S → List ℕ → Type 0
WaitsAlong sys waiting q steps node word =
    AnyOf (λ t. waiting t q ≡ true) (states_along sys steps node word) ⊎ AnyOf (λ m. waiting m.state q ≡ true) (moments_along sys steps node word)

-- a lasso in whose loop the process is inside all the time, and waits somewhere
pub record HasLingeringLasso {S : Type 0} (sys : System S) (inside waiting : S → ℕ → Bool) (q steps : ℕ) : Type 0 where
  pub stays : HasLasso sys inside q steps
  pub waits : WaitsAlong sys waiting q steps (Choosing stays.state) (stays.first ∷ stays.more)

abbrev pub LingerLaw : {S : Type 0} → System S → Type 0
LingerLaw {S} sys = (inside waiting : S → ℕ → Bool) (q steps : ℕ) → HasLingeringLasso sys inside waiting q steps → MayLinger sys inside waiting q steps

abbrev pub LingerFoundLaw : {S : Type 0} → System S → Type 0
LingerFoundLaw {S} sys =
    (inside waiting : S → ℕ → Bool) (q steps : ℕ) (states : List S) → CanBeTold states → IsClosedSet sys steps (Contains states) →
    MayLinger sys inside waiting q steps → HasLingeringLasso sys inside waiting q steps
