-- All that is possible at all: states that no choice leads out of, and the ends that are met in them.
use Rattle.std.specs.Prelude.{◌≡◌, ℕ, List, true, Contains}
use Rattle.cp_run.specs.declared.outcome.OutcomeKind.{OutcomeKind}
use Rattle.cp_run.specs.System.{System}
use Rattle.cp_run.specs.Run.{Node, Halted, Choosing, may, chosen, opened}
use Rattle.cp_endless_laws.specs.Reachable.{IsReachable, IsPossible}

-- a due choice in one of these states, or an end of one of these kinds
abbrev pub IsIn : {S : Type 0} → (S → Type 0) → (OutcomeKind → Type 0) → Node S → Type 0
IsIn among known (Halted kind s) = known kind
IsIn among known (Choosing s) = among s

-- no choice leads out of these states, but to an end of one of these kinds
pub record IsClosed {S : Type 0} (sys : System S) (steps : ℕ) (among : S → Type 0) (known : OutcomeKind → Type 0) : Type 0 where
  pub start : IsIn among known (opened sys steps)
  pub on : (s : S) (p : ℕ) → among s → may sys s p ≡ true → IsIn among known (chosen sys steps s p)

-- no choice leads out of these states, however they end
abbrev pub IsClosedSet : {S : Type 0} → System S → ℕ → (S → Type 0) → Type 0
IsClosedSet sys steps among = IsClosed sys steps among (λ kind. Unit {0})

-- The list of states is closed, and has only states that can be reached; the ends that are met are those of the list, and each of it is possible.
pub record IsSettled {S : Type 0} (sys : System S) (steps : ℕ) (states : List S) (ends : List OutcomeKind) : Type 0 where
  pub closed : IsClosed sys steps (Contains states) (Contains ends)
  pub reached : (s : S) → Contains states s → IsReachable sys steps s
  pub possible : (kind : OutcomeKind) → Contains ends kind → IsPossible sys steps kind

-- the list has exactly the states that can be reached, in any number of choices
abbrev pub AreAllStates : {S : Type 0} → System S → ℕ → List S → Type 0
AreAllStates {S} sys steps states = (s : S) → (IsReachable sys steps s → Contains states s) × (Contains states s → IsReachable sys steps s)

-- the list has exactly the kinds of ends that are possible, in any number of choices
abbrev pub AreAllEnds : {S : Type 0} → System S → ℕ → List OutcomeKind → Type 0
AreAllEnds sys steps ends = (kind : OutcomeKind) → (IsPossible sys steps kind → Contains ends kind) × (Contains ends kind → IsPossible sys steps kind)

-- what is settled is all that there is
abbrev pub SettledLaw : {S : Type 0} → System S → Type 0
SettledLaw {S} sys = (steps : ℕ) (states : List S) (ends : List OutcomeKind) → IsSettled sys steps states ends → AreAllStates sys steps states × AreAllEnds sys steps ends
