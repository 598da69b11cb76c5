-- What words of at most so many choices lead to, where there are too many states for all words.
use Rattle.std.specs.Prelude.{◌≡◌, ◌≤◌, ◌<◌, ℕ, suc, List, true, Contains, length}
use Rattle.cp_run.specs.declared.outcome.OutcomeKind.{OutcomeKind}
use Rattle.cp_run.specs.System.{System}
use Rattle.cp_run.specs.Run.{may, chosen, opened}
use Rattle.cp_endless_laws.specs.Reachable.{EndsAfter}
use Rattle.cp_endless_laws.specs.Settled.{IsIn}

-- `layer k` has what at most k choices lead to; each state that fewer than d choices lead to is expanded
pub record IsClosedTo {S : Type 0} (sys : System S) (steps d : ℕ) (layer : ℕ → S → Type 0) (known : OutcomeKind → Type 0) : Type 0 where
  pub start : IsIn (layer 0) known (opened sys steps)
  pub on : (k : ℕ) (s : S) (p : ℕ) → k < d → layer k s → may sys s p ≡ true → IsIn (layer (suc k)) known (chosen sys steps s p)

-- some word of at most d choices leads to an end of this kind
pub record IsPossibleTo {S : Type 0} (sys : System S) (steps d : ℕ) (kind : OutcomeKind) : Type 0 where
  pub word : List ℕ
  pub short : length word ≤ d
  pub ends : EndsAfter sys steps word kind

-- the layers are closed to d choices, and each end of the list is met by then
pub record IsSettledTo {S : Type 0} (sys : System S) (steps d : ℕ) (layers : ℕ → List S) (ends : List OutcomeKind) : Type 0 where
  pub closed : IsClosedTo sys steps d (λ k. Contains (layers k)) (Contains ends)
  pub possible : (kind : OutcomeKind) → Contains ends kind → IsPossibleTo sys steps d kind

-- the list has exactly the kinds of ends that words of at most d choices lead to
abbrev pub AreAllEndsTo : {S : Type 0} → System S → ℕ → ℕ → List OutcomeKind → Type 0
AreAllEndsTo sys steps d ends = (kind : OutcomeKind) → (IsPossibleTo sys steps d kind → Contains ends kind) × (Contains ends kind → IsPossibleTo sys steps d kind)

-- no word of at most d choices leads to another end
abbrev pub EndsToLaw : {S : Type 0} → System S → Type 0
EndsToLaw {S} sys = (steps d : ℕ) (layers : ℕ → List S) (ends : List OutcomeKind) → IsSettledTo sys steps d layers ends → AreAllEndsTo sys steps d ends
