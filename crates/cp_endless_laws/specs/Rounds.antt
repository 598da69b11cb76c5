-- A stretch that comes back to where it was: it goes on for ever, and comes to no choice.
use Rattle.std.specs.Prelude.{◌≡◌, ◌⊎◌, ◌+◌, ◌++◌, ℕ, zero, suc, List, [], ◌∷◌, true, false, if◌then◌else◌, Option, None, Some}
use Rattle.cp_run.specs.declared.outcome.OutcomeKind.TheVariants.{StepLimit}
use Rattle.cp_run.specs.declared.outcome.Turn.{Turn}
use Rattle.cp_run.specs.declared.outcome.Turn.TheVariants.{Over, Due, Goes}
use Rattle.cp_run.specs.System.{System}
use Rattle.cp_run.specs.Run.{Node, Halted, Choosing, may, turn_at, turn_after, settled_turn, stretch}
use Rattle.cp_endless_laws.specs.Reachable.{LeadsTo, EndsAfter}

-- a stretch that a limit of steps stopped
abbrev pub IsCut : {S : Type 0} → Node S → Type 0
IsCut (Halted StepLimit s) = Unit {0}
IsCut _ = ⊥

-- ---- where a stretch stands: its state, and the process that makes the next step

-- nowhere, if the run is over or a choice is due
abbrev pub spot_by : {S : Type 0} → S → (ℕ → Option (S × ℕ)) → Turn → Option (S × ℕ)
spot_by t on (Over kind) = None
spot_by t on Due = None
spot_by t on (Goes q) = on q

-- after so many steps
abbrev pub spot_after : {S : Type 0} → System S → ℕ → S → ℕ → Option (S × ℕ)
spot_after sys zero s p = Some (s, p)
spot_after sys (suc n) s p = spot_by (sys.step s p) (spot_after sys n (sys.step s p)) (turn_after sys (sys.step s p) p (sys.event s p))

-- at the beginning of the first stretch
abbrev pub opening_spot : {S : Type 0} → System S → Option (S × ℕ)
opening_spot sys = spot_by sys.start (λ q. Some (sys.start, q)) (turn_at sys sys.start false 0)

-- at the beginning of the stretch after a choice
abbrev pub chosen_spot : {S : Type 0} → System S → S → ℕ → Option (S × ℕ)
chosen_spot sys s p = if sys.is_pending s then spot_by (sys.admit s p) (λ q. Some (sys.admit s p, q)) (settled_turn sys (sys.admit s p) true p) else Some (s, p)

-- the stretch to which the word leads begins in state s with a step of p
abbrev pub SetsOut : {S : Type 0} → System S → ℕ → List ℕ → S → ℕ → Type 0
SetsOut {S} sys steps word s p =
    ((word ≡ []) × (opening_spot sys ≡ Some (s, p))) ⊎
    ((stem : List ℕ) × (c : ℕ) × (t : S) × (word ≡ stem ++ c ∷ []) × LeadsTo sys steps stem (Choosing t) × (may sys t c ≡ true) × (chosen_spot sys t c ≡ Some (s, p)))

-- ---- rounds

-- After some steps the stretch comes to a state and a process that come again after some more.
pub record IsRound {S : Type 0} (sys : System S) (s : S) (p : ℕ) : Type 0 where
  pub before : ℕ
  pub state : S
  pub process : ℕ
  pub comes : spot_after sys before s p ≡ Some (state, process)
  pub after : ℕ
  pub returns : spot_after sys (suc after) state process ≡ Some (state, process)

-- such a stretch never ends, and comes to no due choice
abbrev pub RoundLaw : {S : Type 0} → System S → Type 0
RoundLaw {S} sys = (s : S) (p : ℕ) → IsRound sys s p → (n : ℕ) → (spot_after sys n s p ≡ None → ⊥)

-- whatever the limit of steps, it is cut
abbrev pub CutLaw : {S : Type 0} → System S → Type 0
CutLaw {S} sys = (s : S) (p : ℕ) → IsRound sys s p → (n : ℕ) → IsCut (stretch sys n s p)

-- the word before it ends at the limit of steps, and at every greater one
abbrev pub AloneLaw : {S : Type 0} → System S → Type 0
AloneLaw {S} sys = (steps : ℕ) (word : List ℕ) (s : S) (p : ℕ) → SetsOut sys steps word s p → IsRound sys s p → (more : ℕ) → EndsAfter sys (more + steps) word StepLimit
