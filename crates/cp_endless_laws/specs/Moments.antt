-- What happens between two choices.
use Rattle.std.specs.Prelude.{◌≡◌, ◌⊎◌, ◌+◌, ℕ, zero, suc, List, [], ◌∷◌, ◌++◌, Bool, true, if◌then◌else◌}
use Rattle.cp_run.specs.declared.outcome.Turn.{Turn}
use Rattle.cp_run.specs.declared.outcome.Turn.TheVariants.{Over, Due, Goes}
use Rattle.cp_run.specs.System.{System}
use Rattle.cp_run.specs.Run.{Node, Halted, Choosing, turn_after, settled_turn, chosen}
use Rattle.cp_endless_laws.specs.Rounds.{IsRound}

-- before a step: the state, and the process that makes it
pub record Moment (S : Type 0) : Type 0 where
  pub state : S
  pub mover : ℕ

abbrev pub moments_by : {S : Type 0} → (ℕ → List (Moment S)) → Turn → List (Moment S)
moments_by on (Over kind) = []
moments_by on Due = []
moments_by on (Goes q) = on q

-- of a stretch of at most so many steps
unfoldable pub stretch_moments : {S : Type 0} → System S → ℕ → S → ℕ → List (Moment S)
stretch_moments sys zero s p = []
stretch_moments sys (suc left) s p =
    record { state = s; mover = p } ∷ moments_by (stretch_moments sys left (sys.step s p)) (turn_after sys (sys.step s p) p (sys.event s p))

-- of a choice, and the stretch after it; an admission is no step
unfoldable pub moments : {S : Type 0} → System S → ℕ → S → ℕ → List (Moment S)
moments sys steps s p =
    if sys.is_pending s then moments_by (stretch_moments sys steps (sys.admit s p)) (settled_turn sys (sys.admit s p) true p) else stretch_moments sys steps s p

-- of a word from a node
abbrev pub moments_along : {S : Type 0} → System S → ℕ → Node S → List ℕ → List (Moment S)
moments_along sys steps node [] = []
moments_along sys steps (Halted kind s) (p ∷ word) = []
moments_along sys steps (Choosing s) (p ∷ word) = moments sys steps s p ++ moments_along sys steps (chosen sys steps s p) word

-- the states in which the choices of a word are due
abbrev pub states_along : {S : Type 0} → System S → ℕ → Node S → List ℕ → List S
states_along sys steps node [] = []
states_along sys steps (Halted kind s) (p ∷ word) = []
states_along sys steps (Choosing s) (p ∷ word) = s ∷ states_along sys steps (chosen sys steps s p) word

-- one of the list is so
abbrev pub AnyOf : {A : Type 0} → (A → Type 0) → List A → Type 0
AnyOf P [] = ⊥
AnyOf P (x ∷ xs) = P x ⊎ AnyOf P xs

-- Whatever happens in a round, however long it is looked at, happens before it is over for the first time: so all values that it shows are shown by then.
abbrev pub RoundHappensLaw : {S : Type 0} → System S → (Moment S → Bool) → Type 0
RoundHappensLaw {S} sys holds =
    (s : S) (p : ℕ) (round : IsRound sys s p) (n : ℕ) →
    AnyOf (λ m. holds m ≡ true) (stretch_moments sys n s p) → AnyOf (λ m. holds m ≡ true) (stretch_moments sys (round.before + suc round.after) s p)
