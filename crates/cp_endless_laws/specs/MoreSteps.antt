-- What a greater limit of steps changes: nothing, where no stretch is cut, or each that is cut goes on for ever.
use Rattle.std.specs.Prelude.{◌≡◌, ◌+◌, ℕ, List, true, Some, All, Contains}
use Rattle.cp_run.specs.declared.outcome.OutcomeKind.{OutcomeKind}
use Rattle.cp_run.specs.declared.outcome.OutcomeKind.TheVariants.{StepLimit}
use Rattle.cp_run.specs.System.{System}
use Rattle.cp_run.specs.Run.{may, opened, chosen}
use Rattle.cp_run.specs.Table.{Line, table}
use Rattle.cp_endless_laws.specs.Rounds.{IsCut, IsRound, opening_spot, chosen_spot}
use Rattle.cp_endless_laws.specs.Settled.{IsSettled}

-- ---- of what is settled

-- where no stretch is cut, what is settled is so for every greater limit of steps
abbrev pub MoreStepsLaw : {S : Type 0} → System S → Type 0
MoreStepsLaw {S} sys = (steps more : ℕ) (states : List S) (ends : List OutcomeKind) → IsSettled sys steps states ends → (Contains ends StepLimit → ⊥) → IsSettled sys (more + steps) states ends

-- each stretch that the limit of steps cut is a round
pub record CutsAreRounds {S : Type 0} (sys : System S) (steps : ℕ) (among : S → Type 0) : Type 0 where
  pub start : IsCut (opened sys steps) → (s : S) × (p : ℕ) × (opening_spot sys ≡ Some (s, p)) × IsRound sys s p
  pub on : (s : S) (c : ℕ) → among s → may sys s c ≡ true → IsCut (chosen sys steps s c) → (t : S) × (p : ℕ) × (chosen_spot sys s c ≡ Some (t, p)) × IsRound sys t p

-- then what is settled is so for every greater limit of steps too
abbrev pub MoreStepsRoundsLaw : {S : Type 0} → System S → Type 0
MoreStepsRoundsLaw {S} sys = (steps more : ℕ) (states : List S) (ends : List OutcomeKind) → IsSettled sys steps states ends → CutsAreRounds sys steps (Contains states) → IsSettled sys (more + steps) states ends

-- ---- of tables

-- an end that is not for want of steps
abbrev pub IsUncut : OutcomeKind → Type 0
IsUncut StepLimit = ⊥
IsUncut _ = Unit {0}

-- no schedule of the table ends for want of steps
abbrev pub HasStepsEnough : List Line → Type 0
HasStepsEnough lines = All (λ l. IsUncut l.outcome.kind) lines

-- such a table is the same for every greater limit of steps
abbrev pub MoreStepsTablesLaw : {S : Type 0} → System S → Type 0
MoreStepsTablesLaw sys = (choices steps more : ℕ) → HasStepsEnough (table sys choices steps) → table sys choices (more + steps) ≡ table sys choices steps
