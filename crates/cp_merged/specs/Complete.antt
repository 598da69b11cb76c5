-- When a table says all.
use Rattle.std.specs.Prelude.{◌≡◌, ℕ, List, true, All}
use Rattle.cp_run.specs.declared.outcome.OutcomeKind.{OutcomeKind}
use Rattle.cp_run.specs.declared.outcome.OutcomeKind.TheVariants.{ChoiceLimit}
use Rattle.cp_run.specs.System.{System}
use Rattle.cp_run.specs.Run.{Node, Halted, Choosing, may, chosen, opened}
use Rattle.cp_run.specs.Table.{Line}

-- an end that is not for want of choices
abbrev pub IsOver : OutcomeKind → Type 0
IsOver ChoiceLimit = ⊥
IsOver _ = Unit {0}

-- no schedule ends for want of choices
abbrev pub IsComplete : List Line → Type 0
IsComplete lines = All (λ l. IsOver l.outcome.kind) lines

-- a node that is among some states at a due choice, or an end of some kinds
abbrev pub IsIn : {S : Type 0} → (S → Type 0) → (OutcomeKind → Type 0) → Node S → Type 0
IsIn among known (Halted kind s) = known kind
IsIn among known (Choosing s) = among s

-- states that no choice leads out of, but to an end of some kinds
pub record IsClosed {S : Type 0} (sys : System S) (steps : ℕ) (among : S → Type 0) (known : OutcomeKind → Type 0) : Type 0 where
  pub start : IsIn among known (opened sys steps)
  pub on : (s : S) (p : ℕ) → among s → may sys s p ≡ true → IsIn among known (chosen sys steps s p)

-- an end of some kinds, or for want of choices
abbrev pub IsKnown : (OutcomeKind → Type 0) → OutcomeKind → Type 0
IsKnown known ChoiceLimit = Unit {0}
IsKnown known kind = known kind
