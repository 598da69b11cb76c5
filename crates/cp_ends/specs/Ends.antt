-- How the words of a machine that shows nothing end, and what they show, stretches that repeat for ever told apart.
use Rattle.std.specs.Prelude.{◌⊎◌, ℕ, List, Contains}
use Rattle.cp_machine.specs.declared.shown.Shown.{Shown}
use Rattle.cp_run.specs.declared.outcome.OutcomeKind.TheVariants.{StepLimit}
use Rattle.cp_run.specs.System.{System}
use Rattle.cp_run.specs.Table.{each}
use Rattle.cp_endless_laws.specs.Forgetting.{forgetting_system}
use Rattle.cp_endless_laws.specs.Reachable.{EndsAfter}
use Rattle.cp_endless_laws.specs.Repeats.{Repeats, repeated_part, IsAloneAfter, SpinsAfter}
use Rattle.cp_endless_laws.specs.Rounds.{SetsOut}
use Rattle.cp_endless_laws.specs.Shown.{shown_at, ShowsAfter}
use Rattle.cp_ends.specs.declared.end.End as code
use Rattle.cp_ends.specs.declared.end.End.TheVariants.{Over, Alone, Spins}

-- The word ends so. A stretch that was cut, and is not seen to repeat, ends at the limit of steps.
abbrev pub EndsSo : {S : Type 0} → System S → ℕ → code.End → List ℕ → Type 0
EndsSo sys steps (Over StepLimit) word = EndsAfter sys steps word StepLimit × ((q : ℕ) → IsAloneAfter sys steps word q → ⊥) × ((q : ℕ) → SpinsAfter sys steps word q → ⊥)
EndsSo sys steps (Over kind) word = EndsAfter sys steps word kind
EndsSo sys steps (Alone q) word = IsAloneAfter sys steps word q
EndsSo sys steps (Spins q) word = SpinsAfter sys steps word q

-- the stretch to which the word leads repeats, and the part that repeats shows this value
pub record ShowsAgain {S : Type 0} (sys : System S) (forget : S → S) (steps : ℕ) (word : List ℕ) (v : Shown) : Type 0 where
  pub begin : S
  pub first : ℕ
  pub sets_out : SetsOut (forgetting_system sys forget) steps word begin first
  pub repeats : Repeats (forgetting_system sys forget) steps begin first
  pub shown : Contains (each (shown_at sys) (repeated_part repeats)) v

-- the stretch to which the word leads shows this value, in as many steps as the limit or in the part that repeats for ever
abbrev pub ShowsSo : {S : Type 0} → System S → (S → S) → ℕ → Shown → List ℕ → Type 0
ShowsSo sys forget steps v word = ShowsAfter sys forget steps word v ⊎ ShowsAgain sys forget steps word v
