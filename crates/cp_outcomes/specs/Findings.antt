-- What is found of a program.
use Rattle.std.specs.Prelude.{ℕ, ◌≡◌, ◌<◌, map, IfSome}
use Rattle.cp_run.specs.System.{System}
use Rattle.cp_run.specs.Table.{table}
use Rattle.cp_walk.specs.Report.{same_outcome}
use Rattle.cp_merged.specs.Code.{tally_of}
use Rattle.cp_merged.specs.Tallies.{tally}
use Rattle.cp_merged.specs.TooMany.{IsDueFault}
use Rattle.cp_merged.specs.declared.fault.MergeFault.TheVariants.{TooManyStates, TooManyOutcomes}
use Rattle.cp_outcomes.specs.declared.known.Known.{Known}
use Rattle.cp_outcomes.specs.declared.subject.Excess.{Excess}
use Rattle.cp_outcomes.specs.declared.subject.Excess.TheVariants.{States, Outcomes}
use Rattle.cp_outcomes.specs.declared.telling.Finding.{Finding}
use Rattle.cp_outcomes.specs.declared.telling.Finding.TheVariants.{Whole, TooMany}

-- the outcomes of a whole table of fewer choices
pub record IsKnownOf {S : Type 0} (sys : System S) (choices steps : ℕ) (known : Known) : Type 0 where
  pub fewer : known.choices < choices
  pub tallies : map tally_of known.tallies ≡ tally same_outcome (table sys known.choices steps)

-- there is too much of it
abbrev pub IsExcessOf : {S : Type 0} → System S → ℕ → ℕ → Excess → Type 0
IsExcessOf sys choices steps (States most) = IsDueFault sys choices steps most TooManyStates
IsExcessOf sys choices steps Outcomes = (most : ℕ) × IsDueFault sys choices steps most TooManyOutcomes

-- the outcomes of a whole table, or what there is too much of
abbrev pub IsFoundOf : {S : Type 0} → System S → ℕ → ℕ → Finding → Type 0
IsFoundOf sys choices steps (Whole tallies) = map tally_of tallies ≡ tally same_outcome (table sys choices steps)
IsFoundOf sys choices steps (TooMany excess known) = IsExcessOf sys choices steps excess × IfSome known (IsKnownOf sys choices steps)
