-- What holds is true of more.
use Rattle.std.specs.Prelude.{◌≡◌, ◌≢◌, ◌⊎◌, ◌+◌, ◌++◌, ℕ, List, Bool, true, false}
use Rattle.std.specs.List.{list_any}
use Rattle.cp_machine.specs.declared.shown.Shown.{Shown}
use Rattle.cp_run.specs.System.{System}
use Rattle.cp_run.specs.Table.{table}
use Rattle.cp_walk.specs.Text.{Spellings}
use Rattle.cp_verdict.specs.Expectations.{is_true_of}
use Rattle.cp_verdict.specs.Judged.{IsJudged}
use Rattle.cp_verdict.specs.Limits.{ended_for_choices}
use Rattle.cp_verdict.specs.Marked.{HoldsOf}
use Rattle.cp_expectation.specs.declared.expectation.Claim.TheVariants.{Sometimes}
use Rattle.cp_expectation.specs.declared.expectation.Expectation.{Expectation}
use Rattle.cp_expectation.specs.declared.expectation.Topic.{Topic}
use Rattle.cp_expectation.specs.declared.expectation.Topic.TheVariants as topic
use Rattle.cp_verdict.specs.declared.judging.Judgement.TheVariants.{Shown as ShownBy}
use Rattle.cp_verdict.specs.declared.seen.SeenRow.{SeenRow}

-- more was displayed, or as much
abbrev pub GoesOn : List Shown → List Shown → Type 0
GoesOn before now = (more : List Shown) × (now ≡ before ++ more)

-- what was displayed is never taken back
pub record KeepsOutput {S : Type 0} (sys : System S) : Type 0 where
  pub step : (s : S) (p : ℕ) → GoesOn (sys.output s) (sys.output (sys.step s p))
  pub admit : (s : S) (p : ℕ) → GoesOn (sys.output s) (sys.output (sys.admit s p))

abbrev pub is_of_values : Topic → Bool
is_of_values (topic.Shown text) = true
is_of_values t = false

-- whether an expectation speaks of values that are displayed, whatever a schedule ends in
abbrev pub asks_values : Expectation → Bool
asks_values e = list_any is_of_values e.topics.items

-- An expectation that holds is true of every table of more choices. One that asks for a value, by `some`, stands apart: that a schedule which a limit stopped goes on is said of no machine here.
abbrev pub HoldsLaw : {S : Type 0} → System S → Type 0
HoldsLaw sys =
    (names : Spellings) (choices steps more : ℕ) (e : Expectation) → (asks_values e ≡ false) ⊎ (KeepsOutput sys × (e.claim ≢ Sometimes)) →
    HoldsOf names (table sys choices steps) e → is_true_of names e (table sys (choices + more) steps) ≡ true

-- What a row shows is shown in every table of more choices, unless the row ended for want of choices.
abbrev pub StaysLaw : {S : Type 0} → System S → Type 0
StaysLaw sys =
    (names : Spellings) (choices steps more : ℕ) (e : Expectation) (r : SeenRow) → ended_for_choices r.outcome.kind ≡ false →
    IsJudged names e (table sys choices steps) (ShownBy r) → is_true_of names e (table sys (choices + more) steps) ≡ true
