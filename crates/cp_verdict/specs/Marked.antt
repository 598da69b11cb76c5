-- What a table says of some expectations together.
use Rattle.std.specs.Prelude.{◌≡◌, ◌≢◌, ◌⊎◌, List, [], ◌∷◌, Bool, true, false, if◌then◌else◌, Option, None, Some}
use Rattle.std.specs.List.{list_any}
use Rattle.cp_walk.specs.Text.{Spellings}
use Rattle.cp_run.specs.Table.{Line, IsAmong}
use Rattle.cp_verdict.specs.Expectations.{is_one_of, is_true_of}
use Rattle.cp_verdict.specs.Judged.{has_open, first_settling, IsJudged}
use Rattle.cp_verdict.specs.Limits.{AreStopsOf}
use Rattle.cp_expectation.specs.declared.expectation.Claim.TheVariants.{Sometimes}
use Rattle.cp_expectation.specs.declared.expectation.Expectation.{Expectation}
use Rattle.cp_verdict.specs.declared.judging.Judgement.{Judgement}
use Rattle.cp_verdict.specs.declared.judging.Judgement.TheVariants as judgement
use Rattle.cp_verdict.specs.declared.marking.Standing.{Standing}
use Rattle.cp_verdict.specs.declared.marking.Standing.TheVariants as mark
use Rattle.cp_verdict.specs.declared.program.Marked.{Marked}

-- the first row that settles an expectation of a program with these tables
abbrev pub settling : Spellings → Expectation → List Line → Option Line
settling names e lines = first_settling e.claim (is_one_of names e.topics.items) lines

-- some run was stopped by a limit, and what it would come to might settle the expectation
abbrev pub is_left_open : Spellings → Expectation → List Line → Bool
is_left_open names e lines = has_open e.claim (is_one_of names e.topics.items) lines

-- It is true of the rows, and no run that a limit stopped could change that; or a row shows what was to be shown.
abbrev pub HoldsOf : Spellings → List Line → Expectation → Type 0
HoldsOf names lines e = (is_true_of names e lines ≡ true) × ((is_left_open names e lines ≡ false) ⊎ (e.claim ≡ Sometimes))

-- The first row against it; or no row is as one was to be, nor could be with more choices.
abbrev pub FailsOf : Spellings → List Line → Expectation → Option Line → Type 0
FailsOf names lines e (Some l) = (is_true_of names e lines ≡ false) × (e.claim ≢ Sometimes) × (settling names e lines ≡ Some l)
FailsOf names lines e None = (is_true_of names e lines ≡ false) × (e.claim ≡ Sometimes) × (is_left_open names e lines ≡ false)

-- no row settles it, and runs that a limit stopped might
abbrev pub OpenOf : Spellings → List Line → Expectation → Type 0
OpenOf names lines e = (settling names e lines ≡ None) × (is_left_open names e lines ≡ true)

abbrev pub Each : (Expectation → Type 0) → List Expectation → Type 0
Each P [] = Unit {0}
Each P (e ∷ es) = P e × Each P es

-- Each holds; or one fails; or none fails, and one is open.
abbrev pub IsMarkOf : Spellings → List Expectation → List Line → Standing → Type 0
IsMarkOf names es lines mark.Holds = Each (HoldsOf names lines) es
IsMarkOf names es lines mark.Fails = (e : Expectation) × (against : Option Line) × IsAmong e es × FailsOf names lines e against
IsMarkOf names es lines mark.Open = Each (λ x. HoldsOf names lines x ⊎ OpenOf names lines x) es × ((e : Expectation) × IsAmong e es × OpenOf names lines e)

-- one for each expectation, in their order
abbrev pub OneForEach : {B : Type 0} → (Expectation → B → Type 0) → List Expectation → List B → Type 0
OneForEach J [] [] = Unit {0}
OneForEach J [] (j ∷ js) = ⊥
OneForEach J (e ∷ es) [] = ⊥
OneForEach J (e ∷ es) (j ∷ js) = J e j × OneForEach J es js

-- the judgements are those of the expectations
abbrev pub AreJudged : Spellings → List Line → List Expectation → List Judgement → Type 0
AreJudged names lines es js = OneForEach (λ e j. IsJudged names e lines j) es js

abbrev pub is_against : Judgement → Bool
is_against (judgement.Against r) = true
is_against judgement.Missing = true
is_against j = false

abbrev pub is_unsettled : Judgement → Bool
is_unsettled judgement.Unsettled = true
is_unsettled j = false

abbrev pub has_against : List Judgement → Bool
has_against js = list_any is_against js

abbrev pub has_unsettled : List Judgement → Bool
has_unsettled js = list_any is_unsettled js

abbrev pub mark_of : List Judgement → Standing
mark_of js = if has_against js then mark.Fails else (if has_unsettled js then mark.Open else mark.Holds)

-- each expectation is judged, they are marked together, and the limits are those at which rows ended
pub record IsMarked (names : Spellings) (es : List Expectation) (lines : List Line) (m : Marked) : Type 0 where
  pub judged : AreJudged names lines es m.judgements.items
  pub together : IsMarkOf names es lines m.mark
  pub stops : AreStopsOf lines m.stops
