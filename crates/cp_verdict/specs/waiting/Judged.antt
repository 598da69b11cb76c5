-- What a table says of an expectation, by who waits at the ends of its rows.
use Rattle.std.specs.Prelude.{◌≡◌, ◌≢◌, ℕ, List, Bool, true, false, not}
use Rattle.std.specs.List.{list_all, list_any}
use Rattle.cp_run.specs.Table.{IsAmong, Line}
use Rattle.cp_walk.specs.Text.{Spellings}
use Rattle.cp_expectation.specs.declared.expectation.Claim.{Claim}
use Rattle.cp_expectation.specs.declared.expectation.Claim.TheVariants.{Never, Sometimes, Only}
use Rattle.cp_expectation.specs.declared.expectation.Expectation.{Expectation}
use Rattle.cp_verdict.specs.Expectations.{is_one_of as is_one_of_outcome}
use Rattle.cp_verdict.specs.Judged as by_rows
use Rattle.cp_verdict.specs.Judged.{has_open, row_line}
use Rattle.cp_verdict.specs.endless.Naming.{Processes}
use Rattle.cp_verdict.specs.waiting.Asking.{names_who}
use Rattle.cp_verdict.specs.waiting.Matching.{is_one_of, settles}
use Rattle.cp_verdict.specs.waiting.Rows.{who_of}
use Rattle.cp_verdict.specs.declared.judging.Judgement.{Judgement}
use Rattle.cp_verdict.specs.declared.judging.Judgement.TheVariants.{Holds, Shown, Against, Missing, Unsettled}

-- one of the topics speaks of a row
abbrev pub is_named : Spellings → Processes → (who : List ℕ → List ℕ) → Expectation → Line → Bool
is_named names ps who e l = is_one_of names ps e.topics.items (who_of who l) l.outcome

abbrev pub is_true_by : Claim → (Line → Bool) → List Line → Bool
is_true_by Never named lines = not (list_any named lines)
is_true_by Sometimes named lines = list_any named lines
is_true_by Only named lines = list_all named lines

-- whether it is true of some rows
abbrev pub is_true_of : Spellings → Processes → (who : List ℕ → List ℕ) → Expectation → List Line → Bool
is_true_of names ps who e lines = is_true_by e.claim (is_named names ps who e) lines

-- a row settles it: against `never` and `only`, for `some`
abbrev pub settles_at : Spellings → Processes → (who : List ℕ → List ℕ) → Expectation → Line → Bool
settles_at names ps who e l = settles names ps e (who_of who l) l.outcome

abbrev pub IsSettling : Spellings → Processes → (who : List ℕ → List ℕ) → Expectation → List Line → Line → Type 0
IsSettling names ps who e lines l = IsAmong l lines × (settles_at names ps who e l ≡ true)

-- some run was stopped by a limit, and what it would come to might settle it; who waits is not asked of such a run
abbrev pub is_left_open : Spellings → Expectation → List Line → Bool
is_left_open names e lines = has_open e.claim (is_one_of_outcome names e.topics.items) lines

abbrev pub IsJudged : Spellings → Processes → (who : List ℕ → List ℕ) → Expectation → List Line → Judgement → Type 0
IsJudged names ps who e lines Holds = (is_true_of names ps who e lines ≡ true) × (is_left_open names e lines ≡ false)
IsJudged names ps who e lines (Shown r) = (e.claim ≡ Sometimes) × (is_true_of names ps who e lines ≡ true) × IsSettling names ps who e lines (row_line r)
IsJudged names ps who e lines (Against r) = (e.claim ≢ Sometimes) × (is_true_of names ps who e lines ≡ false) × IsSettling names ps who e lines (row_line r)
IsJudged names ps who e lines Missing = (e.claim ≡ Sometimes) × (is_true_of names ps who e lines ≡ false) × (is_left_open names e lines ≡ false)
IsJudged names ps who e lines Unsettled = (list_any (settles_at names ps who e) lines ≡ false) × (is_left_open names e lines ≡ true)

-- One that names nobody is judged by the first row that settles it.
abbrev pub IsJudgedAny : Spellings → Processes → (who : List ℕ → List ℕ) → List Line → Expectation → Judgement → Type 0
IsJudgedAny names ps who lines e j = IsJudged names ps who e lines j × (names_who e ≡ false → by_rows.IsJudged names e lines j)
