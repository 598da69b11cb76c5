-- What a table says of an expectation.
use Rattle.std.specs.Prelude.{◌≡◌, ◌≢◌, List, Bool, true, false, Option, None, Some, find}
use Rattle.std.specs.List.{list_any}
use Rattle.cp_walk.specs.Text.{Spellings}
use Rattle.cp_run.specs.declared.outcome.Outcome.{Outcome}
use Rattle.cp_run.specs.Table.{Line}
use Rattle.cp_verdict.specs.Expectations.{is_one_of, is_open_by, is_true_by, settles_by}
use Rattle.cp_expectation.specs.declared.expectation.Claim.{Claim}
use Rattle.cp_expectation.specs.declared.expectation.Claim.TheVariants.{Never, Sometimes, Only}
use Rattle.cp_expectation.specs.declared.expectation.Expectation.{Expectation}
use Rattle.cp_verdict.specs.declared.judging.Judgement.{Judgement}
use Rattle.cp_verdict.specs.declared.judging.Judgement.TheVariants.{Holds, Shown, Against, Missing, Unsettled}
use Rattle.cp_verdict.specs.declared.seen.SeenRow.{SeenRow}
use Rattle.cp_verdict.specs.declared.seen.Seen.{Seen}

abbrev pub line_of : Seen → Line
line_of s = record { word = s.first.now.items; outcome = s.outcome.now }

abbrev pub row_line : SeenRow → Line
row_line r = record { word = r.schedule.items; outcome = r.outcome }

-- some run was stopped by a limit, and what it would come to might settle the expectation
abbrev pub has_open : Claim → (Outcome → Bool) → List Line → Bool
has_open claim named lines = list_any (λ l. is_open_by claim named l.outcome) lines

-- the first row that settles an expectation
abbrev pub first_settling : Claim → (Outcome → Bool) → List Line → Option Line
first_settling claim named lines = find (λ l. settles_by claim named l.outcome) lines

abbrev pub IsJudgedBy : Claim → (Outcome → Bool) → List Line → Judgement → Type 0
IsJudgedBy claim named lines Holds = (is_true_by claim named lines ≡ true) × (has_open claim named lines ≡ false)
IsJudgedBy claim named lines (Shown r) = (claim ≡ Sometimes) × (is_true_by claim named lines ≡ true) × (first_settling claim named lines ≡ Some (row_line r))
IsJudgedBy claim named lines (Against r) = (claim ≢ Sometimes) × (is_true_by claim named lines ≡ false) × (first_settling claim named lines ≡ Some (row_line r))
IsJudgedBy claim named lines Missing = (claim ≡ Sometimes) × (is_true_by claim named lines ≡ false) × (has_open claim named lines ≡ false)
IsJudgedBy claim named lines Unsettled = (first_settling claim named lines ≡ None) × (has_open claim named lines ≡ true)

abbrev pub IsJudged : Spellings → Expectation → List Line → Judgement → Type 0
IsJudged names e lines j = IsJudgedBy e.claim (is_one_of names e.topics.items) lines j

-- the judgement from the first row that settles an expectation, and whether some other might
abbrev pub judgement_of : Claim → Option SeenRow → Bool → Judgement
judgement_of Sometimes (Some r) left = Shown r
judgement_of Sometimes None false = Missing
judgement_of Sometimes None true = Unsettled
judgement_of Never (Some r) left = Against r
judgement_of Never None false = Holds
judgement_of Never None true = Unsettled
judgement_of Only (Some r) left = Against r
judgement_of Only None false = Holds
judgement_of Only None true = Unsettled
