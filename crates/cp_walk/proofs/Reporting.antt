-- A report, from what its parts come to.
use Rattle.std.proofs.Common.{◌≡◌, ◌∙◌, ℕ, ◌++◌, [], Bool, if◌then◌else◌, List, length, Result, Ok, Err, IfOk, ap}
use Rattle.std.proofs.lemmas.List.{append_assoc}
use Rattle.std.specs.Prelude.{codes}
use Rattle.cp_natural.specs.Decimal.{number_text}
use Rattle.cp_run.specs.Table.{Line}
use Rattle.cp_walk.specs.Report.{groups_text, outcomes_of, report_text, rows_text}
use Rattle.cp_walk.specs.Text.{Spellings}

pub ok_then : {A E : Type 0} (r : Result A E) (P Q : A → Type 0) → IfOk r P → ((a : A) → P a → Q a) → IfOk r Q
ok_then (Ok a) P Q h f = f a h
ok_then (Err e) P Q h f = h

behind_all : (a b c d e f g h i : List ℕ) → a ++ b ++ c ++ d ++ e ++ f ++ g ++ h ++ i ≡ a ++ (b ++ c ++ d ++ e ++ f ++ g ++ h ++ i)
behind_all a b c d e f g h i = simp append_assoc

pub report_of : (names : Spellings) (lines : List Line) (rows : Bool) (old : List ℕ) (total count : ℕ) (groups : List ℕ) → total ≡ length lines → count ≡ length (outcomes_of lines) → groups ≡ groups_text names lines (outcomes_of lines) → old ++ (if rows then rows_text names lines else []) ++ codes "schedules " ++ number_text total ++ codes "\n" ++ codes "outcomes " ++ number_text count ++ codes "\n" ++ groups ≡ old ++ report_text names lines rows
report_of names lines rows old total count groups t n g =
    let shown = if rows then rows_text names lines else [] in
    behind_all old shown (codes "schedules ") (number_text total) (codes "\n") (codes "outcomes ") (number_text count) (codes "\n") groups
    ∙ ap (λ k. old ++ (shown ++ codes "schedules " ++ number_text k ++ codes "\n" ++ codes "outcomes " ++ number_text count ++ codes "\n" ++ groups)) t
    ∙ ap (λ k. old ++ (shown ++ codes "schedules " ++ number_text (length lines) ++ codes "\n" ++ codes "outcomes " ++ number_text k ++ codes "\n" ++ groups)) n
    ∙ ap (λ l. old ++ (shown ++ codes "schedules " ++ number_text (length lines) ++ codes "\n" ++ codes "outcomes " ++ number_text (length (outcomes_of lines)) ++ codes "\n" ++ l)) g
