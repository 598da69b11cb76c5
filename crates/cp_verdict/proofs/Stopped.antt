-- Limits at which rows ended, noted row by row.
use Rattle.std.proofs.Common.{◌≡◌, ◌∙◌, ℕ, ◌+◌, ◌<◌, Bool, true, false, ◌||◌, List, [], ◌∷◌, length, take, get_or, map, refl, sym, ap}
use Rattle.std.proofs.lemmas.List.{map-append, take_more}
use Rattle.std.proofs.lemmas.List.Folds.{list_any-append}
use Rattle.cp_run.specs.Table.{Line}
use Rattle.cp_run.specs.declared.outcome.OutcomeKind.{OutcomeKind}
use Rattle.cp_walk.specs.Report.{outcomes_of}
use Rattle.cp_verdict.specs.Judged.{line_of}
use Rattle.cp_verdict.specs.Limits.{AreStopsOf, ended_for_choices, ended_for_output, ended_for_steps, some_row}
use Rattle.cp_verdict.specs.declared.program.Stops.{Stops}
use Rattle.cp_verdict.specs.declared.seen.Seen.{Seen}
use Rattle.cp_verdict.proofs.Finding.{any_of}

or_false : (b : Bool) → (b || false) ≡ b
or_false true = refl
or_false false = refl

row_more : (is : OutcomeKind → Bool) (seen : List Seen) (k : ℕ) (one : Seen) → k < length seen → some_row is (map line_of (take (k + 1) seen)) ≡ (some_row is (map line_of (take k seen)) || is (get_or seen k one).outcome.now.kind)
row_more is seen k one less =
    ap (λ l. some_row is (map line_of l)) (take_more seen k one less) ∙ ap (some_row is) (map-append line_of (take k seen) (get_or seen k one ∷ [])) ∙ list_any-append (λ l. is l.outcome.kind) (map line_of (take k seen)) (line_of (get_or seen k one) ∷ []) ∙ ap (λ b. some_row is (map line_of (take k seen)) || b) (or_false (is (get_or seen k one).outcome.now.kind))

-- one more row
pub stops_more : (seen : List Seen) (k : ℕ) (one : Seen) (old new : Stops) → k < length seen → new.choices ≡ (old.choices || ended_for_choices (get_or seen k one).outcome.now.kind) → new.steps ≡ (old.steps || ended_for_steps (get_or seen k one).outcome.now.kind) → new.output ≡ (old.output || ended_for_output (get_or seen k one).outcome.now.kind) → AreStopsOf (map line_of (take k seen)) old → AreStopsOf (map line_of (take (k + 1) seen)) new
stops_more seen k one old new less c s o h =
    let kind = (get_or seen k one).outcome.now.kind in
    record {
      choices = c ∙ ap (λ b. b || ended_for_choices kind) h.choices ∙ sym (row_more ended_for_choices seen k one less);
      steps = s ∙ ap (λ b. b || ended_for_steps kind) h.steps ∙ sym (row_more ended_for_steps seen k one less);
      output = o ∙ ap (λ b. b || ended_for_output kind) h.output ∙ sym (row_more ended_for_output seen k one less);
    }

-- those of the first rows of outcomes are those of all rows
pub stops_of_all : (lines : List Line) (s : Stops) → AreStopsOf (outcomes_of lines) s → AreStopsOf lines s
stops_of_all lines s h = record {
  choices = h.choices ∙ any_of (λ o. ended_for_choices o.kind) lines;
  steps = h.steps ∙ any_of (λ o. ended_for_steps o.kind) lines;
  output = h.output ∙ any_of (λ o. ended_for_output o.kind) lines;
}
