-- What a table says of some expectations together, where they may name who waits at an end.
use Rattle.std.specs.Prelude.{◌≡◌, ◌≢◌, ◌⊎◌, ℕ, List, true, false, Option, None, Some}
use Rattle.std.specs.List.{list_any}
use Rattle.cp_walk.specs.Text.{Spellings}
use Rattle.cp_run.specs.Table.{Line, IsAmong}
use Rattle.cp_expectation.specs.declared.expectation.Claim.TheVariants.{Sometimes}
use Rattle.cp_expectation.specs.declared.expectation.Expectation.{Expectation}
use Rattle.cp_verdict.specs.Limits.{AreStopsOf}
use Rattle.cp_verdict.specs.Marked.{Each, OneForEach}
use Rattle.cp_verdict.specs.endless.Naming.{Processes}
use Rattle.cp_verdict.specs.waiting.Judged.{IsJudgedAny, IsSettling, is_left_open, is_true_of, settles_at}
use Rattle.cp_verdict.specs.declared.marking.Standing.{Standing}
use Rattle.cp_verdict.specs.declared.marking.Standing.TheVariants as mark
use Rattle.cp_verdict.specs.declared.program.Marked.{Marked}

-- It is true of the rows, and no run that a limit stopped could change that; or a row shows what was to be shown.
abbrev pub HoldsOf : Spellings → Processes → (who : List ℕ → List ℕ) → List Line → Expectation → Type 0
HoldsOf names ps who lines e = (is_true_of names ps who e lines ≡ true) × ((is_left_open names e lines ≡ false) ⊎ (e.claim ≡ Sometimes))

-- This row is against it; or no row is as one was to be, nor could be with more choices.
abbrev pub FailsOf : Spellings → Processes → (who : List ℕ → List ℕ) → List Line → Expectation → Option Line → Type 0
FailsOf names ps who lines e (Some l) = (is_true_of names ps who e lines ≡ false) × (e.claim ≢ Sometimes) × IsSettling names ps who e lines l
FailsOf names ps who lines e None = (is_true_of names ps who e lines ≡ false) × (e.claim ≡ Sometimes) × (is_left_open names e lines ≡ false)

-- no row settles it, and runs that a limit stopped might
abbrev pub OpenOf : Spellings → Processes → (who : List ℕ → List ℕ) → List Line → Expectation → Type 0
OpenOf names ps who lines e = (list_any (settles_at names ps who e) lines ≡ false) × (is_left_open names e lines ≡ true)

-- Each holds; or one fails; or none fails, and one is open.
abbrev pub IsMarkOf : Spellings → Processes → (who : List ℕ → List ℕ) → List Expectation → List Line → Standing → Type 0
IsMarkOf names ps who es lines mark.Holds = Each (HoldsOf names ps who lines) es
IsMarkOf names ps who es lines mark.Fails = (e : Expectation) × (against : Option Line) × IsAmong e es × FailsOf names ps who lines e against
IsMarkOf names ps who es lines mark.Open = Each (λ x. HoldsOf names ps who lines x ⊎ OpenOf names ps who lines x) es × ((e : Expectation) × IsAmong e es × OpenOf names ps who lines e)

-- each expectation is judged, they are marked together, and the limits are those at which rows ended
pub record IsMarked (names : Spellings) (ps : Processes) (who : List ℕ → List ℕ) (es : List Expectation) (lines : List Line) (m : Marked) : Type 0 where
  pub judged : OneForEach (IsJudgedAny names ps who lines) es m.judgements.items
  pub together : IsMarkOf names ps who es lines m.mark
  pub stops : AreStopsOf lines m.stops
