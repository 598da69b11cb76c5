-- What a search that makes kernel calls at once found, and its report.
use Rattle.std.specs.Prelude.{◌≡◌, ◌≢◌, ◌≤◌, ◌||◌, ℕ, List, [], ◌∷◌, ◌++◌, All, map, Bool, true, false, if◌then◌else◌, codes, length, nat_lt, take}
use Rattle.std.specs.List.{AllPairs, list_any}
use Rattle.cp_slots.specs.Tables.{Tables}
use Rattle.cp_machine.specs.System.{Machine}
use Rattle.cp_machine.specs.declared.discipline.Discipline.{Discipline}
use Rattle.cp_machine.specs.declared.shown.Shown.{Shown}
use Rattle.cp_natural.specs.Decimal.{number_text}
use Rattle.cp_run.specs.Slots.{slots}
use Rattle.cp_run.specs.declared.outcome.OutcomeKind.TheVariants.{StepLimit}
use Rattle.cp_endless_laws.specs.Silent.{silent_slots, without_output}
use Rattle.cp_walk.specs.Text.{Spellings, shown_text, word_text}
use Rattle.cp_ends.specs.Answer.{ends_tests}
use Rattle.cp_ends.specs.Ends.{EndsSo, ShowsSo}
use Rattle.cp_ends.specs.Holds.{SlotFindings}
use Rattle.cp_ends.specs.Told.{EndsWithWords, ValuesWithWords, end_text, listed}
use Rattle.cp_ends.specs.Whole.{LeadsToState, OfItsPrograms}
use Rattle.cp_ends.specs.declared.end.End.{End}
use Rattle.cp_ends.specs.declared.end.End.TheVariants.{Over, Alone, Spins}
use Rattle.cp_ends.specs.declared.found.TheConstants.{MOST_VALUES}
use Rattle.cp_at_once_laws.specs.OnSlots.{LeavesNone, by_the_book}
use Rattle.cp_at_once.specs.Holds.{AreStates, IsWordOf}
use Rattle.cp_at_once.specs.Whole.{HasTooMany}
use Rattle.cp_at_once.specs.declared.found.EndAtOnce.{EndAtOnce}
use Rattle.cp_at_once.specs.declared.found.FoundAtOnce.{FoundAtOnce}
use Rattle.cp_at_once.specs.declared.found.ValueAtOnce.{ValueAtOnce}
use Rattle.cp_at_once.specs.declared.origin.OriginAtOnce.{OriginAtOnce}

-- ---- what was found

-- this end is told
abbrev pub tells_end : EndsWithWords → End → Bool
tells_end ends e = list_any (λ x. ends_tests.end x.0 e) ends

-- this value is, or there are more than are told
abbrev pub tells_value : ValuesWithWords → Shown → Bool
tells_value values v = list_any (λ x. ends_tests.value x.0 v) values || nat_lt MOST_VALUES (length values)

-- The states, each once, the ends and the values are led to by their words. If each state was expanded under the book's discipline and no stretch was cut,
-- no other end and no other value is possible, on the program's own names; if not each was, words lead to more states than may be kept.
pub record AreFindings (r : Tables) (discipline : Discipline) (steps most : ℕ) (f : SlotFindings) (whole : Bool) : Type 0 where
  pub few : length f.states ≤ most
  pub apart : AllPairs (λ x y. x.0 ≢ y.0) f.states
  pub reached : All (λ x. LeadsToState (slots r discipline) without_output steps x.0 x.1) f.states
  pub ends : All (λ x. EndsSo (silent_slots r discipline) steps x.0 x.1) f.ends
  pub values : All (λ x. ShowsSo (slots r discipline) without_output steps x.0 x.1) f.values
  pub all : whole ≡ true → discipline ≡ by_the_book → tells_end f.ends (Over StepLimit) ≡ false → OfItsPrograms r (λ t. LeavesNone t (λ kind. tells_end f.ends (Over kind) ≡ true) (λ q. tells_end f.ends (Alone q) ≡ true) (λ q. tells_end f.ends (Spins q) ≡ true) (λ v. tells_value f.values v ≡ true))
  pub too_many : whole ≡ false → HasTooMany r discipline steps most

-- ---- what the code found

-- each of these with the word for which its origin stands
abbrev pub HaveWords : {A : Type 0} → List (Machine × List ℕ) → List (A × OriginAtOnce) → List (A × List ℕ) → Type 0
HaveWords states [] [] = Unit {0}
HaveWords states [] (f ∷ fs) = ⊥
HaveWords states (e ∷ es) [] = ⊥
HaveWords states (e ∷ es) (f ∷ fs) = (e.0 ≡ f.0) × IsWordOf states e.1 f.1 × HaveWords states es fs

abbrev pub end_origin : EndAtOnce → End × OriginAtOnce
end_origin e = (e.end, e.origin)

abbrev pub value_origin : ValueAtOnce → Shown × OriginAtOnce
value_origin v = (v.value, v.origin)

-- these states, ends and values, each with its word
pub record HasFound (r : Tables) (found : FoundAtOnce) (f : SlotFindings) : Type 0 where
  pub states : AreStates r found.kept.known.entries f.states
  pub ends : HaveWords f.states (map end_origin found.ends.items) f.ends
  pub values : HaveWords f.states (map value_origin found.values.items) f.values

-- ---- the report

abbrev pub end_line : End → List ℕ → List ℕ
end_line e word = codes "by " ++ word_text word ++ codes " " ++ end_text e ++ codes "\n"

abbrev pub value_line : Spellings → Shown → List ℕ → List ℕ
value_line names v word = codes "by " ++ word_text word ++ codes " shows " ++ shown_text names v ++ codes "\n"

-- how many states are kept, or that there are too many
abbrev pub head_text : (whole : Bool) → (states : ℕ) → List ℕ
head_text true states = codes "states " ++ number_text states ++ codes " at once\n"
head_text false states = codes "too many states\n"

-- the first thousand values, and whether there are more
abbrev pub values_text : Spellings → ValuesWithWords → List ℕ
values_text names values = listed (codes "shown ") (value_line names) (take MOST_VALUES values) ++ (if nat_lt MOST_VALUES (length values) then codes "more\n" else [])

-- whether a stretch was cut
abbrev pub cut_text : EndsWithWords → List ℕ
cut_text ends = if tells_end ends (Over StepLimit) then codes "not settled: step-limit\n" else []

-- of these findings
abbrev pub at_once_text : Spellings → SlotFindings → (whole : Bool) → List ℕ
at_once_text names f whole = head_text whole (length f.states) ++ listed (codes "ends ") end_line f.ends ++ values_text names f.values ++ cut_text f.ends
