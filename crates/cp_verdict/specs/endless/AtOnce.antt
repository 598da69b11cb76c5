-- What a search that makes kernel calls at once lets one know, and the marks by it.
use Rattle.std.specs.Prelude.{◌≡◌, ◌⊎◌, ◌&&◌, ◌||◌, ℕ, List, Bool, true, false, not, map, nat_lt, Option, None, Some, All, length}
use Rattle.std.specs.List.{list_any}
use Rattle.cp_tree.specs.Syntax.{Tree}
use Rattle.cp_slots.specs.Tables.{Tables}
use Rattle.cp_machine.specs.declared.discipline.Discipline.{Discipline}
use Rattle.cp_machine.specs.Discipline.{is_of_the_book}
use Rattle.cp_machine.specs.declared.shown.Shown.{Shown}
use Rattle.cp_meaning.specs.State.{book_discipline}
use Rattle.cp_machine_laws.specs.Named.{named}
use Rattle.cp_run.specs.Slots.{slots}
use Rattle.cp_endless_laws.specs.Reachable.{EndsAfter}
use Rattle.cp_endless_laws.specs.Shown.{ShowsAfter}
use Rattle.cp_endless_laws.specs.Silent.{in_call_on_names, named_without_output, silent_slots, waits_on_names, without_output}
use Rattle.cp_ends.specs.Answer.{ends_tests}
use Rattle.cp_ends.specs.Ends.{EndsSo, ShowsSo}
use Rattle.cp_ends.specs.Whole.{OfItsPrograms}
use Rattle.cp_ends.specs.declared.end.End.{End}
use Rattle.cp_ends.specs.declared.end.End.TheVariants.{Over, Alone, Spins}
use Rattle.cp_ends.specs.declared.found.TheConstants.{MOST_VALUES}
use Rattle.cp_at_once.specs.Whole.{HasTooMany}
use Rattle.cp_at_once_laws.specs.OnSlots.{LeavesNone, by_the_book}
use Rattle.cp_at_once_laws.specs.Quiet.{names}
use Rattle.cp_at_once_laws.specs.Whole.{IsAloneBy, SpinsBy}
use Rattle.cp_verdict.specs.endless.Behaviour.{Behaviour, MayWait}
use Rattle.cp_verdict.specs.endless.Judged.{IsJudgedBy}
use Rattle.cp_verdict.specs.endless.Knowledge.{HasTexts, end_pair, is_whole, value_pair}
use Rattle.cp_verdict.specs.endless.Marked.{AreJudged, IsMarkOf, IsMeantMark, IsTrueMark, ask_waits, mark_of, with_tables}
use Rattle.cp_verdict.specs.endless.Naming.{Processes}
use Rattle.cp_verdict.specs.waiting.Asking.{name_who}
use Rattle.cp_verdict.specs.waiting.EndsMarked as who_in_ends
use Rattle.cp_expectation.specs.declared.expectation.Expectation.{Expectation}
use Rattle.cp_verdict.specs.declared.endless.known.KnownEnds.{KnownEnds}
use Rattle.cp_verdict.specs.declared.endless.verdict.EndsMark.{EndsMark}
use Rattle.cp_verdict.specs.declared.endless.verdict.EndsMark.TheVariants.{TooMany}
use Rattle.cp_verdict.specs.declared.endless.verdict.EndsVerdict.{EndsVerdict}

-- ---- what schedules of any length do on the program's own names, whatever the limit of steps

-- with some limit of steps the word ends so; of a stretch that goes on for ever it is asked who makes each step from some one on
abbrev pub EndsAtSomeLimit : Tree → End → List ℕ → Type 0
EndsAtSomeLimit t (Over kind) word = (limit : ℕ) × EndsAfter (names t) limit word kind
EndsAtSomeLimit t (Alone q) word = (limit : ℕ) × IsAloneBy (names t) limit word q
EndsAtSomeLimit t (Spins q) word = (limit : ℕ) × SpinsBy (names t) limit word q

abbrev pub at_any_limit : Tree → Behaviour
at_any_limit t =
    record {
      ends = EndsAtSomeLimit t;
      shows = λ v word. ((limit : ℕ) × ShowsAfter (named t book_discipline) named_without_output limit word v);
      waits = λ q. ((limit : ℕ) × MayWait (names t) in_call_on_names waits_on_names limit q);
    }

-- ---- what is known

-- the end is known
abbrev pub knows_end : KnownEnds → End → Bool
knows_end k end = list_any (λ e. ends_tests.end e.end end) k.ends.items

-- the value is known, or there are more than are told
abbrev pub knows_value : KnownEnds → Shown → Bool
knows_value k v = list_any (λ x. ends_tests.value x.value v) k.values.items || nat_lt MOST_VALUES (length k.values.items)

-- only where there are too many states is not all gone through
abbrev pub HasMore : Tables → (steps most : ℕ) → (looked : Option ℕ) → Type 0
HasMore r steps most None = Unit {0}
HasMore r steps most (Some d) = HasTooMany r by_the_book steps most

-- Each end and each value is so by its word; and where all is gone through and no stretch was cut, no other is possible with any limit of steps.
pub record IsKnownAtOnce (r : Tables) (steps most : ℕ) (k : KnownEnds) : Type 0 where
  pub ends : All (λ x. EndsSo (silent_slots r by_the_book) steps x.0 x.1) (map end_pair k.ends.items)
  pub values : All (λ x. ShowsSo (slots r by_the_book) without_output steps x.0 x.1) (map value_pair k.values.items)
  pub texts : HasTexts r.names k.values.items
  pub all : is_whole k ≡ true → OfItsPrograms r (λ t. LeavesNone t (λ kind. knows_end k (Over kind) ≡ true) (λ q. knows_end k (Alone q) ≡ true) (λ q. knows_end k (Spins q) ≡ true) (λ v. knows_value k v ≡ true))
  pub more : HasMore r steps most k.looked

-- ---- marks

-- they settle neither who waits, for ever or at an end, nor what another discipline than the book's leads to
abbrev pub can_be_at_once : Discipline → List Expectation → Bool
can_be_at_once discipline es = (is_of_the_book discipline && not (ask_waits es)) && not (name_who es)

-- The mark is that of a verdict by what is known, and it is true of the program's own names, whatever the limit of steps.
pub record IsMarkAtOnce (r : Tables) (ps : Processes) (steps most : ℕ) (es : List Expectation) (m : EndsMark) : Type 0 where
  pub known : KnownEnds
  pub is_known : IsKnownAtOnce r steps most known
  pub verdict : EndsVerdict
  pub is : m ≡ mark_of verdict known.looked
  pub judged : AreJudged (IsJudgedBy (with_tables r ps) known) es verdict
  pub meaning : OfItsPrograms r (λ t. IsTrueMark (with_tables r ps) (at_any_limit t) es m)

-- the mark stands, or there are too many states and kernel calls at once settle more
abbrev pub IsAgain : Tables → Processes → Discipline → (steps most : ℕ) → List Expectation → (before after : EndsMark) → Type 0
IsAgain r ps discipline steps most es before after = (after ≡ before) ⊎ ((discipline ≡ by_the_book) × IsMarkAtOnce r ps steps most es after)

-- It is the mark by all states; or there are too many of them, and it is the mark by kernel calls at once.
abbrev pub IsMarkInTurn : Tables → Processes → Discipline → (steps most : ℕ) → List Expectation → EndsMark → Type 0
IsMarkInTurn r ps discipline steps most es m =
    (IsMarkOf r ps discipline steps most es m × IsMeantMark r ps discipline steps es m) ⊎ (IsMarkOf r ps discipline steps most es TooMany × (discipline ≡ by_the_book) × IsMarkAtOnce r ps steps most es m)

-- The same where nobody is named; else it is the mark by all states with who waits at their ends. And it is true of the program on its own names.
abbrev pub IsEndsMark : Tables → Processes → Discipline → (steps most : ℕ) → List Expectation → EndsMark → Type 0
IsEndsMark r ps discipline steps most es m =
    (name_who es ≡ false → IsMarkInTurn r ps discipline steps most es m) × (name_who es ≡ true → who_in_ends.IsMarkOf r ps discipline steps most es m × who_in_ends.IsMeantMark r ps discipline steps es m)
