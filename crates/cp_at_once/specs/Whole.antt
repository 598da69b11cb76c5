-- What a search that makes calls at once answers: true words, and, where each kept state was expanded and no stretch was cut, nothing is left out.
use Rattle.std.specs.Prelude.{◌≡◌, ◌≢◌, ◌≤◌, ◌+◌, ℕ, List, All, true, false, length}
use Rattle.std.specs.List.{AllPairs}
use Rattle.cp_slots.specs.Tables.{Tables}
use Rattle.cp_machine.specs.declared.discipline.Discipline.{Discipline}
use Rattle.cp_at_once_laws.specs.OnSlots.{by_the_book}
use Rattle.cp_machine.specs.declared.shown.Shown.{Shown}
use Rattle.cp_machine.specs.System.{Machine}
use Rattle.cp_run.specs.declared.outcome.OutcomeKind.{OutcomeKind}
use Rattle.cp_run.specs.declared.outcome.OutcomeKind.TheVariants.{StepLimit}
use Rattle.cp_run.specs.Slots.{slots}
use Rattle.cp_endless_laws.specs.Silent.{silent_slots, without_output}
use Rattle.cp_ends.specs.Ends.{EndsSo, ShowsSo}
use Rattle.cp_ends.specs.Holds.{same_key}
use Rattle.cp_ends.specs.Searched.{has}
use Rattle.cp_ends.specs.Whole.{LeadsToState, OfItsPrograms}
use Rattle.cp_ends.specs.declared.end.End.TheVariants.{Over, Alone, Spins}
use Rattle.cp_at_once_laws.specs.OnSlots.{IsQuietOnSlots, LeavesNone, Tells}
use Rattle.cp_at_once_laws.specs.Search.{SearchesAtOnce}
use Rattle.cp_at_once.specs.Following.{knows_end, knows_value}
use Rattle.cp_at_once.specs.Holds.{AreRows, AreStates, HasWord}
use Rattle.cp_at_once.specs.declared.found.FoundAtOnce.{FoundAtOnce}

-- the end is among those that were found
abbrev pub ends_known : FoundAtOnce → OutcomeKind → Type 0
ends_known found kind = knows_end found (Over kind) ≡ true

abbrev pub alone_known : FoundAtOnce → ℕ → Type 0
alone_known found q = knows_end found (Alone q) ≡ true

abbrev pub spins_known : FoundAtOnce → ℕ → Type 0
spins_known found q = knows_end found (Spins q) ≡ true

-- the value is, or there are more than are told
abbrev pub values_known : FoundAtOnce → Shown → Type 0
values_known found v = knows_value found v ≡ true

-- With at most 8 legs at once in a row, each choice in a kept state was followed, and what that leads to was found: on slots, and so on the program's own names.
pub record IsComplete (r : Tables) (steps : ℕ) (found : FoundAtOnce) (states : List (Machine × List ℕ)) : Type 0 where
  pub search : SearchesAtOnce (silent_slots r by_the_book) steps 8 (IsQuietOnSlots r) (λ m. has same_key states m ≡ true) (ends_known found) (alone_known found) (spins_known found) (Tells r (values_known found))
  pub meaning : OfItsPrograms r (λ t. LeavesNone t (ends_known found) (alone_known found) (spins_known found) (values_known found))

-- Words lead to more states than may be kept.
pub record HasTooMany (r : Tables) (discipline : Discipline) (steps most : ℕ) : Type 0 where
  pub states : List (Machine × List ℕ)
  pub count : length states ≡ most + 1
  pub apart : AllPairs (λ x y. x.0 ≢ y.0) states
  pub reached : All (λ x. LeadsToState (slots r discipline) without_output steps x.0 x.1) states

-- The kept states, each once, the ends and the values are led to by their words. Where no state was one too many, and no stretch was cut, they are complete.
pub record IsAnswer (r : Tables) (discipline : Discipline) (steps most : ℕ) (found : FoundAtOnce) : Type 0 where
  pub states : List (Machine × List ℕ)
  pub kept : AreStates r found.kept.known.entries states
  pub rows : AreRows found.kept.store found.kept.known.entries states
  pub few : length states ≤ most
  pub apart : AllPairs (λ x y. x.0 ≢ y.0) states
  pub reached : All (λ x. LeadsToState (slots r discipline) without_output steps x.0 x.1) states
  pub ends : All (λ e. HasWord states e.origin (EndsSo (silent_slots r discipline) steps e.end)) found.ends.items
  pub values : All (λ v. HasWord states v.origin (ShowsSo (slots r discipline) without_output steps v.value)) found.values.items
  pub whole : found.is_whole ≡ true → discipline ≡ by_the_book → knows_end found (Over StepLimit) ≡ false → IsComplete r steps found states
  pub too_many : found.is_whole ≡ false → HasTooMany r discipline steps most
