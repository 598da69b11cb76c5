-- What a search through the states of a machine that shows nothing says: of words of any length, or, where there are too many states, of words of
-- at most so many choices.
use Rattle.std.specs.Prelude.{◌≡◌, ◌≢◌, ◌+◌, ◌≤◌, ℕ, suc, List, All, Option, None, Some, length, slice_get}
use Rattle.std.specs.List.{AllPairs}
use Rattle.cp_tree.specs.Read.{IsRead}
use Rattle.cp_tree.specs.Syntax.{Tree}
use Rattle.cp_layout.specs.Laid.{plain, laid}
use Rattle.cp_slots.specs.Tables.{Tables}
use Rattle.cp_meaning_laws.specs.Accepted.{IsAccepted}
use Rattle.cp_meaning.specs.State as named
use Rattle.cp_machine.specs.System.{Machine}
use Rattle.cp_machine.specs.declared.discipline.Discipline.{Discipline}
use Rattle.cp_machine.specs.declared.shown.Shown.{Shown}
use Rattle.cp_run.specs.Slots.{slots}
use Rattle.cp_run.specs.System.{System}
use Rattle.cp_run.specs.Run.{Choosing}
use Rattle.cp_machine_laws.specs.Named.{named_discipline}
use Rattle.cp_endless_laws.specs.Forgetting.{forgetting_system}
use Rattle.cp_endless_laws.specs.Reachable.{LeadsTo}
use Rattle.cp_endless_laws.specs.Silent.{without_output}
use Rattle.cp_ends.specs.Ends.{EndsSo, ShowsSo}
use Rattle.cp_ends.specs.Firsts.{AreFirsts, AreFirstOnes, Within, those_within}
use Rattle.cp_ends.specs.Holds.{Holds}
use Rattle.cp_ends.specs.Named.{IsAnswerOnNames, IsAnswerToOnNames}
use Rattle.cp_ends.specs.Searched.{Findings}
use Rattle.cp_ends.specs.declared.end.End.{End}
use Rattle.cp_ends.specs.declared.found.Found.{Found}
use Rattle.cp_ends.specs.declared.found.TheConstants.{MOST_VALUES}

-- the word leads to a due choice in this state
abbrev pub LeadsToState : {S : Type 0} → System S → (S → S) → ℕ → S → List ℕ → Type 0
LeadsToState sys forget steps s word = LeadsTo (forgetting_system sys forget) steps word (Choosing s)

-- All that words lead to, whatever their length: each state, each end and each value, with its first word. One value more than is told is kept.
pub record IsWhole {S : Type 0} (sys : System S) (forget : S → S) (steps most : ℕ) (f : Findings S End Shown) : Type 0 where
  pub few : length f.states ≤ most
  pub states : AreFirsts (LeadsToState sys forget steps) f.states
  pub ends : AreFirsts (EndsSo (forgetting_system sys forget) steps) f.ends
  pub values : AreFirstOnes (suc MOST_VALUES) (ShowsSo sys forget steps) f.values

-- d is the greatest number of choices that lead to at most so many states: more of them are so near that one choice more leads there
pub record HasTooMany {S : Type 0} (sys : System S) (forget : S → S) (steps most d : ℕ) : Type 0 where
  pub near : List S
  pub count : length near ≡ most + 1
  pub apart : AllPairs (λ s t. s ≢ t) near
  pub reached : All (λ s. (word : List ℕ) × Within (suc d) (LeadsToState sys forget steps) s word) near

-- There are too many states. What words of at most d choices lead to is found.
pub record IsCutShort {S : Type 0} (sys : System S) (forget : S → S) (steps most d : ℕ) (f : Findings S End Shown) : Type 0 where
  pub few : length (those_within d f.states) ≤ most
  pub many : HasTooMany sys forget steps most d
  pub states : AreFirsts (Within d (LeadsToState sys forget steps)) (those_within d f.states)
  pub ends : AreFirsts (Within d (EndsSo (forgetting_system sys forget) steps)) (those_within d f.ends)
  pub values : AreFirstOnes (suc MOST_VALUES) (Within d (ShowsSo sys forget steps)) (those_within d f.values)

-- a search that stopped has expanded each state before the one of this number
abbrev pub IsAnswerBy : Tables → Discipline → (steps most : ℕ) → Findings Machine End Shown → Option ℕ → Type 0
IsAnswerBy r discipline steps most f None = IsWhole (slots r discipline) without_output steps most f
IsAnswerBy r discipline steps most f (Some at) = (x : Machine × List ℕ) × (slice_get f.states at ≡ Some x) × IsCutShort (slots r discipline) without_output steps most (length x.1) f

-- the same on a program's own names
abbrev pub IsMeantBy : Tree → named.Discipline → (steps : ℕ) → Findings Machine End Shown → Option ℕ → Type 0
IsMeantBy t g steps f None = IsAnswerOnNames t g steps (suc MOST_VALUES) f.ends f.values
IsMeantBy t g steps f (Some at) =
    (x : Machine × List ℕ) × (slice_get f.states at ≡ Some x) ×
    IsAnswerToOnNames t g steps (length x.1) (suc MOST_VALUES) (those_within (length x.1) f.ends) (those_within (length x.1) f.values)

-- it holds of whatever program was read, is accepted, and has these tables
abbrev pub OfItsPrograms : Tables → (Tree → Type 0) → Type 0
OfItsPrograms r P = (t : Tree) → IsRead t.program → IsAccepted t → plain r ≡ laid t → P t

-- What the code found is what words lead to, in the slot machine and in the meaning of its program.
pub record IsAnswer (r : Tables) (discipline : Discipline) (steps most : ℕ) (found : Found) : Type 0 where
  pub findings : Findings Machine End Shown
  pub holds : Holds r found findings
  pub answer : IsAnswerBy r discipline steps most findings found.stopped
  pub meaning : OfItsPrograms r (λ t. IsMeantBy t (named_discipline discipline) steps findings found.stopped)
