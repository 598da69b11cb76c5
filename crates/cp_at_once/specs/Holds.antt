-- What the findings of the code stand for: the kept states, each with its word, and words that lead to the ends and values.
use Rattle.std.specs.Prelude.{◌≡◌, ◌≢◌, ◌<◌, ◌≤◌, ℕ, List, [], ◌∷◌, ◌++◌, All, Option, None, Some, length, slice_get}
use Rattle.std.specs.List.{AllPairs}
use Rattle.cp_slots.specs.Tables.{Tables}
use Rattle.cp_key.specs.Room.{IsMachineOf}
use Rattle.cp_machine.specs.declared.shown.Shown.{Shown}
use Rattle.cp_machine.specs.System.{Machine}
use Rattle.cp_ends.specs.Graph.{Graph, LeadsToPlace, LeadsToEnd, ShowsLast}
use Rattle.cp_ends.specs.Holds as by_states
use Rattle.cp_ends.specs.Rows.{IsHalvedRow}
use Rattle.cp_ends.specs.declared.end.End.{End}
use Rattle.cp_ends.specs.declared.row.HalvedRow.{HalvedRow}
use Rattle.cp_ends.specs.declared.states.States.{States}
use Rattle.cp_at_once.specs.declared.found.FoundAtOnce.{FoundAtOnce}
use Rattle.cp_at_once.specs.declared.kept.Kept.{Kept}
use Rattle.cp_at_once.specs.declared.origin.OriginAtOnce.{OriginAtOnce}

-- the word of a kept state, if one is named, and these numbers
abbrev pub IsWordBy : List (Machine × List ℕ) → Option ℕ → List ℕ → List ℕ → Type 0
IsWordBy states None numbers word = word ≡ numbers
IsWordBy states (Some at) numbers word = (x : Machine × List ℕ) × (slice_get states at ≡ Some x) × (word ≡ x.1 ++ numbers)

-- the word that an origin stands for
abbrev pub IsWordOf : List (Machine × List ℕ) → OriginAtOnce → List ℕ → Type 0
IsWordOf states o word = IsWordBy states o.state o.numbers.items word

-- the word that an origin stands for is so
abbrev pub HasWord : List (Machine × List ℕ) → OriginAtOnce → (List ℕ → Type 0) → Type 0
HasWord states o P = (word : List ℕ) × IsWordOf states o word × P word

-- it goes back to a kept state before the one of this number
abbrev pub IsBefore : ℕ → Option ℕ → Type 0
IsBefore n None = Unit {0}
IsBefore n (Some at) = at < n

-- where the state of this number comes from, and the numbers after it
abbrev pub state_of : Option (HalvedRow × OriginAtOnce) → Option ℕ
state_of None = None
state_of (Some e) = e.1.state

abbrev pub numbers_of : Option (HalvedRow × OriginAtOnce) → List ℕ
numbers_of None = []
numbers_of (Some e) = e.1.numbers.items

abbrev pub state_at : List (HalvedRow × OriginAtOnce) → ℕ → Option ℕ
state_at entries at = state_of (slice_get entries at)

abbrev pub numbers_at : List (HalvedRow × OriginAtOnce) → ℕ → List ℕ
numbers_at entries at = numbers_of (slice_get entries at)

-- the entries are the rows of the states
abbrev pub AreRows : States → List (HalvedRow × OriginAtOnce) → List (Machine × List ℕ) → Type 0
AreRows store [] [] = Unit {0}
AreRows store [] (x ∷ xs) = ⊥
AreRows store (e ∷ es) [] = ⊥
AreRows store (e ∷ es) (x ∷ xs) = IsHalvedRow store e.0.numbers x.0 × AreRows store es xs

-- the entries are as many as the states, and each has the word of its state
pub record AreStates (r : Tables) (entries : List (HalvedRow × OriginAtOnce)) (states : List (Machine × List ℕ)) : Type 0 where
  pub count : length entries ≡ length states
  pub own : All (λ x. IsMachineOf r x.0) states
  pub quiet : All (λ x. x.0.output ≡ []) states
  pub words : (i : ℕ) (e : HalvedRow × OriginAtOnce) (x : Machine × List ℕ) → slice_get entries i ≡ Some e → slice_get states i ≡ Some x → IsWordOf states e.1 x.1
  pub before : (i : ℕ) (e : HalvedRow × OriginAtOnce) → slice_get entries i ≡ Some e → IsBefore i e.1.state

-- What the code keeps are the states, each once, under the discipline of its store. What that knows of parts and legs is the program's.
pub record AreKept (r : Tables) (kept : Kept) (states : List (Machine × List ℕ)) : Type 0 where
  pub entries : AreStates r kept.known.entries states
  pub rows : AreRows kept.store kept.known.entries states
  pub apart : AllPairs (λ x y. x.0 ≢ y.0) states
  pub ruled : All (λ x. x.0.discipline ≡ kept.store.discipline) states
  pub known : by_states.AreStates r kept.store []

-- at most so many states are kept, and the words lead to them, to the ends and to the values
pub record Holds (r : Tables) (g : Graph Machine End Shown) (most : ℕ) (found : FoundAtOnce) (states : List (Machine × List ℕ)) : Type 0 where
  pub kept : AreKept r found.kept states
  pub few : length states ≤ most
  pub reached : All (λ x. LeadsToPlace g x.0 x.1) states
  pub ends : All (λ e. HasWord states e.origin (LeadsToEnd g e.end)) found.ends.items
  pub values : All (λ v. HasWord states v.origin (ShowsLast g v.value)) found.values.items
