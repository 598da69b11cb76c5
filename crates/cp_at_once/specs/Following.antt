-- What the search follows: from an arrival to a kept state or to an end that is found, by legs that are made at once.
use Rattle.std.specs.Prelude.{◌≡◌, ◌⊎◌, ◌≤◌, ◌<◌, ◌||◌, nat_lt, ℕ, zero, suc, List, Bool, true, false, Some, All, Contains, length, slice_get}
use Rattle.std.specs.List.{list_any}
use Rattle.cp_slots.specs.Tables.{Tables}
use Rattle.cp_machine.specs.declared.shown.Shown.{Shown}
use Rattle.cp_machine.specs.System.{Machine}
use Rattle.cp_ends.specs.Answer.{ends_tests}
use Rattle.cp_ends.specs.Graph.{Goal, Place, Graph, LeadsToPlace}
use Rattle.cp_ends.specs.Graph as graph
use Rattle.cp_ends.specs.Holds.{same_key, SlotArrival}
use Rattle.cp_ends.specs.Searched.{has}
use Rattle.cp_ends.specs.declared.end.End.{End}
use Rattle.cp_ends.specs.declared.found.TheConstants.{MOST_VALUES}
use Rattle.cp_at_once.specs.Holds.{Holds}
use Rattle.cp_at_once.specs.declared.found.FoundAtOnce.{FoundAtOnce}

abbrev pub SlotGraph : Type 0
SlotGraph = Graph Machine End Shown

-- whether this end is found
abbrev pub knows_end : FoundAtOnce → End → Bool
knows_end found e = list_any (λ x. ends_tests.end x.end e) found.ends.items

-- whether this value is found, or more values than are told
abbrev pub knows_value : FoundAtOnce → Shown → Bool
knows_value found v = list_any (λ x. ends_tests.value x.value v) found.values.items || nat_lt MOST_VALUES (length found.values.items)

-- an end is found, a choice is followed
abbrev pub IsKnownGoal : FoundAtOnce → (Machine → Type 0) → Goal Machine End → Type 0
IsKnownGoal found followed (Place s) = followed s
IsKnownGoal found followed (graph.End e) = knows_end found e ≡ true

-- where a stretch arrives is expanded, and what it shows is found
pub record IsGone (found : FoundAtOnce) (followed : Machine → Type 0) (a : SlotArrival) : Type 0 where
  pub goal : IsKnownGoal found followed a.goal
  pub shown : (v : Shown) → Contains a.shown v → knows_value found v ≡ true

-- A due choice is followed: its state is kept, or one process makes a leg at once (`Leg`), and where that arrives is expanded, with c in a row at most.
abbrev pub Follows : SlotGraph → (Machine → ℕ → Type 0) → FoundAtOnce → List (Machine × List ℕ) → ℕ → Machine → Type 0
Follows g Leg found states zero s = has same_key states s ≡ true
Follows g Leg found states (suc c) s = (has same_key states s ≡ true) ⊎ ((p : ℕ) × (g.may s p ≡ true) × Leg s p × IsGone found (Follows g Leg found states c) (g.on s p))

-- what is found stays found
pub record Grows (before : FoundAtOnce) (states : List (Machine × List ℕ)) (after : FoundAtOnce) (more : List (Machine × List ℕ)) : Type 0 where
  pub ends : (e : End) → knows_end before e ≡ true → knows_end after e ≡ true
  pub values : (v : Shown) → knows_value before v ≡ true → knows_value after v ≡ true
  pub kept : (m : Machine) → has same_key states m ≡ true → has same_key more m ≡ true
  pub places : (i : ℕ) (x : Machine × List ℕ) → slice_get states i ≡ Some x → slice_get more i ≡ Some x

-- an end is noted
abbrev pub NotesEnd : Tables → SlotGraph → ℕ → FoundAtOnce → List (Machine × List ℕ) → FoundAtOnce → End → Type 0
NotesEnd r g most before states after e = Holds r g most after states × Grows before states after states × (knows_end after e ≡ true)

-- values are noted
abbrev pub NotesValues : Tables → SlotGraph → ℕ → FoundAtOnce → List (Machine × List ℕ) → FoundAtOnce → List Shown → Type 0
NotesValues r g most before states after values = Holds r g most after states × Grows before states after states × All (λ v. knows_value after v ≡ true) values

-- an arrival is noted: its values, and its end if it is one
abbrev pub NotesArrival : Tables → SlotGraph → ℕ → FoundAtOnce → List (Machine × List ℕ) → FoundAtOnce → SlotArrival → Type 0
NotesArrival r g most before states after a = Holds r g most after states × Grows before states after states × ((v : Shown) → Contains a.shown v → knows_value after v ≡ true) × ((e : End) → a.goal ≡ graph.End e → knows_end after e ≡ true)

-- there is a state too many: schedules lead to more states than may be kept
pub record IsOneTooMany (g : SlotGraph) (most : ℕ) (states : List (Machine × List ℕ)) : Type 0 where
  pub state : Machine
  pub word : List ℕ
  pub leads : LeadsToPlace g state word
  pub new : has same_key states state ≡ false
  pub full : most ≤ length states

-- what holds when a due choice is to be kept; `false` where its state is one too many
abbrev pub IsKept : Tables → SlotGraph → ℕ → FoundAtOnce → List (Machine × List ℕ) → FoundAtOnce → Machine → Bool → Type 0
IsKept r g most before states after m true = (more : List (Machine × List ℕ)) × Holds r g most after more × Grows before states after more × (has same_key more m ≡ true)
IsKept r g most before states after m false = Holds r g most after states × IsOneTooMany g most states

-- what holds when an arrival was expanded with c legs in a row at most; `false` where there is a state too many
abbrev pub GoesOn : Tables → SlotGraph → (Machine → ℕ → Type 0) → (most c : ℕ) → FoundAtOnce → List (Machine × List ℕ) → FoundAtOnce → SlotArrival → Bool → Type 0
GoesOn r g Leg most c before states after a true = (more : List (Machine × List ℕ)) × Holds r g most after more × Grows before states after more × IsGone after (Follows g Leg after more c) a
GoesOn r g Leg most c before states after a false = (more : List (Machine × List ℕ)) × Holds r g most after more × IsOneTooMany g most more

-- each choice of a state was followed
abbrev pub IsDone : SlotGraph → (Machine → ℕ → Type 0) → (c : ℕ) → FoundAtOnce → List (Machine × List ℕ) → Machine → Type 0
IsDone g Leg c found states s = (p : ℕ) → g.may s p ≡ true → IsGone found (Follows g Leg found states c) (g.on s p)

-- The first arrival and each choice of the first n kept states were followed.
pub record IsGoneThrough (g : SlotGraph) (Leg : Machine → ℕ → Type 0) (c n : ℕ) (found : FoundAtOnce) (states : List (Machine × List ℕ)) : Type 0 where
  pub start : IsGone found (Follows g Leg found states c) g.start
  pub on : (i : ℕ) (x : Machine × List ℕ) → i < n → slice_get states i ≡ Some x → IsDone g Leg c found states x.0

-- so it is for kept states
abbrev pub GoesThrough : Tables → SlotGraph → (Machine → ℕ → Type 0) → (most c n : ℕ) → FoundAtOnce → Type 0
GoesThrough r g Leg most c n found = (states : List (Machine × List ℕ)) × Holds r g most found states × IsGoneThrough g Leg c n found states

-- so were these choices of the one after them, in which the machine stands
pub record Within (r : Tables) (g : SlotGraph) (Leg : Machine → ℕ → Type 0) (most c : ℕ) (found : FoundAtOnce) (at : ℕ) (m : Machine) (done : List ℕ) : Type 0 where
  pub states : List (Machine × List ℕ)
  pub word : List ℕ
  pub is : slice_get states at ≡ Some (m, word)
  pub holds : Holds r g most found states
  pub through : IsGoneThrough g Leg c at found states
  pub on : All (λ p. IsGone found (Follows g Leg found states c) (g.on m p)) done

-- the answer of a search: all was gone through, or there is a state too many
abbrev pub Answers : Tables → SlotGraph → (Machine → ℕ → Type 0) → (most c : ℕ) → FoundAtOnce → Bool → Type 0
Answers r g Leg most c found true = (states : List (Machine × List ℕ)) × Holds r g most found states × IsGoneThrough g Leg c (length states) found states
Answers r g Leg most c found false = (states : List (Machine × List ℕ)) × Holds r g most found states × IsOneTooMany g most states
