-- What a search of the code answers: what the search through the graph of the slot machine finds.
use Rattle.std.specs.Prelude.{◌≡◌, ◌<◌, ◌≤◌, ℕ, List, [], ◌∷◌, ◌++◌, Bool, true, false, Option, None, Some, length, slice_get}
use Rattle.cp_slots.specs.Tables.{Tables}
use Rattle.cp_machine.specs.declared.discipline.Discipline.{Discipline}
use Rattle.cp_machine.specs.declared.shown.Shown.{Shown}
use Rattle.cp_machine.specs.contracts.shown.ShownPartialEq.TheImpl as shown_eq
use Rattle.cp_machine.specs.System.{Machine}
use Rattle.cp_run.specs.Slots.{slots}
use Rattle.cp_run.specs.declared.outcome.Halt.{Halt}
use Rattle.cp_run.specs.declared.outcome.Halt.TheVariants as halt
use Rattle.cp_endless_laws.specs.Silent.{without_output}
use Rattle.cp_ends.specs.Arrivals.{ends_graph}
use Rattle.cp_ends.specs.Graph as graph
use Rattle.cp_ends.specs.Graph.{Goal, Place, Graph}
use Rattle.cp_ends.specs.Holds.{same_key, Holds, SlotFindings, SlotArrival}
use Rattle.cp_ends.specs.Searched.{Tests, has, with_values, with_goal, gone_on, searched}
use Rattle.cp_ends.specs.contracts.end.EndPartialEq.TheImpl as end_eq
use Rattle.cp_ends.specs.declared.end.End.{End}
use Rattle.cp_ends.specs.declared.found.Arrived.{Arrived}
use Rattle.cp_ends.specs.declared.found.Arrived.TheVariants.{Ended, At, Full}
use Rattle.cp_ends.specs.declared.found.Found.{Found}

-- which states, ends and values are one; one value more is kept than is told
abbrev pub ends_tests : Tests Machine End Shown
ends_tests = record { state = same_key; end = (end_eq.ghosts).eq; value = (shown_eq.ghosts).eq; most = 1001 }

abbrev pub slot_graph : Tables → Discipline → ℕ → Graph Machine End Shown
slot_graph r discipline steps = ends_graph (slots r discipline) without_output same_key steps

-- the values of an arrival are found, and not yet where it arrives
abbrev pub with_shown : SlotFindings → List ℕ → SlotArrival → SlotFindings
with_shown f word a = record f { values = with_values ends_tests.value ends_tests.most f.values a.shown word }

-- the findings of the code, with at most so many states
pub record HoldsFew (r : Tables) (most : ℕ) (found : Found) (f : SlotFindings) : Type 0 where
  pub holds : Holds r found f
  pub few : length f.states ≤ most

-- a state that was not found, where there are already so many
abbrev pub IsTooMany : ℕ → SlotFindings → Goal Machine End → Type 0
IsTooMany most f (Place s) = (has same_key f.states s ≡ false) × (length f.states ≡ most)
IsTooMany most f (graph.End e) = ⊥

-- there is room where a word arrives
abbrev pub has_room : Arrived → Bool
has_room Full = false
has_room _ = true

abbrev pub number_of : Arrived → Option ℕ
number_of (At number) = Some number
number_of _ = None

-- where a stretch halts that arrives there
abbrev pub halt_of : Arrived → Halt End
halt_of (Ended e) = halt.Ended e
halt_of _ = halt.Choice

-- the state of this number
abbrev pub HasNumber : List (Machine × List ℕ) → Machine → ℕ → Type 0
HasNumber states m number = (word : List ℕ) × (slice_get states number ≡ Some (m, word))

abbrev pub IsGoalAt : List (Machine × List ℕ) → Goal Machine End → ℕ → Type 0
IsGoalAt states (Place m) number = HasNumber states m number
IsGoalAt states (graph.End e) number = Unit {0}

-- what is found when a word comes to a goal, and arrives there
abbrev pub Comes : Tables → ℕ → Found → SlotFindings → List ℕ → Goal Machine End → Arrived → Type 0
Comes r most found f word goal Full = Holds r found f × IsTooMany most f goal
Comes r most found f word goal (At number) = HoldsFew r most found (with_goal ends_tests f word goal) × IsGoalAt (with_goal ends_tests f word goal).states goal number
Comes r most found f word goal (Ended e) = HoldsFew r most found (with_goal ends_tests f word goal)

-- the same of an arrival, with its values
abbrev pub Arrives : Tables → ℕ → Found → SlotFindings → List ℕ → SlotArrival → Arrived → Type 0
Arrives r most found f word a arrived = Comes r most found (with_shown f word a) word a.goal arrived

-- A state with its word is expanded with each edge below a number, which leads to a state too many.
pub record Stops (r : Tables) (g : Graph Machine End Shown) (most : ℕ) (found : Found) (f : SlotFindings) (x : Machine × List ℕ) : Type 0 where
  pub number : ℕ
  pub below : number < g.below
  pub may : g.may x.0 number ≡ true
  pub state : Machine
  pub goal : (g.on x.0 number).goal ≡ Place state
  pub new : has same_key (gone_on g ends_tests x number f).states state ≡ false
  pub full : length (gone_on g ends_tests x number f).states ≡ most
  pub holds : Holds r found (with_shown (gone_on g ends_tests x number f) (x.1 ++ number ∷ []) (g.on x.0 number))

-- Each state was expanded.
pub record IsDone (r : Tables) (g : Graph Machine End Shown) (most : ℕ) (found : Found) : Type 0 where
  pub count : ℕ
  pub holds : Holds r found (searched g ends_tests count)
  pub states : length (searched g ends_tests count).states ≡ count
  pub few : count ≤ most

-- The states before the one of this number were expanded, and from this one there is a state too many.
pub record IsStopped (r : Tables) (g : Graph Machine End Shown) (most : ℕ) (found : Found) (at : ℕ) : Type 0 where
  pub from : Machine × List ℕ
  pub is : slice_get (searched g ends_tests at).states at ≡ Some from
  pub stops : Stops r g most found (searched g ends_tests at) from

-- the answer of a search: it stopped at this state, or at none
abbrev pub IsSearch : Tables → Graph Machine End Shown → ℕ → Found → Option ℕ → Type 0
IsSearch r g most found None = IsDone r g most found
IsSearch r g most found (Some at) = IsStopped r g most found at
