-- What the choices of states add to a graph.
use Rattle.std.specs.Prelude.{◌≡◌, ◌⊎◌, ◌≤◌, ◌<◌, ℕ, List, ◌++◌, map, length, Bool, true, Option, None, Some, Contains, slice_get}
use Rattle.std.specs.List.{AllByRecursion as Each}
use Rattle.cp_slots.specs.Tables.{Tables}
use Rattle.cp_machine.specs.System.{Machine}
use Rattle.cp_machine.specs.declared.discipline.Discipline.{Discipline}
use Rattle.cp_run.specs.Run.{may, stretch}
use Rattle.cp_run.specs.System.{System}
use Rattle.cp_endless_laws.specs.Silent.{silent_slots, in_call_on_slots, waits_on_slots}
use Rattle.cp_ends.specs.Answer.{HoldsFew, IsDone, IsStopped, ends_tests, slot_graph}
use Rattle.cp_ends.specs.Holds.{SlotFindings}
use Rattle.cp_ends.specs.Legs.{Leg, first_leg, choice_leg}
use Rattle.cp_ends.specs.Searched.{Grows, searched}
use Rattle.cp_ends.specs.Visited.{gone_with}
use Rattle.cp_ends.specs.Visited as visited
use Rattle.cp_ends.specs.declared.found.Found.{Found}
use Rattle.cp_ends.specs.declared.origin.Origin.{Origin}
use Rattle.cp_ends.specs.declared.origin.Origin.TheVariants.{Start, Choice}
use Rattle.cp_waits.specs.Graphs.{AreEdges, AreChoices, HasStill, IsChoice, IsSlotGraphOf, IsStill, LetsWait}
use Rattle.cp_waits.specs.Legs.{GoesRound}
use Rattle.cp_waits.specs.Sets.{has}
use Rattle.cp_waits.specs.Walks.{first_edge}
use Rattle.cp_waits.specs.declared.graph.Edge.{Edge}
use Rattle.cp_waits.specs.declared.graph.Graph.{Graph}
use Rattle.cp_waits.specs.declared.graph.Standstill.{Standstill}

-- a leg leads where its stretch leads
abbrev pub IsOfStretch : {S : Type 0} → System S → ℕ → Leg S → Type 0
IsOfStretch {S} sys steps leg = (s : S) (p : ℕ) → leg.spot ≡ Some (s, p) → leg.node ≡ stretch sys steps s p

module _ {S : Type 0} (sys : System S) (inside waiting : S → ℕ → Bool) (steps : ℕ) where
  -- the standstill is the stretch of this leg, which is seen to repeat and serves each process
  pub record IsStillOf (leg : Leg S) (origin : Origin) (still : Standstill) : Type 0 where
    pub from : still.origin ≡ origin
    pub round : GoesRound sys inside waiting steps leg still.again
    pub fair : (q : ℕ) → q < sys.processes → has still.again.served q ≡ true

  -- the second graph has the standstills of the first, and that of this leg, if it lets a process wait
  pub record AddsStill (leg : Leg S) (origin : Origin) (old new : Graph) : Type 0 where
    pub keeps : (still : Standstill) → Contains old.standstills.items still → Contains new.standstills.items still
    pub is : (still : Standstill) → Contains new.standstills.items still → Contains old.standstills.items still ⊎ IsStillOf leg origin still
    pub all : (q : ℕ) → q < sys.processes → LetsWait sys waiting steps leg q → HasStill new origin q

  -- it has the edges of these choices of the state of this number, and their standstills
  pub record AddsChoices (states : List (S × List ℕ)) (i : ℕ) (s : S) (numbers : List ℕ) (old new : Graph) : Type 0 where
    pub processes : new.processes ≡ old.processes
    pub ends : new.ends.items ≡ old.ends.items
    pub edges : List Edge
    pub more : new.edges.items ≡ old.edges.items ++ edges
    pub numbered : map (λ e. e.number) edges ≡ numbers
    pub choices : Each (IsChoice sys inside waiting steps states s) edges
    pub keeps : (still : Standstill) → Contains old.standstills.items still → Contains new.standstills.items still
    pub is : (still : Standstill) → Contains new.standstills.items still → Contains old.standstills.items still ⊎ IsStill sys inside waiting steps states still
    pub all : (p q : ℕ) → Contains numbers p → q < sys.processes → LetsWait sys waiting steps (choice_leg sys steps s p) q → HasStill new (Choice i p) q

  -- the graph of the first n of the states
  pub record IsGraphTo (states : List (S × List ℕ)) (n : ℕ) (g : Graph) : Type 0 where
    pub within : n ≤ length states
    pub processes : g.processes ≡ sys.processes
    pub count : length g.ends.items ≡ n
    pub end : length g.edges.items ≡ first_edge g n
    pub edges : (i : ℕ) (x : S × List ℕ) → i < n → slice_get states i ≡ Some x → (es : List Edge) × AreEdges g i es × AreChoices sys inside waiting steps states x.0 es
    pub stills : (still : Standstill) → Contains g.standstills.items still → IsStill sys inside waiting steps states still
    pub first : (q : ℕ) → q < sys.processes → LetsWait sys waiting steps (first_leg sys steps) q → HasStill g Start q
    pub all : (i : ℕ) (x : S × List ℕ) (p q : ℕ) → i < n → slice_get states i ≡ Some x → may sys x.0 p ≡ true → q < sys.processes → LetsWait sys waiting steps (choice_leg sys steps x.0 p) q → HasStill g (Choice i p) q

-- of the slot machine that shows nothing
abbrev pub AddsChoicesOnSlots : Tables → Discipline → ℕ → List (Machine × List ℕ) → ℕ → Machine → List ℕ → Graph → Graph → Type 0
AddsChoicesOnSlots r discipline steps states i m numbers old new = AddsChoices (silent_slots r discipline) in_call_on_slots waits_on_slots steps states i m numbers old new

abbrev pub IsSlotGraphTo : Tables → Discipline → ℕ → List (Machine × List ℕ) → ℕ → Graph → Type 0
IsSlotGraphTo r discipline steps states n g = IsGraphTo (silent_slots r discipline) in_call_on_slots waits_on_slots steps states n g

-- ---- how far a search has come

module _ (r : Tables) (discipline : Discipline) (steps most : ℕ) where
  abbrev pub findings_at : ℕ → SlotFindings
  findings_at n = searched (slot_graph r discipline steps) ends_tests n

  -- the states before this number were expanded, and it is their graph, whatever is found after them
  pub record IsBuiltTo (found : Found) (n : ℕ) (g : Graph) : Type 0 where
    pub ends : HoldsFew r most found (findings_at n)
    pub graph : (states : List (Machine × List ℕ)) → Grows (findings_at n).states states → IsSlotGraphTo r discipline steps states n g

  -- and so was the state of this number, which is the machine, with these choices
  pub record IsWithin (found : Found) (at : ℕ) (m : Machine) (numbers : List ℕ) (g : Graph) : Type 0 where
    pub ends : visited.IsWithin r (slot_graph r discipline steps) most found at m numbers
    pub old : Graph
    pub before : (states : List (Machine × List ℕ)) → Grows (findings_at at).states states → IsSlotGraphTo r discipline steps states at old
    pub adds : (states : List (Machine × List ℕ)) → Grows (gone_with (slot_graph r discipline steps) ends.from numbers (findings_at at)).states states → AddsChoicesOnSlots r discipline steps states at m numbers old g

  -- each state was expanded, and it is their graph
  pub record IsBuilt (found : Found) (g : Graph) : Type 0 where
    pub whole : visited.IsWhole r (slot_graph r discipline steps) most found
    pub graph : (states : List (Machine × List ℕ)) → Grows (findings_at whole.count).states states → IsSlotGraphTo r discipline steps states whole.count g

  -- the answer of a search: each state was expanded, and it is their graph, or it stopped at this state
  abbrev pub IsSearchedGraph : Found → Graph → Option ℕ → Type 0
  IsSearchedGraph found g None = (done : IsDone r (slot_graph r discipline steps) most found) × IsSlotGraphOf r discipline steps (findings_at done.count).states g
  IsSearchedGraph found g (Some at) = IsStopped r (slot_graph r discipline steps) most found at
