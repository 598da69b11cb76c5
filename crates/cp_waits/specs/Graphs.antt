-- What a graph says of the states of a machine: of each the choices, and which stretches stand still.
use Rattle.std.specs.Prelude.{◌≡◌, ◌<◌, ◌+◌, ℕ, suc, List, [], ◌∷◌, ◌++◌, map, length, Bool, true, Option, None, Some, Contains, slice_get}
use Rattle.std.specs.List.{AllByRecursion as Each}
use Rattle.cp_slots.specs.Tables.{Tables}
use Rattle.cp_machine.specs.System.{Machine}
use Rattle.cp_machine.specs.declared.discipline.Discipline.{Discipline}
use Rattle.cp_run.specs.Run.{Node, Halted, Choosing, may, chosen, those_below}
use Rattle.cp_run.specs.Slots.{slots}
use Rattle.cp_run.specs.System.{System}
use Rattle.cp_run.specs.declared.outcome.Halt.{Halt}
use Rattle.cp_endless_laws.specs.Repeats.{Repeats}
use Rattle.cp_endless_laws.specs.Silent.{without_output, silent_slots, in_call_on_slots, waits_on_slots}
use Rattle.cp_endless_laws.specs.Standstill.{IsStandstill}
use Rattle.cp_ends.specs.Holds.{Holds, SlotFindings}
use Rattle.cp_ends.specs.Whole.{IsWhole}
use Rattle.cp_ends.specs.declared.found.Found.{Found}
use Rattle.cp_ends.specs.declared.origin.Origin.{Origin}
use Rattle.cp_ends.specs.declared.origin.Origin.TheVariants.{Start, Choice}
use Rattle.cp_ends.specs.Legs.{Leg, first_leg, choice_leg}
use Rattle.cp_waits.specs.Legs.{GoesRound, ComesTo}
use Rattle.cp_waits.specs.Sets.{has}
use Rattle.cp_waits.specs.Walks.{first_edge, end_edge}
use Rattle.cp_waits.specs.declared.graph.Edge.{Edge}
use Rattle.cp_waits.specs.declared.graph.Graph.{Graph}
use Rattle.cp_waits.specs.declared.graph.Standstill.{Standstill}
use Rattle.cp_waits.specs.declared.passing.PassingSets.{PassingSets}

-- ---- the choices of a state

-- the state of this number is where it stands; none, where the run is over or goes on for ever without a choice
abbrev pub IsNumber : {S : Type 0} → List (S × List ℕ) → Node S → Option ℕ → Type 0
IsNumber states (Halted kind s) to = to ≡ None
IsNumber states (Choosing s) to = (j : ℕ) × (word : List ℕ) × (to ≡ Some j) × (slice_get states j ≡ Some (s, word))

-- the edge is the choice of its number in the state: it tells where that leads, and what is seen of it
pub record IsChoice {S : Type 0} (sys : System S) (inside waiting : S → ℕ → Bool) (steps : ℕ) (states : List (S × List ℕ)) (s : S) (e : Edge) : Type 0 where
  pub to : IsNumber states (chosen sys steps s e.number) e.to
  pub halt : Halt (Option PassingSets)
  pub last : S
  pub seen : ComesTo sys inside waiting steps (choice_leg sys steps s e.number) (s ∷ []) e.passing halt last

-- one for each number that may be chosen, in rising order
pub record AreChoices {S : Type 0} (sys : System S) (inside waiting : S → ℕ → Bool) (steps : ℕ) (states : List (S × List ℕ)) (s : S) (edges : List Edge) : Type 0 where
  pub numbers : map (λ e. e.number) edges ≡ those_below sys.processes (may sys s)
  pub choices : Each (IsChoice sys inside waiting steps states s) edges

-- the edges of the state of this number
pub record AreEdges (g : Graph) (i : ℕ) (edges : List Edge) : Type 0 where
  pub before : List Edge
  pub after : List Edge
  pub all : g.edges.items ≡ before ++ edges ++ after
  pub begin : length before ≡ first_edge g i
  pub end : length before + length edges ≡ end_edge g i

-- ---- stretches that stand still

-- the leg from the start, or that of a choice that may be made in a state
abbrev pub IsLegFrom : {S : Type 0} → System S → ℕ → List (S × List ℕ) → Origin → Leg S → Type 0
IsLegFrom sys steps states Start leg = leg ≡ first_leg sys steps
IsLegFrom {S} sys steps states (Choice at number) leg =
    (x : S × List ℕ) × (slice_get states at ≡ Some x) × (may sys x.0 number ≡ true) × (leg ≡ choice_leg sys steps x.0 number)

-- its stretch is seen to repeat; in the part that repeats each process is served, and this one waits in all of it
pub record LetsWait {S : Type 0} (sys : System S) (waiting : S → ℕ → Bool) (steps : ℕ) (leg : Leg S) (q : ℕ) : Type 0 where
  pub begin : S
  pub first : ℕ
  pub spot : leg.spot ≡ Some (begin, first)
  pub repeats : Repeats sys steps begin first
  pub still : IsStandstill sys waiting q repeats.state repeats.process (suc repeats.after)

-- the standstill is such a stretch, which is seen to repeat and serves each process
pub record IsStill {S : Type 0} (sys : System S) (inside waiting : S → ℕ → Bool) (steps : ℕ) (states : List (S × List ℕ)) (still : Standstill) : Type 0 where
  pub leg : Leg S
  pub from : IsLegFrom sys steps states still.origin leg
  pub round : GoesRound sys inside waiting steps leg still.again
  pub fair : (q : ℕ) → q < sys.processes → has still.again.served q ≡ true

-- a standstill from there says that the process waits
pub record HasStill (g : Graph) (origin : Origin) (q : ℕ) : Type 0 where
  pub still : Standstill
  pub known : Contains g.standstills.items still
  pub from : still.origin ≡ origin
  pub waits : has still.again.wait q ≡ true

-- ---- the graph

-- The graph of these states, each with its word: of each exactly its choices; and of the stretches from the start and of their choices exactly
-- those that are seen to repeat, serve each process, and let some process wait.
pub record IsGraphOf {S : Type 0} (sys : System S) (inside waiting : S → ℕ → Bool) (steps : ℕ) (states : List (S × List ℕ)) (g : Graph) : Type 0 where
  pub processes : g.processes ≡ sys.processes
  pub count : length g.ends.items ≡ length states
  pub edges : (i : ℕ) (x : S × List ℕ) → slice_get states i ≡ Some x → (es : List Edge) × AreEdges g i es × AreChoices sys inside waiting steps states x.0 es
  pub stills : (still : Standstill) → Contains g.standstills.items still → IsStill sys inside waiting steps states still
  pub all_stills : (origin : Origin) (leg : Leg S) (q : ℕ) → q < sys.processes → IsLegFrom sys steps states origin leg → LetsWait sys waiting steps leg q → HasStill g origin q

-- of the slot machine that shows nothing
abbrev pub IsSlotGraphOf : Tables → Discipline → ℕ → List (Machine × List ℕ) → Graph → Type 0
IsSlotGraphOf r discipline steps states g = IsGraphOf (silent_slots r discipline) in_call_on_slots waits_on_slots steps states g

-- all states were found, and it is their graph
pub record HasGraph (r : Tables) (discipline : Discipline) (steps : ℕ) (found : Found) (g : Graph) : Type 0 where
  pub most : ℕ
  pub findings : SlotFindings
  pub holds : Holds r found findings
  pub whole : IsWhole (slots r discipline) without_output steps most findings
  pub graph : IsSlotGraphOf r discipline steps findings.states g
