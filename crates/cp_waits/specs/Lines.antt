-- What is said of who may wait for ever, and what it says of the graph.
use Rattle.std.specs.Prelude.{◌≡◌, ◌⊎◌, ◌<◌, ℕ, zero, suc, List, [], ◌∷◌, ◌++◌, Option, Some, true, false, Contains}
use Rattle.cp_slots.specs.Tables.{Tables}
use Rattle.cp_machine.specs.System.{Machine}
use Rattle.cp_ends.specs.Holds.{AreStates, IsWordOf, origin_at}
use Rattle.cp_ends.specs.declared.origin.Origin.{Origin}
use Rattle.cp_ends.specs.declared.states.States.{States}
use Rattle.cp_waits.specs.declared.graph.Edge.{Edge}
use Rattle.cp_waits.specs.declared.graph.Graph.{Graph}
use Rattle.cp_waits.specs.declared.graph.Standstill.{Standstill}
use Rattle.cp_waits.specs.declared.passing.Keeping.{Keeping}
use Rattle.cp_waits.specs.declared.passing.Keeping.TheVariants as keeping
use Rattle.cp_waits.specs.declared.waiting.WaitFinding.{WaitFinding}
use Rattle.cp_waits.specs.declared.waiting.WaitFinding.TheVariants as answer
use Rattle.cp_waits.specs.declared.waiting.How.{How}
use Rattle.cp_waits.specs.declared.waiting.How.TheVariants.{Throughout, ForGood, InItsCall}
use Rattle.cp_waits.specs.declared.waiting.Waiting.{Waiting}
use Rattle.cp_waits.specs.declared.waiting.Waits.{Waits}
use Rattle.cp_waits.specs.declared.waiting.Waits.TheVariants.{Known, NotSettled}
use Rattle.cp_waits.specs.Keeps.{keeps}
use Rattle.cp_waits.specs.Ranks.{AreRanks}
use Rattle.cp_waits.specs.Sets.{has}
use Rattle.cp_waits.specs.Traps.{HasTraps}
use Rattle.cp_waits.specs.Walks.{IsEdge, IsRound}

-- the word is the one of this origin, among those that were found
abbrev pub IsWordFrom : States → Origin → List ℕ → Type 0
IsWordFrom states origin word = (r : Tables) (list : List (Machine × List ℕ)) (w : List ℕ) → AreStates r states list → IsWordOf list origin w → word ≡ w

-- ---- yes

-- the first word leads to a state of the graph, and the second one goes a round from it
pub record ShowsRound (g : Graph) (states : States) (keeping : Keeping) (line : Waiting) : Type 0 where
  pub state : ℕ
  pub first : IsWordFrom states (origin_at states.known.entries state) line.first.items
  pub again : IsRound g keeping state line.again.items

-- the first word leads to a stretch that goes on for ever without a choice, and in which the process waits
pub record ShowsStandstill (g : Graph) (states : States) (line : Waiting) : Type 0 where
  pub still : Standstill
  pub known : Contains g.standstills.items still
  pub waits : has still.again.wait line.process ≡ true
  pub first : IsWordFrom states still.origin line.first.items
  pub again : line.again.items ≡ []

-- ---- no

-- the process does not keep doing this for ever
abbrev pub HasRanks : Graph → Keeping → Type 0
HasRanks g keeping = (rank : ℕ → ℕ) × (passed_over : ℕ → Option ℕ) × AreRanks g keeping rank passed_over

-- in no stretch that goes on for ever without a choice does it wait
abbrev pub StandsStillNever : Graph → ℕ → Type 0
StandsStillNever g q = (still : Standstill) → Contains g.standstills.items still → has still.again.wait q ≡ false

pub record NeverWaits (g : Graph) (q : ℕ) : Type 0 where
  pub ranks : HasRanks g (keeping.Waiting q)
  pub moves : StandsStillNever g q

-- ---- left open

-- on no choice that leads on, and on which the process keeps doing this, is the other one served
abbrev pub IsUnservedOn : Graph → Keeping → ℕ → Type 0
IsUnservedOn g keeping p = (i : ℕ) (e : Edge) → IsEdge g i e → (j : ℕ) → keeps keeping e.passing ≡ true → e.to ≡ Some j → has e.passing.served p ≡ false

-- there is no such process
abbrev pub LeavesNobodyOn : Graph → Keeping → Type 0
LeavesNobodyOn g keeping = (p : ℕ) → p < g.processes → IsUnservedOn g keeping p → ⊥

-- in a stretch that goes on for ever without a choice it waits
abbrev pub StandsStill : Graph → ℕ → Type 0
StandsStill g q = (still : Standstill) × Contains g.standstills.items still × (has still.again.wait q ≡ true)

-- Only of such a process it may be left open whether it waits for ever: it waits in a stretch that goes on for ever without a choice; or nobody is left unserved while it waits, or
-- while it is in its call.
abbrev pub MayBeOpen : Graph → ℕ → Type 0
MayBeOpen g q = StandsStill g q ⊎ (LeavesNobodyOn g (keeping.Waiting q) ⊎ LeavesNobodyOn g (keeping.Inside q))

-- ---- the lines

abbrev pub IsShown : Graph → States → Waiting → How → Type 0
IsShown g states line Throughout = ShowsRound g states (keeping.Waiting line.process) line
IsShown g states line ForGood = (ShowsRound g states (keeping.Waiting line.process) line ⊎ ShowsStandstill g states line) × HasTraps g (keeping.Waiting line.process)
IsShown g states line InItsCall = ShowsRound g states (keeping.Inside line.process) line × NeverWaits g line.process

-- a line of a process
abbrev pub IsLine : Graph → States → ℕ → Waiting → Type 0
IsLine g states q line = (line.process ≡ q) × IsShown g states line line.how

-- a process has no line: it neither waits for ever, nor stays in its call for ever while it waits again and again
abbrev pub HasNoLine : Graph → ℕ → Type 0
HasNoLine g q = NeverWaits g q × HasRanks g (keeping.Inside q)

abbrev pub IsAnswer : Graph → States → ℕ → WaitFinding → Type 0
IsAnswer g states q (answer.Yes line) = IsLine g states q line
IsAnswer g states q answer.No = HasNoLine g q
IsAnswer g states q answer.NotSettled = MayBeOpen g q

-- the lines of the processes below n, by number: each has one, or it is shown that it has none
abbrev pub AreLines : Graph → States → ℕ → List Waiting → Type 0
AreLines g states zero lines = lines ≡ []
AreLines g states (suc n) lines =
    (AreLines g states n lines × HasNoLine g n) ⊎ ((before : List Waiting) × (line : Waiting) × (lines ≡ before ++ line ∷ []) × AreLines g states n before × IsLine g states n line)

-- all lines; or those of the first processes are known, and of the next one it is left open
abbrev pub SayWhoWaits : Graph → States → Waits → Type 0
SayWhoWaits g states (Known lines) = AreLines g states g.processes lines.items
SayWhoWaits g states (NotSettled q) = (q < g.processes) × ((lines : List Waiting) × AreLines g states q lines) × MayBeOpen g q
